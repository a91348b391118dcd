-- The completed steps of a run are the first of its trace.
use Rattle.std.specs.Prelude.{◌≡◌, refl, ℤ, Bool, true, false, if◌then◌else◌, List, [], ◌∷◌, ◌++◌, map, reverse, drop, is_some, Option}
use Rattle.std.specs.Prelude.{Some, None}
use Rattle.std.proofs.Common.{ap, sym, ◌∙◌, append_assoc}
use Rattle.std.proofs.lemmas.List.{reverse-reverse}
use Rattle.std.proofs.lemmas.Grind.{reverse_onto}
use Rattle.fd_program.specs.Reports.{completed_of, executed_of}
use Rattle.fd_program.specs.Runs.{after_step, refusal_of, run_from, run_past}
use Rattle.fd_program.specs.Trace.{trace_of}
use Rattle.fd_program.specs.declared.checked.Checked.{Checked}
use Rattle.fd_program.specs.declared.refused.Refused.{Refused}
use Rattle.fd_program.specs.declared.trace.Step.{Step}
use Rattle.plan_run.specs.Rows.{RunPlan, run_in}

executed_first : (c : Checked) (steps : List Step) (store : List (List ℤ))
    → (rest : List Step) × (map (λ (x : Step × List (List ℤ)). x.0) (run_from c steps store).executed ++ rest ≡ steps)
executed_first c [] store = ([], refl)
executed_first c (step ∷ steps) store = by (refusal_of c step store) (executed_first c steps (after_step c step store))
  where
    by : (o : Option Refused) → (rest : List Step)
        × (map (λ (x : Step × List (List ℤ)). x.0) (run_from c steps (after_step c step store)).executed ++ rest ≡ steps)
        → (rest : List Step) × (map (λ (x : Step × List (List ℤ)). x.0)
        (run_past step store o (run_from c steps (after_step c step store))).executed ++ rest ≡ step ∷ steps)
    by None (rest, e) = (rest, ap (λ l. step ∷ l) e)
    by (Some r) more = (steps, refl)

one_fewer : (xs ys all : List Step) → reverse xs ++ ys ≡ all → (rest : List Step) × (reverse (drop 1 xs) ++ rest ≡ all)
one_fewer [] ys all e = (ys, e)
one_fewer (x ∷ xs) ys all e = (x ∷ ys, sym (append_assoc (reverse xs) (x ∷ []) ys) ∙ ap (λ l. l ++ ys) (sym (reverse_onto xs x [])) ∙ e)

pub completed_first : (plan : RunPlan) → (rest : List Step) × (reverse (completed_of (run_in plan)) ++ rest ≡ trace_of plan.checked)
completed_first plan = by (is_some (run_in plan).refused)
  where
    steps : List Step
    steps = map (λ (x : Step × List (List ℤ)). x.0) (run_in plan).executed

    first : (rest : List Step) × (steps ++ rest ≡ trace_of plan.checked)
    first = executed_first plan.checked (trace_of plan.checked) plan.store

    all : reverse (executed_of (run_in plan)) ++ first.0 ≡ trace_of plan.checked
    all = ap (λ l. l ++ first.0) (reverse-reverse steps) ∙ first.1

    by : (b : Bool) → (rest : List Step) × (reverse (drop (if b then 1 else 0) (executed_of (run_in plan))) ++ rest ≡ trace_of plan.checked)
    by true = one_fewer (executed_of (run_in plan)) first.0 (trace_of plan.checked) all
    by false = (first.0, all)
