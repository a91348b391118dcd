-- The end of a run that isn't refused.
use Rattle.std.specs.Prelude.{◌≡◌, refl, ℕ, zero, suc, ℤ, if◌then◌else◌, List, [], ◌∷◌, ◌++◌, length, map, reverse, drop, is_some, Option}
use Rattle.std.specs.Prelude.{Some, None}
use Rattle.std.proofs.Common.{ap, ◌∙◌}
use Rattle.fd_program.specs.Layouts.{scene_of, store_at}
use Rattle.fd_program.specs.Reports.{executed_of, completed_of}
use Rattle.fd_program.specs.RunLaws.{IsReached}
use Rattle.fd_program.specs.Runs.{Run, run_past, run_from, run_of, refusal_of, after_step}
use Rattle.fd_program.specs.Trace.{trace_of}
use Rattle.fd_program.specs.declared.checked.Checked.{Checked}
use Rattle.fd_program.specs.declared.loop_facts.HomeRule.{HomeRule}
use Rattle.fd_program.specs.declared.refused.Refused.{Refused}
use Rattle.fd_program.specs.declared.trace.Step.{Step}

-- all steps of the trace are executed and completed
pub record IsWhole (c : Checked) (run : Run) : Type 0 where
  pub executed : executed_of run ≡ reverse (trace_of c)
  pub completed : completed_of run ≡ reverse (trace_of c)

abbrev pub RunIsWhole : Type 0
RunIsWhole = (c : Checked) (store : List (List ℤ)) → (run_of c store).refused ≡ None → IsWhole c (run_of c store)

-- where no step is left, the last store is the present one
abbrev pub LastIsReached : Type 0
LastIsReached = (c : Checked) (nodes : ℕ) (rule : HomeRule) (run : Run) (past : List Step) → IsReached (scene_of c nodes rule run) past []
    → run.last ≡ store_at (scene_of c nodes rule run) past

steps_past : (step : Step) (store : List (List ℤ)) (o : Option Refused) (rest : Run) (steps : List Step)
    → (rest.refused ≡ None → map (λ s. s.0) rest.executed ≡ steps) → (run_past step store o rest).refused ≡ None
    → map (λ s. s.0) (run_past step store o rest).executed ≡ step ∷ steps
steps_past step store None rest steps later e = ap (λ l. step ∷ l) (later e)
steps_past step store (Some r) rest steps later e = cc

steps_from : (c : Checked) (steps : List Step) (store : List (List ℤ)) → (run_from c steps store).refused ≡ None
    → map (λ s. s.0) (run_from c steps store).executed ≡ steps
steps_from c [] store e = refl
steps_from c (step ∷ steps) store e =
    let after = after_step c step store in
    steps_past step store (refusal_of c step store) (run_from c steps after) steps (steps_from c steps after) e

pub run_is_whole : RunIsWhole
run_is_whole c store none =
    let run = run_of c store in
    let all : executed_of run ≡ reverse (trace_of c) = ap reverse (steps_from c (trace_of c) store none) in
    record {
      executed = all;
      completed = ap (λ (o : Option Refused). drop (if is_some o then 1 else 0) (executed_of run)) none ∙ all;
    }

-- the last of a list
one_is : {A : Type 0} (xs : List A) (x y : A) → xs ++ x ∷ [] ≡ y ∷ [] → x ≡ y
one_is [] x y e = cc
one_is (z ∷ []) x y e = cc
one_is (z ∷ w ∷ zs) x y e = cc

last_is : {A : Type 0} (n : ℕ) (xs : List A) (x y : A) → drop n (xs ++ x ∷ []) ≡ y ∷ [] → x ≡ y
last_is zero xs x y e = one_is xs x y e
last_is (suc zero) [] x y e = cc
last_is (suc (suc n)) [] x y e = cc
last_is (suc n) (z ∷ xs) x y e = last_is n xs x y e

pub last_is_reached : LastIsReached
last_is_reached c nodes rule run past here = last_is (length past) (map (λ s. s.1) run.executed) run.last _ here
