-- An array printed at a phase of a plan.
use Rattle.std.specs.Prelude.{◌≡◌, refl, ℕ, zero, suc, ◌+◌, ◌≤◌, ℤ, Bool, true, false, ◌==◌, if◌then◌else◌, List, [], ◌∷◌, ◌++◌, length}
use Rattle.std.specs.Prelude.{flat_map, reverse, slice_get, take, Option, Some, None}
use Rattle.std.specs.List.{AllByRecursion}
use Rattle.std.proofs.Common.{ap, sym, ◌∙◌, subst, arith, add-one}
use Rattle.std.proofs.lemmas.List.{append_assoc, append-nil}
use Rattle.std.proofs.lemmas.List.Concat.{flat_map-append}
use Rattle.fd_words.specs.Lists.{list_at}
use Rattle.fd_program.specs.ListLaws.{all_split, all_reversed}
use Rattle.fd_program.specs.StepLaws.{IsStepOf}
use Rattle.chaos_execute.proofs.Ready.{steps_are_of_the_program}
use Rattle.fd_program.specs.Layouts.{store_at}
use Rattle.fd_program.specs.Runs.{Run, after_step, refusal_of, run_from, run_past, stores_of}
use Rattle.fd_program.specs.StoreLaws.{run_keeps_lengths}
use Rattle.fd_program.specs.Stores.{FitsStore}
use Rattle.fd_program.specs.Texts.{line_for, output_line, refusal_text}
use Rattle.fd_program.specs.Trace.{trace_of}
use Rattle.fd_program.specs.declared.array.OutputName.{OutputName}
use Rattle.fd_program.specs.declared.checked.Checked.{Checked}
use Rattle.fd_program.specs.declared.refused.Refused.{Refused}
use Rattle.fd_program.specs.declared.trace.Step.{Step}
use Rattle.plan_run.specs.Held.{Held, lines_of, text_at, text_on}
use Rattle.plan_run.specs.Phases.{Phase}
use Rattle.plan_run.specs.Rows.{RunPlan, run_in, scene_in}
use Rattle.chaos_print.specs.InPlan.{IsPrinting, OutputsBegin, OutputsEnd, OutputsGoOn, PlansCanPrint, PrintsGoOn, text_with}
use Rattle.chaos_print.specs.InRun.{IsPrintStage}
use Rattle.chaos_print.proofs.CameIn.{letters_came_in}
use Rattle.chaos_print.proofs.Lines.{lines_are_printed}
use Rattle.chaos_print.proofs.Owned.{elements_are_owned}

-- ---- what a print builds on

-- the stores of a run begin with the store before it
first_past : (step : Step) (store : List (List ℤ)) (o : Option Refused) (rest : Run) → list_at (stores_of (run_past step store o rest)) 0
    ≡ store
first_past step store None rest = refl
first_past step store (Some r) rest = refl

first_store : (c : Checked) (steps : List Step) (store : List (List ℤ)) → list_at (stores_of (run_from c steps store)) 0 ≡ store
first_store c [] store = refl
first_store c (step ∷ steps) store = first_past step store (refusal_of c step store) (run_from c steps (after_step c step store))

pub plans_can_print : PlansCanPrint
plans_can_print plan past rest known fits trace history =
    let s = scene_in plan in
    let first : FitsStore plan.checked.arrays (store_at s []) = subst (FitsStore plan.checked.arrays)
    (sym (first_store plan.checked (trace_of plan.checked) plan.store)) fits in
    let all : AllByRecursion (IsStepOf plan.checked) (reverse past ++ rest) = subst (AllByRecursion (IsStepOf plan.checked)) (sym trace)
    (steps_are_of_the_program plan.checked known) in
    record {
      owned = elements_are_owned s past first history (all_reversed (IsStepOf plan.checked) past
          (all_split (IsStepOf plan.checked) (reverse past) rest all).0);
      fits = run_keeps_lengths s past history first;
    }

-- ---- the text behind it

text_joined : (p : ℕ) (before line : List ℕ) → text_on p before ++ text_on p line ≡ text_on p (before ++ line)
text_joined p before line = by (p == 0)
  where
    by : (b : Bool) → (if b then before else []) ++ (if b then line else []) ≡ (if b then before ++ line else [])
    by true = refl
    by false = refl

-- one line more
line_more : (plan : RunPlan) (t p : ℕ) (f : Phase) (later : List Phase) (array : ℕ) (v : Held) → IsPrinting plan t p f later array v
    → IsPrintStage f.stage
    → text_with plan t p array v ≡ text_on p (text_at (scene_in plan) (run_in plan) f.past f.stage ++ line_for plan.checked
    (store_at (scene_in plan) f.past) array)
line_more plan t p f later array v h st =
    let s = scene_in plan in
    let some : 1 ≤ plan.nodes = omega (arith, h.node) in
    let line = lines_are_printed s f p array v.own _ some h.fits st h.step h.at.own (letters_came_in plan t p f later h.node h.left) in
    ap (λ (l : List ℕ). v.text ++ l) line
    ∙ ap (λ (l : List ℕ). l ++ text_on p (line_for plan.checked (store_at s f.past) array)) h.at.text
    ∙ text_joined p (text_at s (run_in plan) f.past f.stage) (line_for plan.checked (store_at s f.past) array)

pub prints_go_on : PrintsGoOn
prints_go_on plan t p f later array v h e =
    let s = scene_in plan in
    line_more plan t p f later array v h (subst IsPrintStage (sym e) tt)
    ∙ ap (λ a. text_on p (text_at s (run_in plan) f.past a ++ line_for plan.checked (store_at s f.past) array)) e

take_more : {A : Type 0} (xs : List A) (j : ℕ) (x : A) → slice_get xs j ≡ Some x → take (suc j) xs ≡ take j xs ++ x ∷ []
take_more [] j x e = cc
take_more {A} (y ∷ ys) zero x e = let same : y ≡ x = cc in ap (λ (z : A). z ∷ []) same
take_more {A} (y ∷ ys) (suc j) x e = ap (λ (l : List A). y ∷ l) (take_more ys j x e)

pub outputs_go_on : OutputsGoOn
outputs_go_on plan t p f later o v j h e found last =
    let s = scene_in plan in
    let run = run_in plan in
    let lines = lines_of s f.past in
    let refusal = refusal_text plan.checked run.refused in
    let outs = λ (os : List OutputName). flat_map (output_line plan.checked run.last) os in
    let before = take j plan.checked.outputs in
    let line = line_for plan.checked (store_at s f.past) o.array in
    let one : outs (o ∷ []) ≡ line = append-nil (output_line plan.checked run.last o)
    ∙ ap (λ store. line_for plan.checked store o.array) last in
    let next : outs (take (j + 1) plan.checked.outputs) ≡ outs before ++ line =
    ap (λ n. outs (take n plan.checked.outputs)) (add-one j) ∙ ap outs (take_more plan.checked.outputs j o found)
    ∙ flat_map-append (output_line plan.checked run.last) before (o ∷ []) ∙ ap (λ (l : List ℕ). outs before ++ l) one in
    line_more plan t p f later o.array v h (subst IsPrintStage (sym e) tt)
    ∙ ap (λ a. text_on p (text_at s run f.past a ++ line)) e
    ∙ ap (text_on p)
    (append_assoc (lines ++ refusal) (outs before) line ∙ ap (λ (l : List ℕ). lines ++ refusal ++ l) (sym next))

pub outputs_begin : OutputsBegin
outputs_begin s run past = append-nil (lines_of s past ++ refusal_text s.checked run.refused)

take_whole : {A : Type 0} (xs : List A) → take (length xs) xs ≡ xs
take_whole [] = refl
take_whole {A} (x ∷ xs) = ap (λ (l : List A). x ∷ l) (take_whole xs)

pub outputs_end : OutputsEnd
outputs_end s run past =
    ap (λ os. lines_of s past ++ refusal_text s.checked run.refused ++ flat_map (output_line s.checked run.last) os)
    (take_whole s.checked.outputs)
