-- From phase to phase within a step, at the vote of a refused step, and at the OUTPUT arrays.
use Rattle.std.specs.Prelude.{◌≡◌, refl, ℕ, zero, suc, ◌+◌, ◌<◌, ◌≤◌, ℤ, Bool, true, false, ◌&&◌, ◌==◌, if◌then◌else◌, List, [], ◌∷◌, ◌++◌}
use Rattle.std.specs.Prelude.{length, map, drop, flat_map, filter_map, is_some, slice_get, unwrap_or, Option, Some, None}
use Rattle.std.specs.Option.{option_map}
use Rattle.std.proofs.Common.{ap, sym, ◌∙◌, arith, length-append, add-one}
use Rattle.std.proofs.lemmas.Bool.Decides.{nat_tests}
use Rattle.std.proofs.lemmas.List.{length-reverse}
use Rattle.fd_words.specs.declared.place.Offence.{Offence}
use Rattle.fd_program.specs.Checks.{IsChecked}
use Rattle.fd_program.specs.Layouts.{store_at, loop_at}
use Rattle.fd_program.specs.Loops.{first_of, offence_of, offence_at, iterations_of}
use Rattle.fd_program.specs.Past.{inspects_step}
use Rattle.fd_program.specs.Reports.{executed_of, completed_of}
use Rattle.fd_program.specs.Runs.{Run, run_past, run_from, refusal_of, after_step}
use Rattle.fd_program.specs.Trace.{trace_of, site_at, no_site, is_empty_turn}
use Rattle.fd_program.specs.Uses.{uses_of}
use Rattle.chaos_dist.specs.Counting.{below}
use Rattle.fd_program.specs.Homes.{vote_of}
use Rattle.fd_program.specs.VoteLaws.{first_some, votes_tell}
use Rattle.fd_program.specs.declared.array.ArrayFacts.{ArrayFacts}
use Rattle.fd_program.specs.declared.array.OutputName.{OutputName}
use Rattle.fd_program.specs.declared.checked.Checked.{Checked}
use Rattle.fd_program.specs.declared.refused.Refused.{Refused}
use Rattle.fd_program.specs.declared.site.Site.{Site}
use Rattle.fd_program.specs.declared.trace.LoopTurn.{LoopTurn}
use Rattle.fd_program.specs.declared.trace.Step.{Step}
use Rattle.fd_program.specs.declared.trace.Step.TheVariants.{Distribute, Print, Forall}
use Rattle.plan_loop.specs.declared.loop_phase.LoopPhase.TheVariants as phase
use Rattle.plan_run.specs.Phases.{Phase, cut_at, cut_phases, is_vote, is_vote_of, output_phases}
use Rattle.plan_run.specs.CutLaws.{site_there}
use Rattle.plan_run.specs.LeftLaws.{length-before}
use Rattle.plan_run.specs.RefusalLaws.{refused_inspects}
use Rattle.plan_run.specs.RowLaws.{length-outputs}
use Rattle.plan_run.specs.Rows.{RunPlan, face_left, node_row, phases_in, run_in, scene_in}
use Rattle.plan_run.specs.declared.stage.Stage.{Stage}
use Rattle.plan_run.specs.declared.stage.Stage.TheVariants as stage
use Rattle.plan_walk.specs.Places.{StandsBetween, left_from, left_in, output_phase, outputs_left, present_phase, run_left, stages_in}
use Rattle.plan_walk.specs.Places.{whole_from, whole_in, whole_left}
use Rattle.plan_walk.specs.StepEnds.{steps_are_known, steps_end}
use Rattle.fd_program.specs.RunLaws.{drop_first}

-- ---- statements

-- a step begins with its first stage
abbrev pub LeftBegins : Type 0
LeftBegins =
    (plan : RunPlan) (past : List Step) (step : Step) (rest : List Step)
    → left_from plan past (step ∷ rest) ≡ left_in plan past step rest (stages_in plan past step)

-- behind a phase that isn't a vote those of the other stages follow
abbrev pub PhasesFollow : Type 0
PhasesFollow =
    (plan : RunPlan) (past : List Step) (step : Step) (rest : List Step) (stage : Stage) (stages : List Stage) → is_vote stage ≡ false
    → left_in plan past step rest (stage ∷ stages) ≡ present_phase plan past step rest stage stages ∷ left_in plan past step rest stages

-- so they do in a step that isn't refused
abbrev pub VotesPass : Type 0
VotesPass =
    (plan : RunPlan) (past : List Step) (step : Step) (rest : List Step) (stage : Stage) (stages : List Stage)
    → StandsBetween plan past (step ∷ rest)
    → refusal_of plan.checked step (store_at (scene_in plan) past) ≡ None
    → left_in plan past step rest (stage ∷ stages) ≡ present_phase plan past step rest stage stages ∷ left_in plan past step rest stages

-- The vote of a refused step: the run is refused here, the values stay, and the OUTPUT arrays follow.
pub record StopsAtVote (plan : RunPlan) (past : List Step) (step : Step) (rest : List Step) (stages : List Stage) (r : Refused) : Type 0
  where
    pub refused : (run_in plan).refused ≡ Some r
    pub executed : executed_of (run_in plan) ≡ step ∷ past
    pub completed : completed_of (run_in plan) ≡ past
    pub last : (run_in plan).last ≡ store_at (scene_in plan) past
    pub left : left_in plan past step rest (stage.InLoop phase.Vote ∷ stages)
        ≡ present_phase plan past step rest (stage.InLoop phase.Vote) stages ∷ outputs_left plan past 0 plan.checked.outputs

abbrev pub VotesStop : Type 0
VotesStop =
    (plan : RunPlan) (past : List Step) (step : Step) (rest : List Step) (stages : List Stage) (r : Refused)
    → StandsBetween plan past (step ∷ rest)
    → refusal_of plan.checked step (store_at (scene_in plan) past) ≡ Some r → StopsAtVote plan past step rest stages r

-- a step that doesn't inspect isn't refused
abbrev pub OnlyInspectionsStop : Type 0
OnlyInspectionsStop =
    (plan : RunPlan) (past : List Step) (step : Step) (rest : List Step) → IsChecked plan.checked → StandsBetween plan past (step ∷ rest)
    → inspects_step plan.checked past step ≡ false → refusal_of plan.checked step (store_at (scene_in plan) past) ≡ None

-- the votes of the nodes tell whether a FORALL is refused
abbrev pub VotesDecide : Type 0
VotesDecide =
    (plan : RunPlan) (past : List Step) (site : ℕ) (turn : LoopTurn) → 1 ≤ plan.nodes → is_empty_turn turn ≡ false
    → refusal_of plan.checked (Forall site turn) (store_at (scene_in plan) past)
    ≡ option_map (λ (o : Offence). let r : Refused = record { site = site; offence = o } in r)
    (first_some (map (vote_of (loop_at (scene_in plan) past site turn) (store_at (scene_in plan) past)) (below plan.nodes)))

-- Behind the last step: the run isn't refused, all steps are executed, and the OUTPUT arrays follow.
pub record StandsBehind (plan : RunPlan) (past : List Step) : Type 0 where
  pub left : left_from plan past [] ≡ outputs_left plan past 0 plan.checked.outputs
  pub steps : length past ≡ length (trace_of plan.checked)
  pub refused : (run_in plan).refused ≡ None
  pub executed : executed_of (run_in plan) ≡ past
  pub completed : completed_of (run_in plan) ≡ past
  pub last : (run_in plan).last ≡ store_at (scene_in plan) past

abbrev pub StepsAreOver : Type 0
StepsAreOver = (plan : RunPlan) (past : List Step) → StandsBetween plan past [] → StandsBehind plan past

-- one OUTPUT array after another
abbrev pub OutputsFollow : Type 0
OutputsFollow =
    (plan : RunPlan) (past : List Step) (j : ℕ) (o : OutputName) (os : List OutputName)
    → outputs_left plan past j (o ∷ os) ≡ output_phase plan past j o os ∷ outputs_left plan past (j + 1) os

-- each has one phase
abbrev pub OutputsAreCounted : Type 0
OutputsAreCounted = (plan : RunPlan) (past : List Step) (j : ℕ) (os : List OutputName) → length (outputs_left plan past j os) ≡ length os

-- As the phases `f` and then `later` are left, the rows are those of `f`, and the next rows those of `later`.
pub record HasRows (plan : RunPlan) (t : ℕ) (f : Phase) (later : List Phase) : Type 0 where
  pub now : (p : ℕ) → node_row plan t p ≡ face_left (scene_in plan) (f ∷ later) p
  pub left : drop (t + 1) (phases_in plan) ≡ later
  pub next : (p : ℕ) → node_row plan (t + 1) p ≡ face_left (scene_in plan) later p

abbrev pub RowsFollow : Type 0
RowsFollow = (plan : RunPlan) (t : ℕ) (f : Phase) (later : List Phase) → drop t (phases_in plan) ≡ f ∷ later → HasRows plan t f later

-- The phases that can still come, counted: from a stage and from an array of OUTPUT on, from a step on, and behind the last.
pub record CountsPhases (plan : RunPlan) (past : List Step) : Type 0 where
  pub stages : (step : Step) (rest : List Step) (stage : Stage) (stages : List Stage)
      → (present_phase plan past step rest stage stages).left ≡ whole_left plan past step rest (stage ∷ stages)
  pub outputs : (j : ℕ) (o : OutputName) (os : List OutputName) → (output_phase plan past j o os).left ≡ length (o ∷ os)
  pub within : (step : Step) (rest : List Step) (stages : List Stage)
      → whole_left plan past step rest stages ≡ length stages + length (whole_from plan (step ∷ past) rest)
  pub steps : (step : Step) (rest : List Step)
      → length (whole_from plan past (step ∷ rest)) ≡ length (stages_in plan past step) + length (whole_from plan (step ∷ past) rest)
  pub last : length (whole_from plan past []) ≡ length plan.checked.outputs

abbrev pub PhasesAreCounted : Type 0
PhasesAreCounted = (plan : RunPlan) (past : List Step) → CountsPhases plan past

-- ---- within a step

pub left_begins : LeftBegins
left_begins plan past step rest = refl

and_false_is : (b : Bool) → (b && false) ≡ false
and_false_is true = refl
and_false_is false = refl

not_cut : (c : Checked) (f : Phase) (fs : List Phase) (past : List Step) (b : Bool) → (b ≡ true → is_vote_of (length past) f ≡ false)
    → cut_phases c (f ∷ fs) past b ≡ f ∷ cut_phases c fs past b
not_cut c f fs past false h = refl
not_cut c f fs past true h =
    let outs = output_phases (length (trace_of c)) past 0 c.outputs in
    ap (λ b. f ∷ (if b then outs else cut_at (length past) outs fs)) (h refl)

pub phases_follow : PhasesFollow
phases_follow plan past step rest stage stages e =
    let k = length (completed_of (run_in plan)) in
    not_cut plan.checked (present_phase plan past step rest stage stages) (whole_in plan past step rest stages)
    (completed_of (run_in plan)) (is_some (run_in plan).refused)
    (λ refused. ap (λ b. (length past == k) && b) e ∙ and_false_is (length past == k))

-- a refused run has executed a step
some_executed : (c : Checked) (steps : List Step) (store : List (List ℤ)) → is_some (run_from c steps store).refused ≡ true
    → 1 ≤ length (run_from c steps store).executed
some_executed c [] store e = cc
some_executed c (step ∷ steps) store e = by (refusal_of c step store)
  where
    by : (o : Option Refused) → 1 ≤ length (run_past step store o (run_from c steps (after_step c step store))).executed
    by None = omega arith
    by (Some r) = omega arith

length_map : {A B : Type 0} (f : A → B) (xs : List A) → length (map f xs) ≡ length xs
length_map f [] = refl
length_map f (x ∷ xs) = ap suc (length_map f xs)

-- where the run is refused further on, the completed steps are more than those behind
refused_later : (plan : RunPlan) (past rest : List Step) → StandsBetween plan past rest → is_some (run_in plan).refused ≡ true
    → length past ≤ length (completed_of (run_in plan))
refused_later plan past rest h e =
    let run = run_left plan past rest in
    let some : 1 ≤ length run.executed = some_executed plan.checked rest (store_at (scene_in plan) past)
    (ap (λ (o : Option Refused). is_some o) (sym h.refused) ∙ e) in
    let steps = map (λ (x : Step × List (List ℤ)). x.0) run.executed in
    let size : length (executed_of run) ≡ length run.executed = length-reverse steps
    ∙ length_map (λ (x : Step × List (List ℤ)). x.0) run.executed in
    let all : length (executed_of (run_in plan)) ≡ length (executed_of run) + length past = ap length h.executed
    ∙ length-append (executed_of run) past in
    let completed : completed_of (run_in plan) ≡ drop 1 (executed_of (run_in plan)) =
    ap (λ b. drop (if b then 1 else 0) (executed_of (run_in plan))) e in
    omega (arith, some, size, all, ap length completed, one_less (executed_of (run_in plan)))
  where
    one_less : (xs : List Step) → length xs ≤ length (drop 1 xs) + 1
    one_less [] = omega arith
    one_less (x ∷ xs) = omega arith

lower_is_unequal : (n k : ℕ) → n < k → (n == k) ≡ false
lower_is_unequal n k h = grind (arith, nat_tests)

pub votes_pass : VotesPass
votes_pass plan past step rest stage stages h none =
    let k = length (completed_of (run_in plan)) in
    let ends = steps_end plan past step rest h none in
    not_cut plan.checked (present_phase plan past step rest stage stages) (whole_in plan past step rest stages)
    (completed_of (run_in plan)) (is_some (run_in plan).refused)
    (λ refused. ap (λ b. b && is_vote stage) (lower_is_unequal (length past) k (refused_later plan (step ∷ past) rest ends.stands refused)))

-- ---- the vote of a refused step

stopped : (step : Step) (store : List (List ℤ)) (o : Option Refused) (run : Run) (r : Refused) → o ≡ Some r
    → run_past step store o run ≡ record { executed = (step, store) ∷ []; refused = Some r; last = store }
stopped step store None run r e = cc
stopped step store (Some q) run r e = let same : q ≡ r = cc in ap (λ q. run_past step store (Some q) run) same

itself : (n : ℕ) → (n == n) ≡ true
itself n = grind (arith, nat_tests)

pub votes_stop : VotesStop
votes_stop plan past step rest stages r h refusal =
    let c = plan.checked in
    let s = scene_in plan in
    let store = store_at s past in
    let stops = stopped step store (refusal_of c step store) (run_from c rest (after_step c step store)) r refusal in
    let refused : (run_in plan).refused ≡ Some r = h.refused ∙ ap (λ (run : Run). run.refused) stops in
    let executed : executed_of (run_in plan) ≡ step ∷ past = h.executed ∙ ap (λ run. executed_of run ++ past) stops in
    let completed : completed_of (run_in plan) ≡ past
    = ap (λ (o : Option Refused). drop (if is_some o then 1 else 0) (executed_of (run_in plan))) refused ∙ ap (drop 1) executed in
    let f = present_phase plan past step rest (stage.InLoop phase.Vote) stages in
    let fs = whole_in plan past step rest stages in
    let outs = outputs_left plan past 0 c.outputs in
    record {
      refused = refused;
      executed = executed;
      completed = completed;
      last = h.last ∙ ap (λ (run : Run). run.last) stops;
      left = ap (λ (o : Option Refused). cut_phases c (f ∷ fs) (completed_of (run_in plan)) (is_some o)) refused
          ∙ ap (λ steps. cut_phases c (f ∷ fs) steps true) completed
          ∙ ap (λ b. f ∷ (if b && true then outs else cut_at (length past) outs fs)) (itself (length past));
    }

pub only_inspections_stop : OnlyInspectionsStop
only_inspections_stop plan past (Distribute d form) rest known h e = refl
only_inspections_stop plan past (Print array) rest known h e = refl
only_inspections_stop plan past (Forall site turn) rest known h e =
    by (refusal_of plan.checked (Forall site turn) (store_at (scene_in plan) past)) refl
  where
    both : (b : Bool) → b ≡ true → b ≡ false → ⊥
    both true s t = cc
    both false s t = cc

    by : (o : Option Refused) → refusal_of plan.checked (Forall site turn) (store_at (scene_in plan) past) ≡ o → o ≡ None
    by None f = refl
    by (Some r) f =
        let there = site_there plan.checked site turn (store_at (scene_in plan) past) r f in
        absurd (both _ (refused_inspects (scene_in plan) past site turn r known there h.history h.completed f) e)

pub votes_decide : VotesDecide
votes_decide plan past site turn some range =
    let c = plan.checked in
    let store = store_at (scene_in plan) past in
    let with_site : Option Offence → Option Refused =
    λ o. option_map (λ (o : Offence). let r : Refused = record { site = site; offence = o } in r) o in
    ap (λ b. with_site (if b then None else offence_of c.arrays (site_at c.sites site) turn store)) range
    ∙ ap with_site (sym (votes_tell (loop_at (scene_in plan) past site turn) store some))

-- ---- the phase after a phase

pub rows_follow : RowsFollow
rows_follow plan t f later e =
    let next : drop (t + 1) (phases_in plan) ≡ later = ap (λ n. drop n (phases_in plan)) (add-one t)
    ∙ drop_first t (phases_in plan) f later e in
    record {
      now = λ p. ap (λ fs. face_left (scene_in plan) fs p) e;
      left = next;
      next = λ p. ap (λ fs. face_left (scene_in plan) fs p) next;
    }

-- ---- the OUTPUT arrays

pub steps_are_over : StepsAreOver
steps_are_over plan past h =
    let c = plan.checked in
    let known = steps_are_known plan past [] h in
    let steps : length past ≡ length (trace_of c) = omega (arith, known.count) in
    record {
      left = ap (λ (o : Option Refused). cut_phases c (outputs_here (length past)) (completed_of (run_in plan)) (is_some o)) h.refused
          ∙ ap outputs_here steps;
      steps = steps;
      refused = h.refused;
      executed = h.executed;
      completed = ap (λ (o : Option Refused). drop (if is_some o then 1 else 0) (executed_of (run_in plan))) h.refused ∙ h.executed;
      last = h.last;
    }
  where
    outputs_here : ℕ → List Phase
    outputs_here n = output_phases n past 0 plan.checked.outputs

pub outputs_follow : OutputsFollow
outputs_follow plan past j o os = refl

pub outputs_are_counted : OutputsAreCounted
outputs_are_counted plan past j os = length-outputs (length (trace_of plan.checked)) past j os

-- ---- counts

pub phases_are_counted : PhasesAreCounted
phases_are_counted plan past = record {
  stages = λ step rest stage stages. add-one (whole_left plan past step rest stages);
  outputs = λ j o os. add-one (length (outputs_left plan past (j + 1) os)) ∙ ap suc (outputs_are_counted plan past (j + 1) os);
  within = λ step rest stages. length-before (whole_from plan (step ∷ past) rest) past step (length past) stages;
  steps = λ step rest. length-before (whole_from plan (step ∷ past) rest) past step (length past) (stages_in plan past step);
  last = length-outputs (length past) past 0 plan.checked.outputs;
}
