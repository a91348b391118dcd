-- What a node knows at the end of a plan.
use Rattle.std.specs.Prelude.{◌≡◌, refl, ℕ, zero, suc, ◌+◌, ◌<◌, ℤ, Bool, true, false, if◌then◌else◌, List, [], ◌∷◌, ◌++◌, length, map, pos}
use Rattle.std.specs.Prelude.{drop, take, reverse, flat_map, is_some, Option, Some, None}
use Rattle.std.proofs.Common.{ap, sym, ◌∙◌, subst, append_assoc}
use Rattle.std.proofs.lemmas.Grind.{reverse_onto}
use Rattle.std.proofs.lemmas.List.{append-nil}
use Rattle.chaos_dist.specs.Counting.{below}
use Rattle.fd_program.specs.Layouts.{Scene, store_at}
use Rattle.fd_program.specs.Past.{inspecting_of}
use Rattle.fd_program.specs.Reports.{completed_of, count_at, executed_of}
use Rattle.fd_program.specs.RunLaws.{IsReached, reached_next, reached_start}
use Rattle.fd_program.specs.Runs.{Run, after_step, refusal_of, run_from, run_past}
use Rattle.fd_program.specs.Texts.{output_line, printed, refusal_text, text_of, text_of_run}
use Rattle.fd_program.specs.Trace.{trace_of}
use Rattle.fd_program.specs.declared.array.OutputName.{OutputName}
use Rattle.fd_program.specs.declared.checked.Checked.{Checked}
use Rattle.fd_program.specs.declared.refused.Refused.{Refused}
use Rattle.fd_program.specs.declared.trace.Step.{Step}
use Rattle.fd_program.specs.declared.trace.Step.TheVariants.{Distribute, Print, Forall}
use Rattle.bsp_core.specs.Lockstep.{IsEnd}
use Rattle.plan_run.specs.DueLaws.{end_drops}
use Rattle.plan_run.specs.Held.{Held, lines_of, text_on}
use Rattle.plan_run.specs.Phases.{Phase, cut_phases}
use Rattle.plan_run.specs.Rows.{IsRunPlan, RunPlan, node_row, phases_in, run_in, scene_in}
use Rattle.plan_run.specs.declared.stage.Stage.{Stage}
use Rattle.plan_run.specs.declared.stage.Stage.TheVariants as stage
use Rattle.plan_loop.specs.declared.loop_phase.LoopPhase.TheVariants as phase
use Rattle.plan_walk.specs.Places.{left_in, outputs_left}
use Rattle.plan_walk.specs.StepEnds.{run_starts}
use Rattle.chaos_entering.specs.Standing.{IsPlace, StandsAtEnd, KnowsBehind, node_holds}
use Rattle.chaos_entering.specs.State.{NodeState, held_of}
use Rattle.chaos_entering.specs.declared.activity.Activity.{Activity}
use Rattle.chaos_entering.specs.declared.activity.Activity.TheVariants.{Printing, Output, Moving as Moves, Inspecting, Gathering}
use Rattle.chaos_entering.specs.declared.activity.Activity.TheVariants.{Scattering, Ended}
use Rattle.chaos_dist.specs.OwnersLaws.{take_whole}

-- The text of node 0 is that of the run, and the others have none; the refusal is the run's; the counts are the node's own over the
-- completed steps; and the inspected executions are those that inspect.
pub record KnowsRun (plan : RunPlan) (p : ℕ) (st : NodeState) : Type 0 where
  pub text : st.text ≡ text_on p (text_of plan.checked plan.store)
  pub refused : st.end.refused ≡ (run_in plan).refused
  pub counts : st.end.counts ≡ map (count_at (scene_in plan) (completed_of (run_in plan)) p) (below (length plan.checked.sites))
  pub inspected : st.inspected ≡ map pos (inspecting_of plan.checked (executed_of (run_in plan)))

abbrev pub NodesEndWithRun : Type 0
NodesEndWithRun = (plan : RunPlan) (t p : ℕ) (st : NodeState) → IsRunPlan plan → IsEnd (node_row plan) t → p < plan.nodes
    → node_holds plan t p st → KnowsRun plan p st

-- ---- no phase is left only at the end

cons_nil : {A : Type 0} (x : A) (xs : List A) → x ∷ xs ≡ [] → ⊥
cons_nil x xs e = cc

cut_some : (c : Checked) (f : Phase) (fs : List Phase) (past : List Step) (b : Bool) → cut_phases c (f ∷ fs) past b ≡ [] → ⊥
cut_some c f fs past true e = cons_nil _ _ e
cut_some c f fs past false e = cons_nil _ _ e

stage_left : (plan : RunPlan) (phases : List Phase) (past : List Step) (step : Step) (rest : List Step) (stage : Stage) (more : List Stage)
    → phases ≡ [] → phases ≡ left_in plan past step rest (stage ∷ more) → ⊥
stage_left plan phases past step rest stage more none e =
    cut_some plan.checked _ _ (completed_of (run_in plan)) (is_some (run_in plan).refused) (sym e ∙ none)

output_left : (plan : RunPlan) (phases : List Phase) (j : ℕ) (name : OutputName) (names : List OutputName)
    → phases ≡ [] → phases ≡ outputs_left plan (completed_of (run_in plan)) j (name ∷ names) → ⊥
output_left plan phases j name names none e = cons_nil _ _ (sym e ∙ none)

over_at : (plan : RunPlan) (phases : List Phase) (p : ℕ) (st : NodeState) (a : Activity) → phases ≡ [] → IsPlace plan phases p st a
    → StandsAtEnd plan phases p st
over_at plan phases p st Printing none h = absurd (stage_left plan phases h.past _ h.rest _ [] none h.in_step.phases_are)
over_at plan phases p st (Output j) none h = absurd (output_left plan phases j h.name h.names none h.phases_are)
over_at plan phases p st (Moves m) none h = absurd (stage_left plan phases h.past _ h.rest h.stage h.more none h.in_step.phases_are)
over_at plan phases p st (Inspecting i) none h = absurd (stage_left plan phases h.past _ h.rest _ _ none h.in_step.phases_are)
over_at plan phases p st Gathering none h = absurd (stage_left plan phases h.past _ h.rest _ (stage.InLoop phase.Scatter ∷ []) none
    h.in_step.phases_are)
over_at plan phases p st (Scattering x) none h = absurd (stage_left plan phases h.past _ h.rest _ [] none h.in_step.phases_are)
over_at plan phases p st Ended none h = h

-- ---- the lines of the completed steps are those of the executed ones

-- the completed steps of a run that goes on behind `past`
abbrev completed_behind : Run → List Step → List Step
completed_behind run past = drop (if is_some run.refused then 1 else 0) (reverse (map (λ s. s.0) run.executed) ++ past)

nothing_printed : (c : Checked) (step : Step) (store : List (List ℤ)) (r : Refused) → refusal_of c step store ≡ Some r
    → printed c (step, store) ≡ []
nothing_printed c (Distribute decomposition form) store r e = refl
nothing_printed c (Print array) store r e = cc
nothing_printed c (Forall site turn) store r e = refl

reversed_behind : (step : Step) (steps past : List Step) → reverse (step ∷ steps) ++ past ≡ reverse steps ++ step ∷ past
reversed_behind step steps past =
    ap (λ (l : List Step). l ++ past) (reverse_onto steps step []) ∙ append_assoc (reverse steps) (step ∷ []) past

lines_behind : (s : Scene) (steps past : List Step) (run : Run) → run ≡ run_from s.checked steps (store_at s past) → IsReached s past steps
    → lines_of s (completed_behind run past) ≡ lines_of s past ++ flat_map (printed s.checked) run.executed
lines_behind s [] past run is here =
    ap (λ (r : Run). lines_of s (completed_behind r past)) is ∙ sym (append-nil (lines_of s past))
    ∙ sym (ap (λ (r : Run). lines_of s past ++ flat_map (printed s.checked) r.executed) is)
lines_behind s (step ∷ steps) past run is here =
    subst (λ (r : Run). lines_of s (completed_behind r past) ≡ lines_of s past ++ flat_map (printed s.checked) r.executed) (sym is)
    (by (refusal_of s.checked step (store_at s past)) refl (λ rest e reached. lines_behind s steps (step ∷ past) rest e reached))
  where
    by : (o : Option Refused) → refusal_of s.checked step (store_at s past) ≡ o
        → ((rest : Run) → rest ≡ run_from s.checked steps (store_at s (step ∷ past)) → IsReached s (step ∷ past) steps
        → lines_of s (completed_behind rest (step ∷ past)) ≡ lines_of s (step ∷ past) ++ flat_map (printed s.checked) rest.executed)
        → lines_of s (completed_behind
        (run_past step (store_at s past) o (run_from s.checked steps (after_step s.checked step (store_at s past)))) past)
        ≡ lines_of s past ++ flat_map (printed s.checked)
        (run_past step (store_at s past) o (run_from s.checked steps (after_step s.checked step (store_at s past)))).executed
    by None e onwards =
        let next = reached_next s past step steps here e in
        let rest = run_from s.checked steps (after_step s.checked step (store_at s past)) in
        let line = printed s.checked (step, store_at s past) in
        ap (λ l. lines_of s (drop (if is_some rest.refused then 1 else 0) l)) (reversed_behind step (map (λ s. s.0) rest.executed) past)
        ∙ onwards rest (ap (run_from s.checked steps) (sym next.0)) next.1
        ∙ append_assoc (lines_of s past) line (flat_map (printed s.checked) rest.executed)
    by (Some r) e onwards =
        sym (append-nil (lines_of s past))
        ∙ ap (λ (l : List ℕ). lines_of s past ++ l) (sym (append-nil (printed s.checked (step, store_at s past))
        ∙ nothing_printed s.checked step (store_at s past) r e))

lines_all : (plan : RunPlan) → lines_of (scene_in plan) (completed_of (run_in plan)) ≡ flat_map (printed plan.checked)
    (run_in plan).executed
lines_all plan =
    let s = scene_in plan in
    let run = run_in plan in
    let start = reached_start plan.checked plan.nodes plan.rule plan.store in
    ap (λ l. lines_of s (drop (if is_some run.refused then 1 else 0) l)) (sym (append-nil (executed_of run)))
    ∙ lines_behind s (trace_of plan.checked) [] run (ap (run_from plan.checked (trace_of plan.checked)) (sym (run_starts plan).store)) start

-- ---- at the end

whole_text_is : (plan : RunPlan)
    → lines_of (scene_in plan) (completed_of (run_in plan)) ++ refusal_text plan.checked (run_in plan).refused
    ++ flat_map (output_line plan.checked (run_in plan).last) (take (length plan.checked.outputs) plan.checked.outputs)
    ≡ text_of plan.checked plan.store
whole_text_is plan =
    let run = run_in plan in
    let refusal = refusal_text plan.checked run.refused in
    ap (λ (l : List ℕ). l ++ refusal ++ flat_map (output_line plan.checked run.last)
    (take (length plan.checked.outputs) plan.checked.outputs)) (lines_all plan)
    ∙ ap (λ os. flat_map (printed plan.checked) run.executed ++ refusal ++ flat_map (output_line plan.checked run.last) os)
    (take_whole plan.checked.outputs)

knows_run : (plan : RunPlan) (p : ℕ) (st : NodeState) → KnowsBehind (scene_in plan) (run_in plan) (completed_of (run_in plan))
    (length plan.checked.outputs) p (held_of st) → KnowsRun plan p st
knows_run plan p st h = record {
  text = h.text ∙ ap (text_on p) (whole_text_is plan);
  refused = h.refused;
  counts = h.stands.counts;
  inspected = h.inspected;
}

pub nodes_end_with_run : NodesEndWithRun
nodes_end_with_run plan t p st is end node holds =
    let none = end_drops plan t end in
    knows_run plan p st (over_at plan (drop t (phases_in plan)) p st st.at.activity none holds.place).knows
