-- A move goes on with its next stage.
use Rattle.std.specs.Prelude.{◌≡◌, refl, ℕ, ◌+◌, true, List, [], ◌∷◌, drop, length, slice_get, is_some}
use Rattle.std.proofs.Common.{ap, sym, ◌∙◌, subst, arith, append-nil}
use Rattle.bsp_core.specs.Views.{View}
use Rattle.chaos_dist.specs.declared.step_form.StepForm.{StepForm}
use Rattle.fd_program.specs.declared.trace.Step.{Step}
use Rattle.fd_program.specs.declared.trace.Step.TheVariants.{Distribute}
use Rattle.chaos_moving.specs.Stages.{left_in as stages_left, stage_in}
use Rattle.chaos_moving.specs.declared.moving.Moving.{Moving}
use Rattle.plan_run.specs.Held.{Held}
use Rattle.plan_run.specs.Rows.{IsRunPlan, RunPlan, phases_in, run_in, scene_in}
use Rattle.plan_run.specs.declared.stage.Stage.{Stage}
use Rattle.plan_walk.specs.PhaseBegins.{phases_follow}
use Rattle.plan_walk.specs.Places.{left_in, present_phase, whole_left}
use Rattle.chaos_entering.specs.Coming.{IsComing, EntersAs, KnowsLengths}
use Rattle.chaos_entering.specs.Enters.{EntersMove}
use Rattle.chaos_entering.specs.Standing.{GoesOnMoving, KnowsInStep, session_in}
use Rattle.chaos_entering.specs.State.{NodeState, held_of}
use Rattle.chaos_entering.specs.declared.entered.Entered.{Entered}
use Rattle.chaos_holdings.specs.declared.effect.Effect.TheVariants.{Nothing}
use Rattle.chaos_node.specs.Changing.{ChangesRight, changed_by}
use Rattle.chaos_node.specs.Moves.{EndsStage, HasGoneOn}
use Rattle.chaos_node.specs.declared.change.Change.{Change}
use Rattle.chaos_node.proofs.InspectionSteps.{is_past}
use Rattle.chaos_node.proofs.MoveSteps.{knows_goes_on, move_lengths, moving_is_plain}

-- what it changes
abbrev pub only_enters : Entered → Change
only_enters e = record { effect = Nothing; line = []; entered = e }

-- what is held, with this text
abbrev pub with_text : Held → List ℕ → Held
with_text v text = record v { text = text }

pub move_goes_on : (v : View NodeState) (m : Moving) (e : Entered) (left : ℕ) → EndsStage v m → is_some (stage_in m.stage) ≡ true
    → left + 1 ≡ v.face.left
    → EntersMove v.state.session v.face.me v.state.at.execution m v.state.at.sizes left e → ChangesRight v (only_enters e)
move_goes_on v m e left ends goes falls enters plan t p is less row holds = by (stages_left m.stage) refl goes
  where
    h : HasGoneOn plan t p v.state m
    h = ends plan t p is less row holds

    by : (l : List Stage) → stages_left m.stage ≡ l → is_some (slice_get l 0) ≡ true → EntersAs plan (drop (t + 1) (phases_in plan)) p e
        (changed_by v.state (only_enters e))
    by [] there some = cc
    by (now ∷ more) there some =
        let s = scene_in plan in
        let site = v.state.at.site in
        let d = m.share.decomposition in
        let step = Distribute site h.form in
        let st = changed_by v.state (only_enters e) in
        let plain = moving_is_plain h.before h.stage (stages_left m.stage) h.from in
        let next = moving_is_plain m.stage now more there in
        let from : stages_left h.before ≡ h.stage ∷ now ∷ more = h.from ∙ ap (λ l. h.stage ∷ l) there in
        let left_is = phases_follow plan h.past step h.rest h.stage (stages_left m.stage) plain.votes in
        let past = is_past plan t p (present_phase plan h.past step h.rest h.stage (stages_left m.stage))
        (left_in plan h.past step h.rest (stages_left m.stage)) v.face row
        (h.in_step.phases_are ∙ left_is) in
        let knows : KnowsInStep s (run_in plan) h.past step now p (held_of st) =
        subst (λ text. KnowsInStep s (run_in plan) h.past step now p (with_text (held_of v.state) text)) (sym (append-nil v.state.text))
        (knows_goes_on s (run_in plan) h.past step h.stage now p (held_of v.state) plain next h.in_step.knows) in
        let coming : IsComing plan h.past step h.rest now more p left st = record {
          session = h.session;
          node = less;
          places = h.in_step.places;
          left_is = let z : whole_left plan h.past step h.rest (stages_left m.stage) ≡ whole_left plan h.past step h.rest (now ∷ more)
              = ap (whole_left plan h.past step h.rest) there in omega (arith, z, past.left, falls);
          knows = knows;
        } in
        let goes_on : GoesOnMoving plan h.past site h.form now more p m = record {
          left = there;
          repeats = h.repeats;
          decomposition = h.decomposition;
          node = h.node;
          by = h.by;
          moving = h.moving;
        } in
        let lengths = move_lengths plan h.past site h.form p v.state.at.sizes h.before h.stage now more from h.sizes in
        let me : p ≡ v.face.me = sym past.me in
        let same : site ≡ d = sym h.decomposition in
        subst (λ phases. EntersAs plan phases p e st) (sym (past.behind ∙ ap (left_in plan h.past step h.rest) there))
        (subst (λ q. EntersAs plan (left_in plan h.past step h.rest (now ∷ more)) q e st) past.me
        (subst (λ n. EntersAs plan (left_in plan h.past (Distribute n h.form) h.rest (now ∷ more)) v.face.me e st) h.decomposition
        (enters plan h.past h.rest h.form now more st is h.session h.in_step.execution
        (subst (λ n. IsComing plan h.past (Distribute n h.form) h.rest now more v.face.me left st) same
        (subst (λ q. IsComing plan h.past step h.rest now more q left st) me coming))
        (subst (λ n. GoesOnMoving plan h.past n h.form now more v.face.me m) same
        (subst (λ q. GoesOnMoving plan h.past site h.form now more q m) me goes_on))
        (subst (λ n. KnowsLengths plan h.past (Distribute n h.form) now v.face.me v.state.at.sizes) same
        (subst (λ q. KnowsLengths plan h.past step now q v.state.at.sizes) me lengths)))))
