-- At the end of a stage of a move: what its letters made of it.
use Rattle.std.specs.Prelude.{◌≡◌, ℕ, ℤ, List, ◌∷◌, drop, map, slice_get, Option, Some, None, IfSome}
use Rattle.std.proofs.Common.{ap, sym, ◌∙◌, subst}
use Rattle.bsp_core.specs.Views.{Face, View, ready}
use Rattle.fd_program.specs.Layouts.{Scene, owners_at, store_at}
use Rattle.fd_program.specs.declared.trace.Step.TheVariants.{Distribute}
use Rattle.chaos_moving.specs.InRun.{owners_after}
use Rattle.chaos_moving.specs.IsMoving.{IsMoving, taken_in}
use Rattle.chaos_moving.specs.Stages.{left_in as stages_left, stage_in}
use Rattle.chaos_moving.specs.declared.moving.Moving.{Moving}
use Rattle.chaos_moving.specs.declared.share.Share.{Share}
use Rattle.plan_run.specs.Held.{owed_at}
use Rattle.plan_run.specs.Phases.{numbers_at}
use Rattle.plan_run.specs.Rows.{face_left, phases_in, scene_in}
use Rattle.plan_run.specs.declared.stage.Stage.{Stage}
use Rattle.plan_walk.specs.LetterLaws.{letters_come_in, own_list_is_put_in}
use Rattle.plan_walk.specs.Letters.{numbers_of, put_in}
use Rattle.plan_walk.specs.PhaseBegins.{phases_follow}
use Rattle.plan_walk.specs.Places.{left_in, present_phase}
use Rattle.chaos_entering.specs.Standing.{StandsInStep, IsMove, IsPlace}
use Rattle.chaos_entering.specs.State.{NodeState}
use Rattle.chaos_entering.specs.declared.activity.Activity.TheVariants.{Moving as Moves}
use Rattle.chaos_node.specs.Changing.{ChangesRight}
use Rattle.chaos_node.specs.Moves.{EndsStage}
use Rattle.chaos_node.specs.declared.change.Change.{Change}
use Rattle.chaos_node.proofs.MoveSteps.{moving_is_plain}

-- the lists are those of a stage
abbrev pub AreTakenIn : Moving → List (List ℤ) → Scene → List (List ℕ) → List (List ℤ) → List ℕ → Option Stage → Type 0
AreTakenIn x taken s owners store new now = IfSome now (λ stage. taken ≡ taken_in s owners store x.share.decomposition new stage x.share.me)

-- what a move becomes, where its letters are those that are due
abbrev pub MovesOn : Moving → Moving → List (List ℤ) → Type 0
MovesOn x m taken =
    (s : Scene) (owners : List (List ℕ)) (store : List (List ℤ)) (new : List ℕ) → IsMoving x s owners store new
    → IfSome (stage_in x.stage) (λ stage. taken ≡ taken_in s owners store x.share.decomposition new stage x.share.me)
    → IsMoving m s owners store new

pub stage_ends : (v : View NodeState) (x m : Moving) (taken : List (List ℤ)) → v.state.at.activity ≡ Moves x
    → taken ≡ put_in v.face.me v.state.at.own (map numbers_of v.face.got) → m.share ≡ x.share → m.form ≡ x.form
    → stages_left m.stage ≡ drop 1 (stages_left x.stage) → MovesOn x m taken → EndsStage v m
stage_ends v x m taken at is share form left goes plan t p run less row holds =
    let s = scene_in plan in
    let st = v.state in
    let h : IsMove plan (drop t (phases_in plan)) p st x = subst (λ a. IsPlace plan (drop t (phases_in plan)) p st a) at holds.place in
    let g = h.goes_on in
    let step = Distribute st.at.site h.form in
    let new = owners_after s h.past st.at.site h.form in
    let owners = owners_at s h.past in
    let store = store_at s h.past in
    let plain = moving_is_plain x.stage h.stage h.more g.left in
    let more : stages_left m.stage ≡ h.more = left ∙ ap (drop 1) g.left in
    let f = present_phase plan h.past step h.rest h.stage h.more in
    let later = left_in plan h.past step h.rest h.more in
    let phases = h.in_step.phases_are ∙ phases_follow plan h.past step h.rest h.stage h.more plain.votes in
    let face = row ∙ ap (λ fs. ready (face_left s fs) p) phases ∙ letters_come_in s f later p less in
    let owed : taken ≡ owed_at s h.past step h.stage p =
    is ∙ ap (λ own. put_in v.face.me own (map numbers_of v.face.got)) h.in_step.own
    ∙ ap (λ (x : Face). put_in x.me (numbers_at s h.past step h.stage p p) (map numbers_of x.got)) face
    ∙ own_list_is_put_in s f p less plain.all in
    let taken_is : taken ≡ taken_in s owners store x.share.decomposition new h.stage x.share.me =
    owed ∙ ap (λ d. taken_in s owners store d new h.stage p) (sym g.decomposition)
    ∙ ap (λ q. taken_in s owners store x.share.decomposition new h.stage q) (sym g.node) in
    let here : stage_in x.stage ≡ Some h.stage = ap (λ l. slice_get l 0) g.left in
    record {
      past = h.past;
      rest = h.rest;
      form = h.form;
      before = x.stage;
      stage = h.stage;
      session = holds.session;
      in_step = subst (λ l. StandsInStep plan (drop t (phases_in plan)) h.past step h.rest h.stage l p st) (sym more) h.in_step;
      sizes = h.sizes;
      from = g.left ∙ ap (λ l. h.stage ∷ l) (sym more);
      repeats = g.repeats;
      decomposition = ap (λ (z : Share). z.decomposition) share ∙ g.decomposition;
      node = ap (λ (z : Share). z.me) share ∙ g.node;
      by = form ∙ g.by;
      moving = goes s owners store new g.moving (subst (AreTakenIn x taken s owners store new) (sym here) taken_is);
    }

-- so it is over a copy of the move
pub copy_ends : (v : View NodeState) (x m here : Moving) (taken : List (List ℤ)) → v.state.at.activity ≡ Moves here → x ≡ here
    → taken ≡ put_in v.face.me v.state.at.own (map numbers_of v.face.got) → m.share ≡ x.share → m.form ≡ x.form
    → stages_left m.stage ≡ drop 1 (stages_left x.stage) → MovesOn x m taken → EndsStage v m
copy_ends v x m here taken at same is share form left goes = stage_ends v x m taken (at ∙ ap (λ y. Moves y) (sym same)) is share form left
    goes

-- a move has a stage
pub stage_is_there : (v : View NodeState) (x : Moving) (change : Change) → v.state.at.activity ≡ Moves x → stage_in x.stage ≡ None
    → ChangesRight v change
stage_is_there v x change at none plan t p run less row holds =
    let h : IsMove plan (drop t (phases_in plan)) p v.state x = subst (λ a. IsPlace plan (drop t (phases_in plan)) p v.state a) at
    holds.place in
    absurd (none_some h.stage (sym none ∙ ap (λ l. slice_get l 0) h.goes_on.left))
  where
    none_some : (y : Stage) → None ≡ Some y → ⊥
    none_some y e = cc
