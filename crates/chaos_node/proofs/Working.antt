-- What is told of a work.
use Rattle.std.specs.Prelude.{◌≡◌, refl, ℕ, ◌+◌, ◌<◌, List, [], ◌∷◌, drop, length, Result, Ok, Err, OnOk, OnErr}
use Rattle.fd_words.specs.declared.wanting.Memory.{Memory}
use Rattle.std.proofs.Common.{ap, sym, ◌∙◌, subst}
use Rattle.bsp_core.specs.Views.{Face, View, WorksFor, next_of, ready}
use Rattle.bsp_core.specs.declared.phased.Want.{Want}
use Rattle.bsp_core.specs.declared.phased.Want.TheVariants.{Done, Work}
use Rattle.fd_program.specs.Layouts.{Scene}
use Rattle.plan_run.specs.Phases.{Phase}
use Rattle.plan_run.specs.Rows.{IsRunPlan, RunPlan, face_left, node_row, phases_in, scene_in}
use Rattle.chaos_node.specs.Changing.{ChangesRight, changed_by}
use Rattle.chaos_entering.specs.Coming.{entered_state, face_entered}
use Rattle.chaos_entering.specs.Standing.{HoldsAt, IsPlace, node_holds}
use Rattle.chaos_entering.specs.State.{NodeState}
use Rattle.chaos_entering.specs.declared.activity.Activity.{Activity}
use Rattle.chaos_entering.specs.declared.activity.Activity.TheVariants.{Ended}
use Rattle.chaos_node.specs.declared.change.Change.{Change}

me_left : (s : Scene) (phases : List Phase) (p : ℕ) → (face_left s phases p).me ≡ p
me_left s [] p = refl
me_left s (f ∷ fs) p = refl

count_left : (s : Scene) (phases : List Phase) (p : ℕ) → (face_left s phases p).count ≡ s.nodes
count_left s [] p = refl
count_left s (f ∷ fs) p = refl

pub works : (v w : View NodeState) (change : Change) → ChangesRight v change → w.face ≡ face_entered v.face.me v.face.count change.entered
    → w.state ≡ entered_state (changed_by v.state change) change.entered → WorksFor IsRunPlan (λ plan. plan.nodes) node_row node_holds v w
works v w change right face state plan t p is less at holds =
    let now = right plan t p is less at holds in
    let me : v.face.me ≡ p = ap (λ (f : Face). f.me) at ∙ me_left (scene_in plan) (drop t (phases_in plan)) p in
    let count : v.face.count ≡ plan.nodes = ap (λ (f : Face). f.count) at ∙ count_left (scene_in plan) (drop t (phases_in plan)) p in (
      face ∙ ap (λ m. face_entered m v.face.count change.entered) me ∙ ap (λ n. face_entered p n change.entered) count ∙ now.face,
      subst (HoldsAt plan (drop (t + 1) (phases_in plan)) p) (sym state) now.holds,
    )

-- ---- where no phase is left there is no work

done_left : (s : Scene) (phases : List Phase) (p : ℕ) → phases ≡ [] → (face_left s phases p).left ≡ 0
done_left s [] p e = refl
done_left s (f ∷ fs) p e = cc

not_work : Done ≡ Work → ⊥
not_work e = cc

no_work : (f g : Face) → next_of f ≡ Work → f ≡ record g { out = []; due = [] } → g.left ≡ 0 → ⊥
no_work f g work is none =
    not_work (sym (ap (λ n. next_of (record g { left = n; out = []; due = [] })) none) ∙ sym (ap next_of is) ∙ work)

-- the end of the last phase is no end of a phase
pub ended_right : (v : View NodeState) (change : Change) → next_of v.face ≡ Work → v.state.at.activity ≡ Ended → ChangesRight v change
ended_right v change work ended plan t p is less at holds =
    let over = subst (IsPlace plan (drop t (phases_in plan)) p v.state) ended holds.place in
    absurd (no_work v.face (ready (node_row plan t) p) work at (done_left (scene_in plan) (drop t (phases_in plan)) p over.none_left))

-- ---- results

pub on_both : {P Q R : Type 0} (r : Result Unit Memory) → OnOk r P → OnOk r Q → (P → Q → R) → OnOk r R
on_both (Ok x) p q f = f p q
on_both (Err e) p q f = tt

pub on_ok : {P Q : Type 0} (r : Result Unit Memory) → OnOk r P → (P → Q) → OnOk r Q
on_ok (Ok x) p f = f p
on_ok (Err e) p f = tt

pub either_way : {P Q R : Type 0} (r : Result Unit Memory) → OnOk r P → OnErr r Q → (P → R) → (Q → R) → R
either_way (Ok x) p q f g = f p
either_way (Err e) p q f g = g q
