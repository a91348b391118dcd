-- What a work is to do, for whatever plan.
use Rattle.std.proofs.Common.{◌≡◌, ◌≢◌, ℕ, ◌<◌, ◌+◌, ◌-◌, Bool, true, false, cond, List, [], ◌++◌, ap, sym, ◌∙◌, subst, arith, refl}
use Rattle.std.proofs.Common.{Result, Ok, Err, OnOk}
use Rattle.std.specs.Prelude.{◌==◌, nat_lt}
use Rattle.bsp_core.specs.Views.{View, WorksFor, next_of}
use Rattle.bsp_core.specs.declared.phased.Want.TheVariants.{Work as IsWork}
use Rattle.bsp_core.proofs.Dues.{is_work}
use Rattle.chaos_cut.specs.Bisection.{levels_of}
use Rattle.bisect_node.specs.Ends.{after_print, after_rank, cut_at, found_behind, own_lines, printed, ranked_again, worked, worked_in}
use Rattle.bisect_node.specs.Plans.{BisectPlan, IsBisectPlan, bisect_rows}
use Rattle.bisect_node.specs.Printing.{lines_of, lines_told}
use Rattle.bisect_node.specs.Stages.{phases_of, stage_of}
use Rattle.bisect_node.specs.States.{BisectState, Holds, bisect_holds}
use Rattle.bisect_node.specs.declared.stage.Stage.{Stage}
use Rattle.bisect_node.specs.Working.{goes-on}

some-left : (n : ℕ) → n ≢ 0 → 0 < n
some-left n h = omega (arith, h)

pub works : (v w : View BisectState) → next_of v.face ≡ IsWork → w ≡ worked v
    → WorksFor IsBisectPlan (λ (plan : BisectPlan). plan.nodes) bisect_rows bisect_holds v w
works v w due is plan t p h less ready holds =
    subst (λ (u : View BisectState). (u.face ≡ bisect_rows plan (t + 1) p) × Holds plan (t + 1) p u.state) (sym is)
    (goes-on plan h t p less v ready (some-left v.face.left (is_work v.face due).2) holds)

pub on_ok_then : {T E : Type 0} (P Q : Type 0) (r : Result T E) → (P → Q) → OnOk r P → OnOk r Q
on_ok_then P Q (Ok x) f h = f h
on_ok_then P Q (Err e) f h = h

-- a node that becomes what the stage of its phase makes of it; `seen` is the node as it stands
pub works-in : {T E : Type 0} (seen v w : View BisectState) (stage at : Stage) (phase : ℕ) (r : Result T E)
    → seen ≡ v → next_of v.face ≡ IsWork → at ≡ stage → at ≡ stage_of (levels_of seen.state.job.parts) phase
    → phase ≡ phases_of v.state.job.parts - v.face.left → OnOk r (w ≡ worked_in stage v)
    → OnOk r (WorksFor IsBisectPlan (λ (plan : BisectPlan). plan.nodes) bisect_rows bisect_holds v w)
works-in seen v w stage at phase r same due is here now made =
    let found : stage ≡ stage_of (levels_of v.state.job.parts) (phases_of v.state.job.parts - v.face.left) =
    sym is
    ∙ here
    ∙ ap (λ (u : View BisectState). stage_of (levels_of u.state.job.parts) phase) same
    ∙ ap (λ (k : ℕ). stage_of (levels_of v.state.job.parts) k) now in
    on_ok_then (w ≡ worked_in stage v) (WorksFor IsBisectPlan (λ (plan : BisectPlan). plan.nodes) bisect_rows bisect_holds v w) r
    (λ e. works v w due (e ∙ ap (λ (s : Stage). worked_in s v) found)) made

-- behind a Rank: by whether all bits are found
pub ranks : {T E : Type 0} (seen v w : View BisectState) (bits : ℕ) (found : List ℕ) (b : Bool) (r : Result T E)
    → seen ≡ v → found ≡ found_behind bits seen.state.work seen.face.got → nat_lt bits 83 ≡ b
    → OnOk r (w ≡ cond b (ranked_again bits found v) (cut_at found v)) → OnOk r (w ≡ after_rank bits v)
ranks seen v w bits found b r same is less made =
    let last = found_behind bits v.state.work v.face.got in
    let all : found ≡ last = is ∙ ap (λ (u : View BisectState). found_behind bits u.state.work u.face.got) same in
    on_ok_then (w ≡ cond b (ranked_again bits found v) (cut_at found v)) (w ≡ after_rank bits v) r
    (λ e.
    e
    ∙ ap (λ (l : List ℕ). cond b (ranked_again bits l v) (cut_at l v)) all
    ∙ sym (ap (λ (c : Bool). cond c (ranked_again bits last v) (cut_at last v)) less)) made

abbrev with_text : View BisectState → List ℕ → View BisectState
with_text v text =
    let work = v.state.work in
    record {
      face = record { me = v.face.me; count = v.face.count; left = 0; out = []; due = []; got = [] };
      state = record {
        job = v.state.job;
        work = record { pieces = work.pieces; cuts = work.cuts; found = work.found; told = work.told; text = text };
      };
    }

-- on the other nodes nothing is written
pub printed-is : (v : View BisectState) → printed (own_lines v) (lines_told v.face.got) v ≡ after_print v
printed-is v = by (v.face.me == 0)
  where
    by : (b : Bool) → with_text v (cond b (cond b (lines_of v.state.work.told) [] ++ lines_told v.face.got) v.state.work.text)
        ≡ with_text v (cond b (lines_of v.state.work.told ++ lines_told v.face.got) v.state.work.text)
    by true = refl
    by false = refl
