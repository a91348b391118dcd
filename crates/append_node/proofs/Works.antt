-- Where a work is due, some phase is left.
use Rattle.std.specs.Prelude.{◌≡◌, ℕ, zero, suc, ◌<◌, List, [], ◌∷◌, Result, Ok, Err, OnOk}
use Rattle.std.proofs.Common.{ap, sym, ◌∙◌, subst, arith}
use Rattle.chaos_letter.specs.declared.letter.Letter.{Letter}
use Rattle.chaos_letter.specs.declared.wanted.Wanted.{Wanted}
use Rattle.bsp_core.specs.Views.{Face, View, WorksFor, next_of, next_with}
use Rattle.bsp_core.specs.declared.phased.Want.TheVariants.{Work}
use Rattle.chaos_bins.specs.Plan.{AppendPlan, IsAppendPlan, append_rows}
use Rattle.chaos_bins.specs.declared.stage.Stage.{Stage}
use Rattle.append_node.specs.Node.{AppendState, append_holds, worked_in}
use Rattle.append_node.specs.NodeLaws.{append_works}

some_left : (left : ℕ) (due : List (ℕ × Wanted)) (out : List (ℕ × Letter)) → next_with left due out ≡ Work → 0 < left
some_left left due (x ∷ out) e = absurd (cc)
some_left left (x ∷ due) [] e = absurd (cc)
some_left zero [] [] e = absurd (cc)
some_left (suc left) [] [] e = omega arith

pub is_work : (v : Face) → next_of v ≡ Work → 0 < v.left
is_work v e = some_left v.left v.due v.out e

on_ok_then : {T E : Type 0} (P Q : Type 0) (r : Result T E) → (P → Q) → OnOk r P → OnOk r Q
on_ok_then P Q (Ok x) f h = f h
on_ok_then P Q (Err e) f h = h

-- a node that becomes what its stage makes of it works for every plan
pub works_by : {E : Type 0} (v w : View AppendState) (stage : Stage) (r : Result Unit E) → v.state.at ≡ stage → next_of v.face ≡ Work
    → OnOk r (w ≡ worked_in v stage)
    → OnOk r (WorksFor IsAppendPlan (λ (plan : AppendPlan). plan.nodes) append_rows append_holds v w)
works_by v w stage r at due made =
    let Works : View AppendState → Type 0 = WorksFor IsAppendPlan (λ (plan : AppendPlan). plan.nodes) append_rows append_holds v in
    on_ok_then (w ≡ worked_in v stage) (Works w) r
    (λ e. subst Works (ap (worked_in v) at ∙ sym e) (append_works v (is_work v.face due))) made
