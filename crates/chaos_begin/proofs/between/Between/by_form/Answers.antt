use Rattle.std.proofs.Common.{sym, subst}
use Rattle.std.proofs.lemmas.Result.{IfOk-weaker}
use Rattle.chaos_begin.proofs.Shares.{by_map_moves, by_shape_moves, shape_plain}
use Rattle.chaos_begin.specs.Begins.{IsMoveOf}
use Rattle.chaos_begin.proofs.between.Between.by_form.Goals as goal

pub returns-in-Regular-clause-begun : goal.returns-in-Regular-clause-begun
returns-in-Regular-clause-begun c =
    IfOk-weaker c.by_shape.result _ _ (λ o h d here s past v between step.
    by_shape_moves s past v c.args.self.now d c.args.share c.in-Regular.shape c.args.form o c.in-Regular.is h between step here)
    c.by_shape.ensures

pub returns-in-Regular-clause-plain : goal.returns-in-Regular-clause-plain
returns-in-Regular-clause-plain c =
    IfOk-weaker c.by_shape.result _ _ (λ o h. shape_plain c.args.share c.in-Regular.shape c.args.form o c.in-Regular.is h)
    c.by_shape.ensures

pub returns-in_ok-moving-in-Map-clause-begun : goal.returns-in_ok-moving-in-Map-clause-begun
returns-in_ok-moving-in-Map-clause-begun c = λ d here s past v between step.
    by_map_moves s past v c.args.self.now d c.args.share c.in-Map.array c.args.form c.in_ok-moving-in-Map.moving c.requires.sound
    c.in-Map.is c.in_ok-moving-in-Map.ensures between step here

pub returns-in_ok-moving-in-Map-clause-plain : goal.returns-in_ok-moving-in-Map-clause-plain
returns-in_ok-moving-in-Map-clause-plain c =
    let h = c.in_ok-moving-in-Map.ensures in
    subst (λ form. IsMoveOf c.args.share form c.in_ok-moving-in-Map.moving) (sym c.in-Map.is)
    (record { mine = h.mine; given = h.form; stages = h.stages })
