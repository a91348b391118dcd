use Rattle.std.proofs.Common.{ℕ, ◌-◌, ap, ◌∙◌}
use Rattle.chaos_cut.specs.declared.choices.Extent.{Extent}
use Rattle.chaos_cut.specs.Choices.{wider_of}
use Rattle.bisect_node.specs.Steps.{spread_told, widest}
use Rattle.bisect_node.proofs.Widest.{begins, ends, from, next}
use Rattle.bisect_node.proofs.spread.widest_of.Goals as goal

pub loop-axis-init : goal.loop-axis-init
loop-axis-init c =
    let f = λ (a : ℕ). spread_told c.args.told.now c.args.got.now c.args.base a in
    ap (λ (e : Extent). from f c.args.axes e 1 (c.args.axes - 1)) c.extent_at-best.ensures ∙ begins f c.args.axes

pub loop-axis-preserved : goal.loop-axis-preserved
loop-axis-preserved c =
    next (λ (a : ℕ). spread_told c.args.told.now c.args.got.now c.args.base a) c.args.axes c.loop-axis.best c.wider-best.result
    c.loop-axis.axis (widest c.args.axes c.args.told.now c.args.got.now c.args.base) c.loop-axis-test.true
    (c.wider-best.ensures ∙ ap (wider_of c.loop-axis.best) c.extent_at-next.ensures) c.loop-axis.invariant

pub returns : goal.returns
returns c =
    ends (λ (a : ℕ). spread_told c.args.told.now c.args.got.now c.args.base a) c.args.axes c.loop-axis.best c.loop-axis.axis
    (widest c.args.axes c.args.told.now c.args.got.now c.args.base) c.loop-axis-test.false c.loop-axis.invariant
