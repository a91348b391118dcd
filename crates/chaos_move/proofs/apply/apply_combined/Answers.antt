use Rattle.std.proofs.Common.{arith, ◌∙◌}
use Rattle.chaos_move.proofs.Taken.{applied_more}
use Rattle.chaos_move.proofs.apply.apply_combined.Goals as goal

pub loop-at-preserved : goal.loop-at-preserved
loop-at-preserved c = (
  applied_more c.as_slice-rows.result.now c.as_slice-all.result.now c.loop-at.at _ (omega arith) c.args.operators.now c.loop-at.pieces
      c.combine.new.pieces _ c.value_for.result c.loop-at.invariant.0
      c.value_for.ensures
      c.in_ok-combine.ensures.ok,
  c.combine.ensures.back ∙ c.loop-at.invariant.1,
)
