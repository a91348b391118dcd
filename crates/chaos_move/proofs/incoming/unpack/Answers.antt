use Rattle.std.proofs.Common.{arith}
use Rattle.chaos_move.proofs.Taken.{unpacked_more}
use Rattle.chaos_move.proofs.incoming.unpack.Goals as goal

pub loop-at-preserved : goal.loop-at-preserved
loop-at-preserved c =
    unpacked_more c.as_slice-rows.result.now c.as_slice-all.result.now c.loop-at.at _ (omega arith) c.loop-at.ghosts c.keep.new.ghosts _
    c.value_for.result c.loop-at.invariant c.value_for.ensures c.keep.ensures
