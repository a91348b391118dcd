use Rattle.std.proofs.Common.{◌==◌, ap, arith}
use Rattle.fd_words.specs.Lists.{list_at}
use Rattle.fd_program.specs.Places.{decomposition_of}
use Rattle.fd_program.specs.declared.array.ArrayFacts.{ArrayFacts}
use Rattle.chaos_begin.proofs.Pieces.{picked_kept}
use Rattle.chaos_begin.proofs.share.pieces.Goals as goal

pub loop-array-preserved : goal.loop-array-preserved
loop-array-preserved c =
    picked_kept (λ array. decomposition_of c.args.arrays.now array == c.args.d) (λ array. list_at c.args.lists.now array)
    c.loop-array.pieces c.add_if.new.pieces
    c.args.count c.loop-array.array _ _ (omega (arith, c.loop-array-test.true))
    (ap (λ (a : ArrayFacts). a.decomposition == c.args.d) c.array_at.ensures)
    c.in_ok-add_if.ensures c.loop-array.invariant
