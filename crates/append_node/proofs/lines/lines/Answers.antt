use Rattle.std.proofs.Common.{ap, add-one, arith}
use Rattle.chaos_bins.specs.Lines.{through, through-grows}
use Rattle.append_node.proofs.Walks.{lines_kept}
use Rattle.append_node.proofs.lines.lines.Goals as goal

pub between-requires-clause-order : goal.between-requires-clause-order
between-requires-clause-order c =
    omega (
      arith,
      c.loop-bin.invariant.1,
      c.through-to.ensures.is,
      ap (λ b. through b c.args.pairs.now) (add-one c.loop-bin.bin),
      through-grows c.loop-bin.bin c.args.pairs.now,
    )

pub loop-bin-preserved : goal.loop-bin-preserved
loop-bin-preserved c = (
  lines_kept c.args.pairs.now c.loop-bin.bin c.loop-bin.from c.through-to.result c.loop-bin.text c.append_line.new.text c.between.result.now
      c.through-to.ensures.up c.loop-bin.invariant.0 c.loop-bin.invariant.1 c.through-to.ensures.is c.between.ensures
      c.in_ok-append_line.ensures,
  c.through-to.ensures.is,
)
