use Rattle.std.proofs.Common.{ap, sym, ◌∙◌, arith, ◌+◌}
use Rattle.chaos_table.specs.Pages.{earlier}
use Rattle.chaos_table.proofs.Placed.{earlier-more}
use Rattle.chaos_table.proofs.pages.earlier_on.Goals as goal

pub loop-before-preserved : goal.loop-before-preserved
loop-before-preserved c =
    let small = c.loop-before.invariant.small in
    let one = c.count-sum.ensures.most in
    let large = c.requires.large in
    record {
      sum = ap (λ s. s + c.count-sum.result) c.loop-before.invariant.sum
          ∙ ap (λ n. earlier c.args.extent c.args.counts.now c.loop-before.before c.args.node + n) c.count-sum.ensures.count
          ∙ sym (earlier-more c.args.extent c.args.counts.now c.loop-before.before c.args.node);
      small = omega (arith, small, one, large);
    }
