use Rattle.std.proofs.Common.{ℕ, refl}
use Rattle.chaos_moving.proofs.Lists.{below_step}
use Rattle.chaos_moving.proofs.counts.copies.Goals as goal

pub loop-node-preserved : goal.loop-node-preserved
loop-node-preserved c = below_step (λ (q : ℕ). c.args.numbers.now) c.loop-node._node c.loop-node.lists c.add_copy.new.lists _
    c.loop-node.invariant c.in_ok-add_copy.ensures refl
