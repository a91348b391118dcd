use Rattle.std.proofs.Common.{◌+◌, ◌*◌, ℕ, get_or, refl}
use Rattle.std.specs.Prelude.{pos}
use Rattle.chaos_moving.proofs.Lists.{below_step}
use Rattle.chaos_moving.proofs.asks.read_asks.Goals as goal

pub loop-at-preserved : goal.loop-at-preserved
loop-at-preserved c = below_step (λ (k : ℕ). get_or c.args.taken.now (2 * k + 1) (pos 0)) c.loop-at.at c.loop-at.numbers
    c.add_number.new.numbers _ c.loop-at.invariant c.in_ok-add_number.ensures refl
