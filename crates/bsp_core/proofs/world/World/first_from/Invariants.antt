use Rattle.std.proofs.Common.{◌≡◌, ℕ, ◌+◌, ◌%◌, ◌<◌, length}
use Rattle.bsp_core.specs.Turns.{IsStill}
use Rattle.bsp_core.proofs.world.World.first_from.Given as goal

abbrev pub invariant-loop-k : goal.invariant-loop-k
invariant-loop-k g l =
    (l.self ≡ l.initial.self)
    × ((j : ℕ) → j < l.k → IsStill g.N.Phased.view ((l.from + j) % length l.initial.self.nodes) l.initial.self)
