use Rattle.std.proofs.Common.{◌≡◌, ℕ, ◌+◌, ◌≤◌, length, map}
use Rattle.bsp_core.specs.Turns.{KeepsLockstep, total, Plays, rounds}
use Rattle.bsp_core.specs.Script.{MovesBy}
use Rattle.bsp_core.proofs.world.World.round_robin.Given as goal

abbrev pub invariant-rounds : goal.invariant-rounds
invariant-rounds g l =
    (length l.self.nodes ≡ length l.initial.self.nodes)
    × KeepsLockstep g.N.Phased.view g.N.Phased.IsPlan g.N.Phased.count g.N.Phased.rows g.N.Phased.holds l.initial.self l.self
    × ((k : ℕ) × Plays g.N.Phased.view (rounds k (length l.initial.self.nodes)) l.initial.self l.self
    × (k + length l.initial.self.moved ≤ length l.self.moved)
    × MovesBy g.N.Phased.view g.N.Phased.IsPlan g.N.Phased.count g.N.Phased.rows g.N.Phased.holds (rounds k (length l.initial.self.nodes))
    l.initial.self l.self)

abbrev pub decreases-rounds : goal.decreases-rounds
decreases-rounds g l = total (map g.N.Phased.view l.self.nodes)
