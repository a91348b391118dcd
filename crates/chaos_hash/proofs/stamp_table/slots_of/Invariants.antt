use Rattle.std.proofs.Common.{◌≡◌, ◌++◌, drop, map, pos}
use Rattle.chaos_hash.proofs.stamp_table.slots_of.Given as goal

abbrev pub invariant-loop-entry : goal.invariant-loop-entry
invariant-loop-entry l = l.slots ++ map (λ e. pos e.1.slot) (drop l.entry-index l.found) ≡ map (λ e. pos e.1.slot) l.found
