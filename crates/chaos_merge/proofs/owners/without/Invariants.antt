use Rattle.std.proofs.Common.{◌≡◌, take}
use Rattle.chaos_merge.specs.Merged.{unstamped}
use Rattle.chaos_merge.proofs.owners.without.Given as goal

abbrev pub invariant-loop-entry : goal.invariant-loop-entry
invariant-loop-entry l = l.more ≡ unstamped l.mask (take l.entry-index l.found)
