use Rattle.std.proofs.Common.{◌≡◌, take}
use Rattle.chaos_merge.specs.Merged.{by_owner}
use Rattle.chaos_merge.proofs.owners.for_owners.Given as goal

abbrev pub invariant-loop-entry : goal.invariant-loop-entry
invariant-loop-entry l = l.lists ≡ by_owner l.nodes (take l.entry-index l.found)
