use Rattle.std.proofs.Common.{◌≡◌, take}
use Rattle.inspect_enter.specs.Needs.{needs_of}
use Rattle.inspect_enter.proofs.needs.needs_of.Given as goal

abbrev pub invariant-loop-at : goal.invariant-loop-at
invariant-loop-at l = l.needs ≡ needs_of (take l.at l.placed) (take l.at l.references)
