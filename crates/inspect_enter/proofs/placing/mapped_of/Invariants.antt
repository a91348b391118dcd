use Rattle.std.proofs.Common.{◌≡◌, take, filter}
use Rattle.inspect_enter.specs.Placed.{is_mapped}
use Rattle.inspect_enter.proofs.placing.mapped_of.Given as goal

abbrev pub invariant-loop-used : goal.invariant-loop-used
invariant-loop-used l = l.list ≡ filter (is_mapped l.facts) (take l.used-index l.uses)
