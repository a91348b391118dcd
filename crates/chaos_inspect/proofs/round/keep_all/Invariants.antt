use Rattle.std.proofs.Common.{◌≡◌, ◌++◌, take, filter}
use Rattle.chaos_inspect.specs.Walking.{is_asked}
use Rattle.chaos_inspect.proofs.round.keep_all.Given as goal

abbrev pub invariant-loop-used : goal.invariant-loop-used
invariant-loop-used l = l.wanted ≡ l.fn.wanted ++ filter (is_asked l.facts l.asking) (take l.used-index l.uses)
