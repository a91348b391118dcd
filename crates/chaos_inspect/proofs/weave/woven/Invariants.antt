use Rattle.std.proofs.Common.{◌≡◌, ◌++◌, drop}
use Rattle.chaos_inspect.specs.Walking.{woven}
use Rattle.chaos_inspect.proofs.weave.woven.Given as goal

abbrev pub invariant-loop-used : goal.invariant-loop-used
invariant-loop-used l = l.values ++ woven (drop l.used-index l.uses) l.first l.second ≡ woven l.uses l.firsts l.seconds
