use Rattle.std.proofs.Common.{◌≡◌, ◌++◌, take, filter}
use Rattle.inspect_enter.specs.Placed.{is_kept}
use Rattle.inspect_enter.proofs.rows.keep_all.Given as goal

abbrev pub invariant-loop-used : goal.invariant-loop-used
invariant-loop-used l = l.kept ≡ l.fn.kept ++ filter (is_kept l.facts) (take l.used-index l.list)
