use Rattle.std.proofs.Common.{◌≡◌, ◌++◌, take, filter}
use Rattle.fd_program.specs.Uses.{gives_index}
use Rattle.chaos_inspect.proofs.weave.keep_all.Given as goal

abbrev pub invariant-loop-used : goal.invariant-loop-used
invariant-loop-used l = l.kept ≡ l.fn.kept ++ filter (gives_index l.arrays) (take l.used-index l.uses)
