use Rattle.std.proofs.Common.{◌≡◌, ◌++◌, drop, filter}
use Rattle.fd_program.specs.Uses.{gives_index}
use Rattle.chaos_inspect.specs.Walking.{known_through}
use Rattle.chaos_inspect.proofs.weave.index_uses.Given as goal

abbrev pub invariant-loop-i : goal.invariant-loop-i
invariant-loop-i l =
    l.list ++ filter (gives_index l.facts.arrays) (known_through l.facts (drop l.i-index l.iterations) l.rest)
    ≡ filter (gives_index l.facts.arrays) (known_through l.facts l.iterations l.firsts)
