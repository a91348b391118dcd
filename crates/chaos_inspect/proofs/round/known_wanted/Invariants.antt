use Rattle.std.proofs.Common.{◌≡◌, ◌++◌, drop, filter}
use Rattle.chaos_inspect.specs.Walking.{is_asked, known_through}
use Rattle.chaos_inspect.proofs.round.known_wanted.Given as goal

abbrev pub invariant-loop-i : goal.invariant-loop-i
invariant-loop-i l =
    l.list ++ filter (is_asked l.facts l.asking) (known_through l.facts (drop l.i-index l.iterations) l.rest)
    ≡ filter (is_asked l.facts l.asking) (known_through l.facts l.iterations l.firsts)
