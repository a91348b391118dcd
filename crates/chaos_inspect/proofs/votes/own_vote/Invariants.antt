use Rattle.std.proofs.Common.{◌≡◌, drop}
use Rattle.std.specs.List.{filter_map}
use Rattle.fd_program.specs.Loops.{first_of, offence_at}
use Rattle.chaos_inspect.specs.Walking.{uses_through}
use Rattle.chaos_inspect.proofs.votes.own_vote.Given as goal

abbrev pub invariant-loop-i : goal.invariant-loop-i
invariant-loop-i l =
    first_of (filter_map (offence_at l.facts.arrays) (uses_through l.facts (drop l.i-index l.iterations) l.rest))
    ≡ first_of (filter_map (offence_at l.facts.arrays) (uses_through l.facts l.iterations l.values))
