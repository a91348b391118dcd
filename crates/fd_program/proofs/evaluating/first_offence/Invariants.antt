use Rattle.std.proofs.Common.{◌≡◌, drop}
use Rattle.std.specs.List.{filter_map}
use Rattle.fd_program.specs.Loops.{first_of, offence_at}
use Rattle.fd_program.proofs.evaluating.first_offence.Given as goal

abbrev pub invariant-loop-used : goal.invariant-loop-used
invariant-loop-used l =
    first_of (filter_map (offence_at l.arrays) (drop l.used-index l.uses)) ≡ first_of (filter_map (offence_at l.arrays) l.uses)
