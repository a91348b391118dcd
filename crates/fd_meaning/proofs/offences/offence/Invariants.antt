use Rattle.std.proofs.Common.{◌≡◌, drop}
use Rattle.fd_program.specs.Loops.{first_of, offences_in}
use Rattle.fd_meaning.proofs.offences.offence.Given as goal

abbrev pub invariant-loop-i : goal.invariant-loop-i
invariant-loop-i l =
    first_of (offences_in l.arrays l.site l.turn l.store (drop l.i-index l.iterations))
    ≡ first_of (offences_in l.arrays l.site l.turn l.store l.iterations)
