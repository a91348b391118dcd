use Rattle.chaos_entering.proofs.Finding.{Searches}
use Rattle.chaos_entering.proofs.found.find.Given as goal

abbrev pub invariant-loop-number : goal.invariant-loop-number
invariant-loop-number l = Searches l.between l.trace l.from l.number
