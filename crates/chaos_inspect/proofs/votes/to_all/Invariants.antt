use Rattle.std.proofs.Common.{◌≡◌, replicate}
use Rattle.chaos_inspect.proofs.votes.to_all.Given as goal

abbrev pub invariant-loop : goal.invariant-loop
invariant-loop l = l.lists ≡ replicate l.counter l.numbers
