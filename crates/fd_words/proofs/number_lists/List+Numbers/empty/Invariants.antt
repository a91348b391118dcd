use Rattle.std.proofs.Common.{◌≡◌, [], replicate}
use Rattle.fd_words.proofs.number_lists.List+Numbers.empty.Given as goal

abbrev pub invariant-loop : goal.invariant-loop
invariant-loop l = l.lists ≡ replicate l.counter []
