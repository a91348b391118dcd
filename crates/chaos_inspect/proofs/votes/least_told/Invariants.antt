use Rattle.std.proofs.Common.{◌≡◌, take, map}
use Rattle.chaos_vote.specs.Votes.{read_vote}
use Rattle.chaos_inspect.proofs.votes.least_told.Given as goal

abbrev pub invariant-loop-letter : goal.invariant-loop-letter
invariant-loop-letter l = l.votes.items ≡ map read_vote (take l.letter-index l.letters)
