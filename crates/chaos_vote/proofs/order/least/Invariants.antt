use Rattle.std.proofs.Common.{◌≡◌, drop}
use Rattle.chaos_vote.specs.Votes.{lesser, least_of}
use Rattle.chaos_vote.proofs.order.least.Given as goal

-- what is left to see decides with the least so far
abbrev pub invariant-loop-vote : goal.invariant-loop-vote
invariant-loop-vote l = lesser l.least (least_of (drop l.vote-index l.votes)) ≡ least_of l.votes
