use Rattle.std.proofs.Common.{◌≡◌, drop}
use Rattle.chaos_conflict.specs.Clashes.{lesser, least_clash_of}
use Rattle.chaos_conflict.proofs.order.least_clash.Given as goal

-- what is left to see decides with the least so far
abbrev pub invariant-loop-vote : goal.invariant-loop-vote
invariant-loop-vote l = lesser l.least (least_clash_of (drop l.vote-index l.votes)) ≡ least_clash_of l.votes
