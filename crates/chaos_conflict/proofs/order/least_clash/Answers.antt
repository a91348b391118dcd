use Rattle.std.proofs.Common.{◌≡◌, sym, subst}
use Rattle.chaos_conflict.specs.Clashes.{least_clash_of}
use Rattle.chaos_conflict.specs.LeastLaws.{next_vote, all_votes, IsLeast, is_least, one_of, none_less, none_where}
use Rattle.chaos_conflict.proofs.order.least_clash.Goals as goal

pub returns : goal.returns
returns c =
    let votes = c.args.votes.now in
    let e : c.loop-vote.least ≡ least_clash_of votes = all_votes votes c.loop-vote.vote-index c.loop-vote.least c.loop-vote-test.false
    c.loop-vote.invariant in
    let least : IsLeast votes c.loop-vote.least = subst (IsLeast votes) (sym e) (is_least votes) in
    record {
      least = e;
      none = none_where votes c.loop-vote.least least;
      told = one_of votes c.loop-vote.least least;
      no_less = none_less votes c.loop-vote.least least;
    }

pub loop-vote-preserved : goal.loop-vote-preserved
loop-vote-preserved c =
    next_vote c.args.votes.now c.loop-vote.vote-index _ c.loop-vote.least c.lesser_of-least.result c.loop-vote-test.true
    c.lesser_of-least.ensures c.loop-vote.invariant
