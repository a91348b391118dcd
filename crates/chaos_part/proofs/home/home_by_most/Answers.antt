use Rattle.std.proofs.Common.{◌≡◌, length, rules, arith}
use Rattle.chaos_part.proofs.Most.{most_of-counts}
use Rattle.chaos_part.proofs.home.home_by_most.Goals as goal

pub returns-clause-home : goal.returns-clause-home
returns-clause-home c =
    let places : length c.tally-counts.result ≡ 16 = search rules in
    most_of-counts c.tally-counts.result c.args.owners.now c.args.nodes c.loop-node.home (omega arith) (omega (arith, places))
    c.tally-counts.ensures
    (λ m low. c.loop-node.invariant.none_more m (omega arith)) c.loop-node.invariant.lower_less
