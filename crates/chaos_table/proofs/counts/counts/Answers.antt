use Rattle.std.proofs.Common.{◌≡◌, ◌≤◌, ◌<◌, ◌==◌, length, get_or, count_by, rules, arith}
use Rattle.std.proofs.lemmas.List.Sums.{count_by-le-length}
use Rattle.chaos_dist.specs.Owners.{length_in}
use Rattle.chaos_table.proofs.Placed.{counted_more}
use Rattle.chaos_table.proofs.counts.counts.Goals as goal

pub note-requires : goal.note-requires
note-requires c =
    let places : length c.tally-tally.result ≡ 16 = search rules in
    let low : c.loop-node.node < length c.tally-tally.result = omega arith in
    omega (arith, c.tally-tally.ensures c.loop-node.node low, count_by-le-length (λ o. o == c.loop-node.node) c.args.owners.now)

pub loop-node-preserved : goal.loop-node-preserved
loop-node-preserved c =
    let places : length c.tally-tally.result ≡ 16 = search rules in
    let low : c.loop-node.node < length c.tally-tally.result = omega arith in
    counted_more (length_in c.args.owners.now) c.loop-node.node (get_or c.tally-tally.result c.loop-node.node 0) c.loop-node.counts
    c.note.new.counts
    c.loop-node.invariant c.in_ok-note.ensures (c.tally-tally.ensures c.loop-node.node low)
