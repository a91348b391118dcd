use Rattle.std.proofs.Common.{◌≡◌, ◌/◌, ◌%◌, sym, ◌∙◌, arith}
use Rattle.chaos_dist.specs.Rounds.{last_round, last_round_low, last_round_at, last_round_high}
use Rattle.chaos_dist.specs.LayoutLaws.{count_on-is, width_of-some}
use Rattle.chaos_section.proofs.counts.count_to.Goals as goal
use Rattle.chaos_section.proofs.counts.count_to.Goals.{then-node-turn, else-node-turn+then-node-turn-2, else-node-turn+else-node-turn-2}

pub returns : goal.returns
returns c =
    let s = c.args.layout in
    let w = c.width-width.result in
    let n = c.from-nodes.result in
    let x = c.args.last in
    let e = c.from-node.ensures in
    let r : c.if-node-turn.rest ≡ last_round w (x / w % n) (x % w) c.args.node =
    elim c.if-node-turn.branch [
      | then-node-turn v ↦ v.rest-is ∙ sym (last_round_low w (x / w % n) (x % w) c.args.node (omega arith))
      | else-node-turn+then-node-turn-2 v ↦ v.rest-is ∙ sym (last_round_at w (x / w % n) (x % w) c.args.node (omega arith))
      | else-node-turn+else-node-turn-2 v ↦ v.rest-is ∙ sym (last_round_high w (x / w % n) (x % w) c.args.node (omega arith) (omega arith))
    ] in
    let width = width_of-some s.shape s.extent s.nodes s.some_elements s.some_nodes s.some_size in
    rw r (rw (c.width-width.ensures, c.from-nodes.ensures)
    (sym (count_on-is s.shape s.extent s.nodes c.args.node x s.some_nodes width c.requires.node c.requires.within)))
