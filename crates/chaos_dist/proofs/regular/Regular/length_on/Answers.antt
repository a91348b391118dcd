use Rattle.std.proofs.Common.{◌≡◌, ◌/◌, ◌%◌, sym, ◌∙◌, arith}
use Rattle.chaos_dist.specs.Rounds.{last_round, last_round_low, last_round_at, last_round_high}
use Rattle.chaos_dist.specs.LayoutLaws.{width_of-some}
use Rattle.chaos_dist.proofs.Formulas.{length_of_is}
use Rattle.chaos_dist.proofs.regular.Regular.length_on.Goals as goal
use Rattle.chaos_dist.proofs.regular.Regular.length_on.Goals.{then-node-last, else-node-last+then-node-last-2}
use Rattle.chaos_dist.proofs.regular.Regular.length_on.Goals.{else-node-last+else-node-last-2}

pub returns-clause-length : goal.returns-clause-length
returns-clause-length c =
    let s = c.args.self in
    let w = c.width-width.result in
    let n = c.from-nodes.result in
    let e = c.from-node.ensures in
    let r : c.if-node-last.rest ≡ last_round w (s.extent / w % n) (s.extent % w) c.args.node =
    elim c.if-node-last.branch [
      | then-node-last v ↦ v.rest-is ∙ sym (last_round_low w (s.extent / w % n) (s.extent % w) c.args.node (omega arith))
      | else-node-last+then-node-last-2 v ↦ v.rest-is ∙ sym (last_round_at w (s.extent / w % n) (s.extent % w) c.args.node (omega arith))
      | else-node-last+else-node-last-2 v ↦ v.rest-is ∙ sym (last_round_high w (s.extent / w % n) (s.extent % w) c.args.node (omega arith)
          (omega arith))
    ] in
    let width = width_of-some s.shape s.extent s.nodes s.some_elements s.some_nodes s.some_size in
    length_of_is s.shape s.extent s.nodes c.args.node w n c.if-node-last.rest s.some_nodes width c.requires c.width-width.ensures
    c.from-nodes.ensures r
