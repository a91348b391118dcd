use Rattle.std.proofs.Common.{◌∙◌, ap}
use Rattle.bsp_core.specs.Views.{View}
use Rattle.chaos_bins.specs.Coming.{part_of}
use Rattle.append_node.specs.Node.{AppendState}
use Rattle.append_node.proofs.Walks.{pairs_kept}
use Rattle.append_node.proofs.node.AppendNode.all_sorted.Goals as goal

pub loop-node-preserved : goal.loop-node-preserved
loop-node-preserved c =
    let own = c.as_slice-own.result.now in
    let got = c.got-got.result.now in
    pairs_kept c.args.self.now.face.me own got c.part.result.now c.loop-node.pairs c.add.new.self c.loop-node.node c.loop-node.invariant
    (c.part.ensures
    ∙ ap (λ m. part_of m own got c.loop-node.node) (c.me.ensures.is ∙ ap (λ (w : View AppendState). w.face.me) c.self.view_is))
    c.in_ok-add.ensures
