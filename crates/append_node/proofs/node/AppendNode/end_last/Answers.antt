use Rattle.std.proofs.Common.{◌-◌, ◌∙◌, ap}
use Rattle.bsp_core.specs.Views.{View}
use Rattle.append_node.specs.Node.{AppendState}
use Rattle.append_node.proofs.Putting.{print_is_put}
use Rattle.append_node.proofs.node.AppendNode.end_last.Goals as goal

pub returns-clause-ok : goal.returns-clause-ok
returns-clause-ok c =
    let now : View AppendState = c.args.self.now in
    let seen = c.self.view_is in
    c.put.ensures
    ∙ print_is_put now c.seat-seat.result c.self.inside.job.steps (c.left-left.result - 1) c.in_ok-rows.rows c.in_ok-begun.begun
    c.in_ok-begun.ensures
    (ap (λ (w : View AppendState). w.state.job.steps) seen) c.in_ok-rows.ensures c.seat-seat.ensures.me c.seat-seat.ensures.count
    (ap (λ n. n - 1) (c.left-left.ensures.is ∙ ap (λ (w : View AppendState). w.face.left) seen))
