use Rattle.std.proofs.Common.{◌≡◌, ◌-◌, ◌∙◌, ap, map, sym}
use Rattle.bsp_core.specs.Views.{View}
use Rattle.chaos_bins.specs.Coming.{all_pairs}
use Rattle.chaos_bins.specs.Dealing.{stepped}
use Rattle.append_node.specs.Node.{AppendState}
use Rattle.append_node.proofs.Putting.{length-lists, lists_are, round_is_put}
use Rattle.append_node.proofs.node.AppendNode.end_append.Goals as goal

pub begin_round-requires-clause-count : goal.begin_round-requires-clause-count
begin_round-requires-clause-count c =
    let layout = c.layout-layout.result in
    length-lists c.in_ok-lists.lists layout.extent layout.nodes
    (map (stepped layout.extent) (all_pairs layout.nodes c.seat-seat.result.me c.as_slice.result.now c.got.result.now))
    c.in_ok-lists.ensures
    ∙ c.layout-layout.ensures.nodes
    ∙ sym c.self.invariant.count
    ∙ ap (λ (w : View AppendState). w.face.count) c.self.view_is
    ∙ sym c.seat-seat.ensures.count

pub returns-clause-ok : goal.returns-clause-ok
returns-clause-ok c =
    let now : View AppendState = c.args.self.now in
    let seen = c.self.view_is in
    let nodes : now.face.count ≡ now.state.job.nodes =
    sym (ap (λ (w : View AppendState). w.face.count) seen) ∙ c.self.invariant.count
    ∙ ap (λ (w : View AppendState). w.state.job.nodes) seen in
    let lists =
    lists_are now c.in_ok-lists.lists c.layout-layout.result.extent c.layout-layout.result.nodes c.seat-seat.result.me c.as_slice.result.now
    c.got.result.now c.in_ok-lists.ensures (c.layout-layout.ensures.extent ∙ ap (λ (w : View AppendState). w.state.job.bins) seen)
    (c.layout-layout.ensures.nodes ∙ ap (λ (w : View AppendState). w.state.job.nodes) seen) nodes c.seat-seat.ensures.me
    (c.as_slice.ensures ∙ ap (λ (w : View AppendState). w.state.own) seen) (c.got.ensures
    ∙ ap (λ (w : View AppendState). w.face.got) seen) in
    c.put.ensures
    ∙ round_is_put now c.seat-seat.result c.args.round (c.left-left.result - 1) c.in_ok-lists.lists c.in_ok-begun.begun
    c.in_ok-begun.ensures lists
    c.seat-seat.ensures.me c.seat-seat.ensures.count nodes c.seat-seat.ensures.less
    (ap (λ n. n - 1) (c.left-left.ensures.is ∙ ap (λ (w : View AppendState). w.face.left) seen))
