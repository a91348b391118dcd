use Rattle.std.proofs.Common.{◌<◌, ◌∙◌, arith}
use Rattle.std.specs.List.{zip}
use Rattle.append_node.proofs.Putting.{first_lists, length-lists, starts}
use Rattle.append_node.proofs.node.AppendNode.start.Goals as goal

pub begin_round-requires-clause-count : goal.begin_round-requires-clause-count
begin_round-requires-clause-count c =
    length-lists c.in_ok-lists.lists c.layout.result.extent c.layout.result.nodes (zip c.as_slice.result.now c.as_slice-2.result.now)
    c.in_ok-lists.ensures
    ∙ c.layout.ensures.nodes

pub returns : goal.returns
returns c plan is is_job block =
    let job = c.args.job.now in
    let low : c.args.id < plan.nodes = omega (arith, c.requires.node, is_job.nodes) in
    let lists =
    first_lists job c.in_ok-lists.lists c.layout.result.extent c.layout.result.nodes c.args.bins c.args.values c.as_slice.result.now
    c.as_slice-2.result.now c.in_ok-lists.ensures c.layout.ensures.extent c.layout.ensures.nodes c.as_slice.ensures c.as_slice-2.ensures in
    starts plan is job is_job c.args.id low c.args.bins c.args.values block c.in_ok-lists.lists lists c.in_ok-phase.field-0
    c.in_ok-phase.ensures
    c.new.result c.new-2.result c.new.ensures c.new-2.ensures
