use Rattle.append_node.specs.Jobs.{is_plan}
use Rattle.append_node.specs.Node.{plan_of}
use Rattle.top_tests.proofs.append.world_of.Goals as goal

pub new-requires : goal.new-requires
new-requires c = record {
  together = (
    plan_of c.args.job.now c.args.bins.now c.args.values.now,
    is_plan c.args.job.now c.args.bins.now c.args.values.now c.requires.count c.requires.in_bins,
    c.in_ok-nodes.ensures,
  );
}
