use Rattle.chaos_entering.proofs.Sent.{all_sent}
use Rattle.chaos_entering.proofs.loops.sent_by.Goals as goal

pub returns-in-Ok-counts : goal.returns-in-Ok-counts
returns-in-Ok-counts c =
    all_sent c.enter_stage.result c.args.naming c.args.me c.args.session.now.nodes c.args.lists c.args.counts c.in-Ok.lists
    c.in-Ok-counts.counts c.as_slice.result.now c.in-Ok.is c.in-Ok-counts.is c.as_slice.ensures.value c.enter_stage.ensures.own
    c.enter_stage.ensures.sizes c.enter_stage.ensures.posted
