use Rattle.chaos_entering.proofs.StageSteps.{is_staged}
use Rattle.chaos_entering.proofs.loops.stage_with.Goals as goal

pub returns : goal.returns
returns c = λ me nodes lists counts h.
    is_staged c.args.naming me nodes c.args.activity lists counts c.args.left c.args.sent.own c.args.sent.sizes c.args.sent.posted
    c.entered_by.result h.own h.sizes h.posted c.entered_by.ensures
