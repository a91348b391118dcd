use Rattle.std.proofs.Common.{pos, sym, ◌∙◌}
use Rattle.list_laws.specs.Dealt.{dealt-none}
use Rattle.chaos_remap.specs.Remapping.{new_owner}
use Rattle.chaos_remap.proofs.Steps.{plan_more}
use Rattle.chaos_remap.proofs.plan.plan_remap.Goals as goal

pub loop-at-init : goal.loop-at-init
loop-at-init c = c.in_ok-goes.ensures ∙ sym (dealt-none (new_owner c.args.places.now) pos 0 c.args.nodes)

pub loop-at-preserved : goal.loop-at-preserved
loop-at-preserved c = plan_more c.args.places.now c.args.nodes c.loop-at.at c.owner_at.result c.loop-at.goes c.send.new.goes
    c.loop-at.invariant c.in_ok-send.ensures c.owner_at.ensures
