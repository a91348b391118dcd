use Rattle.std.proofs.Common.{ℕ, ap, ◌∙◌}
use Rattle.chaos_conflict.specs.Rows.{claims_to}
use Rattle.chaos_conflict.proofs.Beside.{one_more}
use Rattle.chaos_conflict.proofs.claiming.claims_of.Goals as goal

pub loop-owner-preserved : goal.loop-owner-preserved
loop-owner-preserved c =
    one_more (λ (q : ℕ). claims_to q c.args.claims.now) c.loop-owner.owner c.loop-owner.lists c.push.new.self _ c.loop-owner.invariant
    c.in_ok-push.ensures.ok
    (c.in_ok-letter_to.ensures ∙ ap (claims_to c.loop-owner.owner) c.as_slice.ensures)
