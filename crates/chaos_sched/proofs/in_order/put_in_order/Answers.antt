use Rattle.std.proofs.Common.{ap, ◌∙◌, rules}
use Rattle.std.specs.List.{dedup}
use Rattle.std.proofs.lemmas.Fn.{dedup_same}
use Rattle.chaos_sched.specs.Scheduled.{in_order, same_element}
use Rattle.chaos_sched.proofs.in_order.put_in_order.Goals as goal

pub returns : goal.returns
unfolding in_order
returns c =
    dedup_same _ same_element _ (λ x y b f' x' y' k. search rules) _ _ c.dedup_by.ensures.filtered
    ∙ ap (dedup same_element) c.ascend.ensures
