use Rattle.std.proofs.Common.{◌++◌, ◌∙◌, ap}
use Rattle.std.specs.List.{flat_map}
use Rattle.chaos_conflict.specs.Rows.{claim_row, in_order}
use Rattle.chaos_conflict.proofs.Ordered.{ascending_is}
use Rattle.chaos_conflict.proofs.claiming.letter_to.Goals as goal

pub returns : goal.returns
returns c =
    c.in_ok-add_rows.ensures
    ∙ ap (λ l. l ++ flat_map claim_row c.as_slice.result.now) c.new-numbers.ensures
    ∙ ap (flat_map claim_row)
    (c.as_slice.ensures.value ∙ c.ascend.ensures ∙ ascending_is c.in_ok-rows.rows.items ∙ ap in_order c.in_ok-rows.ensures)
