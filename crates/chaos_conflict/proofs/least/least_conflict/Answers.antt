use Rattle.std.proofs.Common.{◌≡◌, ◌++◌, ◌∙◌, ap, sym, subst}
use Rattle.std.specs.List.{flat_map}
use Rattle.chaos_conflict.specs.Rows.{rows_of, in_order}
use Rattle.chaos_conflict.specs.Clashes.{IsLeastClash, side_by_side}
use Rattle.chaos_conflict.specs.ClashLaws.{adjacent_is_least}
use Rattle.chaos_conflict.proofs.Ordered.{ascending_is}
use Rattle.chaos_conflict.proofs.least.least_conflict.Goals as goal

pub returns : goal.returns
returns c =
    let rows = rows_of c.args.mine.now ++ flat_map rows_of c.args.taken.now in
    let mine : c.read_rows.new.rows.items ≡ rows_of c.args.mine.now =
    c.in_ok-read_rows.ensures ∙ ap (λ l. l ++ rows_of c.as_slice.result.now) c.new-rows.ensures.items ∙ ap rows_of c.as_slice.ensures in
    let read : c.read_letters.new.rows.items ≡ rows =
    c.in_ok-read_letters.ensures ∙ ap (λ l. l ++ flat_map rows_of c.as_slice-2.result.now) mine
    ∙ ap (λ l. rows_of c.args.mine.now ++ flat_map rows_of l) c.as_slice-2.ensures in
    let found : c.least_beside.result ≡ side_by_side (in_order rows) =
    c.least_beside.ensures
    ∙ ap side_by_side (c.as_slice-3.ensures.value ∙ c.ascend.ensures ∙ ascending_is c.read_letters.new.rows.items ∙ ap in_order read) in
    subst (IsLeastClash rows) (sym found) (adjacent_is_least rows)
