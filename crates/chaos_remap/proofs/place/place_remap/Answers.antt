use Rattle.std.proofs.Common.{◌≡◌, ◌-◌, List, map, ap, ◌∙◌, arith}
use Rattle.std.specs.List.{range_with_len}
use Rattle.list_laws.specs.Order.{ascending}
use Rattle.chaos_remap.specs.declared.rows.Row.{Row}
use Rattle.chaos_remap.specs.Remapped.{sorted_rows}
use Rattle.chaos_remap.specs.Rows.{row_cmp, column_of}
use Rattle.chaos_remap.proofs.Steps.{column_more}
use Rattle.chaos_remap.proofs.place.place_remap.Goals as goal

pub loop-place-preserved : goal.loop-place-preserved
loop-place-preserved c =
    column_more (column_of c.args.taken.now c.ascend.new.list.items) c.loop-place.place c.loop-place.pieces c.push.new.self _
    (omega arith) c.loop-place.invariant c.in_ok-push.ensures.ok
    (c.in_ok-column.ensures ∙ ap (λ (rows : List Row). column_of c.args.taken.now rows c.loop-place.place)
    c.as_slice-in-loop-place.ensures.value)

pub returns : goal.returns
unfolding sorted_rows
returns c =
    let taken = c.args.taken.now in
    let sorted : c.ascend.new.list.items ≡ sorted_rows c.args.width taken = c.ascend.ensures
    ∙ ap (ascending row_cmp) c.in_ok-rows.ensures in
    let last : c.loop-place.place ≡ c.args.width = omega arith in
    let elements = c.in_ok-elements.ensures ∙ ap (λ (rows : List Row). column_of taken rows 0) (c.as_slice.ensures.value ∙ sorted) in
    let pieces =
    c.loop-place.invariant
    ∙ ap (λ n. map (column_of taken c.ascend.new.list.items) (range_with_len 1 (n - 1))) last
    ∙ ap (λ (rows : List Row). map (column_of taken rows) (range_with_len 1 (c.args.width - 1))) sorted in
    λ i. record { elements = elements i; pieces = pieces i }
