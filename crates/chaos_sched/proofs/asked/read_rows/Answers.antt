use Rattle.std.proofs.Common.{◌+◌, ◌-◌, ◌*◌, ◌≤◌, List, ℤ, ◌++◌, ◌∙◌, length, drop, ap, arith, length-drop}
use Rattle.std.specs.Option.{option_to_list}
use Rattle.std.proofs.lemmas.List.{take_all}
use Rattle.chaos_sched.specs.Scheduled.{item_in, asked_items}
use Rattle.chaos_sched.proofs.Rows.{rows_more, rows_all}
use Rattle.chaos_sched.proofs.asked.read_rows.Goals as goal

pub loop-at-preserved : goal.loop-at-preserved
loop-at-preserved c =
    let n = c.args.number in
    let rows = c.args.rows.now in
    let at = c.loop-at.at in
    let few : length (drop (4 * at) rows) ≤ length rows - 4 * at = omega (arith, length-drop (4 * at) rows) in
    ap (λ l. l ++ asked_items n (drop (4 * (at + 1)) rows))
    (c.in_ok-note.ensures
    ∙ ap (λ i. c.loop-at.items.items ++ option_to_list i) c.first_item-item.ensures
    ∙ ap (λ (l : List ℤ). c.loop-at.items.items ++ option_to_list (item_in n l)) (take_all (length rows - 4 * at) (drop (4 * at) rows) few))
    ∙ rows_more n rows at c.loop-at.items.items (omega arith) c.loop-at.invariant

pub returns : goal.returns
returns c = rows_all c.args.number c.args.rows.now c.loop-at.at c.loop-at.items.items (omega arith) c.loop-at.invariant
