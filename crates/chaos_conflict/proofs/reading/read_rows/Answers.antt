use Rattle.std.proofs.Common.{◌+◌, ◌-◌, ◌*◌, ◌≤◌, List, ℤ, ◌++◌, ◌∙◌, length, drop, ap, arith, length-drop}
use Rattle.std.specs.Option.{option_to_list}
use Rattle.std.proofs.lemmas.List.{take_all}
use Rattle.chaos_conflict.specs.Rows.{row_in, rows_of}
use Rattle.chaos_conflict.proofs.Beside.{rows_more, rows_all}
use Rattle.chaos_conflict.proofs.reading.read_rows.Goals as goal

pub loop-at-preserved : goal.loop-at-preserved
loop-at-preserved c =
    let numbers = c.args.numbers.now in
    let at = c.loop-at.at in
    let few : length (drop (3 * at) numbers) ≤ length numbers - 3 * at = omega (arith, length-drop (3 * at) numbers) in
    ap (λ l. l ++ rows_of (drop (3 * (at + 1)) numbers))
    (c.in_ok-note.ensures
    ∙ ap (λ i. c.loop-at.rows.items ++ option_to_list i) c.first_row-row.ensures
    ∙ ap (λ (l : List ℤ). c.loop-at.rows.items ++ option_to_list (row_in l))
    (take_all (length numbers - 3 * at) (drop (3 * at) numbers) few))
    ∙ rows_more numbers at c.loop-at.rows.items (c.args.rows.now.items ++ rows_of numbers) (omega arith) c.loop-at.invariant

pub returns : goal.returns
returns c =
    rows_all c.args.numbers.now c.loop-at.at c.loop-at.rows.items (c.args.rows.now.items ++ rows_of c.args.numbers.now) (omega arith)
    c.loop-at.invariant
