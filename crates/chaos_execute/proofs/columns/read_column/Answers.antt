use Rattle.std.proofs.Common.{◌≡◌, Some, None, ap, sym, ◌∙◌, subst}
use Rattle.std.specs.Prelude.{IfOk}
use Rattle.fd_words.specs.Lists.{list_at}
use Rattle.chaos_execute.specs.Columns.{seated_column}
use Rattle.chaos_execute.specs.Seats.{seat_at}
use Rattle.chaos_execute.proofs.Blocks.{seated_is, unseated_is}
use Rattle.chaos_execute.proofs.columns.read_column.Goals as goal

pub returns-in-Some : goal.returns-in-Some
returns-in-Some c =
    let a = c.args in
    let seat = c.in-Some.seat in
    let found : seat_at a.sources.now.seats.now a.number ≡ Some seat = sym c.find_seat.ensures ∙ c.in-Some.is in
    subst (λ l. IfOk c.read_seated.result (λ v. v.items ≡ l))
    (ap (λ p. seated_column p c.numbers_of-in-Some.result.now seat.at a.block.now.width a.block.now.iterations.now a.block.now.row.now)
    c.numbers_of.ensures
    ∙ ap (λ g. seated_column (list_at a.sources.now.pieces.now seat.array) g seat.at a.block.now.width a.block.now.iterations.now
    a.block.now.row.now) c.numbers_of-in-Some.ensures
    ∙ seated_is a.sources.now.pieces.now a.sources.now.ghosts.now a.sources.now.seats.now seat a.number a.block.now.width found
    a.block.now.iterations.now a.block.now.row.now) c.read_seated.ensures

pub returns-in-None : goal.returns-in-None
returns-in-None c =
    let a = c.args in
    let none : seat_at a.sources.now.seats.now a.number ≡ None = sym c.find_seat.ensures ∙ c.in-None.is in
    subst (λ l. IfOk c.filled.result (λ v. v.items ≡ l))
    (unseated_is a.sources.now.pieces.now a.sources.now.ghosts.now a.sources.now.seats.now a.number a.block.now.width none
    a.block.now.iterations.now a.block.now.row.now) c.filled.ensures
