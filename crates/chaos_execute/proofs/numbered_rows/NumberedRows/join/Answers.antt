use Rattle.std.proofs.Common.{rules, ◌≡◌, ◌+◌, ◌*◌, length, pos, None, Some, ap, sym, ◌∙◌, subst, FitsSigned, w64}
use Rattle.std.specs.Prelude.{◌/◌, slice_get, set}
use Rattle.std.specs.Result.{OnOk}
use Rattle.std.proofs.lemmas.Int.{to_z-of_z}
use Rattle.chaos_move.specs.Moves.{changed, number_at}
use Rattle.chaos_execute.specs.Numbered.{counted, places_at, rows_at}
use Rattle.chaos_execute.specs.Pending.{joined_at}
use Rattle.chaos_execute.proofs.Numbering.{changed_numbered, is_new, number_below, place_within, places_half, row_changed}
use Rattle.chaos_execute.proofs.numbered_rows.NumberedRows.join.Goals as goal

pub add-requires-clause-is_new : goal.add-requires-clause-is_new
add-requires-clause-is_new c =
    let i = c.self.inside in
    let len : c.len.result ≡ length i.rows.items = search rules in
    let half = places_half i.rows.items (c.len.result / 2) (ap (λ n. n / 2) len) in
    let none : counted (length (places_at i.rows.items)) (slice_get i.table.items c.args.place) ≡ None =
    ap (λ n. counted n (slice_get i.table.items c.args.place)) (sym half)
    ∙ ap (λ t. counted (c.len.result / 2) (slice_get t c.args.place)) (sym c.as_slice.ensures.value) ∙ sym c.find.ensures ∙ c.in-None.is in
    is_new i.table.items i.rows.items c.args.place c.self.invariant none

pub change_at-requires : goal.change_at-requires
change_at-requires c =
    let i = c.self.inside in
    let len : c.len.result ≡ length i.rows.items = search rules in
    let half = places_half i.rows.items (c.len.result / 2) (ap (λ n. n / 2) len) in
    let found : counted (length (places_at i.rows.items)) (slice_get i.table.items c.args.place) ≡ Some c.in-Some.number =
    ap (λ n. counted n (slice_get i.table.items c.args.place)) (sym half)
    ∙ ap (λ t. counted (c.len.result / 2) (slice_get t c.args.place)) (sym c.as_slice.ensures.value) ∙ sym c.find.ensures ∙ c.in-Some.is in
    place_within i.rows.items c.in-Some.number (number_below i.rows.items i.table.items c.args.place c.in-Some.number found)

pub invariant_of-self : goal.invariant_of-self
invariant_of-self c =
    let i = c.self.inside in
    changed_numbered i.table.items i.rows.items c.change_at.new.rows.items c.in-Some.number _ c.self.invariant c.change_at.ensures

pub returns-in-Some : goal.returns-in-Some
returns-in-Some c =
    let i = c.self.inside in
    let fits : FitsSigned w64 c.args.value = search rules in
    let len : c.len.result ≡ length i.rows.items = search rules in
    let half = places_half i.rows.items (c.len.result / 2) (ap (λ n. n / 2) len) in
    let found : counted (length (places_at i.rows.items)) (slice_get i.table.items c.args.place) ≡ Some c.in-Some.number =
    ap (λ n. counted n (slice_get i.table.items c.args.place)) (sym half)
    ∙ ap (λ t. counted (c.len.result / 2) (slice_get t c.args.place)) (sym c.as_slice.ensures.value) ∙ sym c.find.ensures ∙ c.in-Some.is in
    let at = 2 * c.in-Some.number + 1 in
    ap rows_at (c.change_at.ensures
    ∙ ap (λ v. set i.rows.items at (changed c.args.operator (number_at i.rows.items at) v)) (to_z-of_z w64 c.args.value fits))
    ∙ row_changed c.args.operator i.table.items i.rows.items c.args.place c.in-Some.number c.args.value c.self.invariant found
    ∙ ap (λ rows. joined_at c.args.operator rows (pos c.args.place) c.args.value) c.self.view_is

pub returns-in-None : goal.returns-in-None
returns-in-None c =
    let i = c.self.inside in
    let fits : FitsSigned w64 c.args.value = search rules in
    subst (λ rows. OnOk c.add.result (rows_at c.add.new.rows.items ≡ joined_at c.args.operator rows (pos c.args.place) c.args.value))
    c.self.view_is
    (subst (λ v. OnOk c.add.result (rows_at c.add.new.rows.items ≡ joined_at c.args.operator (rows_at i.rows.items) (pos c.args.place) v))
    (to_z-of_z w64 c.args.value fits) (c.add.ensures.joined c.args.operator))
