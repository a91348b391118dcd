-- The rows of an ask, four numbers each.
use Rattle.std.proofs.Common.{◌≡◌, ℕ, ◌+◌, ◌*◌, ◌/◌, ◌<◌, ◌≤◌, ℤ, List, [], ◌∷◌, ◌++◌, length, drop, refl, ap, sym, ◌∙◌, arith, drop-drop}
use Rattle.std.proofs.Common.{length-drop, append_assoc, append-nil}
use Rattle.std.specs.Option.{option_to_list}
use Rattle.chaos_sched.specs.declared.item.Item.{Item}
use Rattle.chaos_sched.specs.Scheduled.{item_in, asked_items}

one_row : (number : ℕ) (rows : List ℤ) → 4 ≤ length rows → asked_items number rows ≡ option_to_list (item_in number rows)
    ++ asked_items number (drop 4 rows)
one_row number [] h = absurd (omega arith)
one_row number (a ∷ []) h = absurd (omega arith)
one_row number (a ∷ b ∷ []) h = absurd (omega arith)
one_row number (a ∷ b ∷ c ∷ []) h = absurd (omega arith)
one_row number (a ∷ b ∷ c ∷ d ∷ rows) h = refl

no_row : (number : ℕ) (rows : List ℤ) → length rows < 4 → asked_items number rows ≡ []
no_row number [] h = refl
no_row number (a ∷ []) h = refl
no_row number (a ∷ b ∷ []) h = refl
no_row number (a ∷ b ∷ c ∷ []) h = refl
no_row number (a ∷ b ∷ c ∷ d ∷ rows) h = absurd (omega arith)

pub rows_more : (number : ℕ) (rows : List ℤ) (at : ℕ) (items : List Item) → at < length rows / 4
    → items ++ asked_items number (drop (4 * at) rows) ≡ asked_items number rows
    → (items ++ option_to_list (item_in number (drop (4 * at) rows))) ++ asked_items number (drop (4 * (at + 1)) rows)
    ≡ asked_items number rows
rows_more number rows at items h e =
    let long : 4 ≤ length (drop (4 * at) rows) = omega (arith, length-drop (4 * at) rows) in
    let next : 4 * at + 4 ≡ 4 * (at + 1) = omega arith in
    append_assoc items (option_to_list (item_in number (drop (4 * at) rows))) (asked_items number (drop (4 * (at + 1)) rows))
    ∙ ap (λ l. items ++ l) (ap (λ n. option_to_list (item_in number (drop (4 * at) rows)) ++ asked_items number (drop n rows)) (sym next)
    ∙ ap (λ l. option_to_list (item_in number (drop (4 * at) rows)) ++ asked_items number l) (sym (drop-drop 4 (4 * at) rows))
    ∙ sym (one_row number (drop (4 * at) rows) long))
    ∙ e

pub rows_all : (number : ℕ) (rows : List ℤ) (at : ℕ) (items : List Item) → at ≡ length rows / 4
    → items ++ asked_items number (drop (4 * at) rows) ≡ asked_items number rows → items ≡ asked_items number rows
rows_all number rows at items h e =
    let short : length (drop (4 * at) rows) < 4 = omega (arith, length-drop (4 * at) rows) in
    sym (append-nil items) ∙ ap (λ l. items ++ l) (sym (no_row number (drop (4 * at) rows) short)) ∙ e
