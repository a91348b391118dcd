-- A pass over rows side by side, and over the rows of a letter.
use Rattle.std.proofs.Common.{◌≡◌, ℕ, zero, suc, ◌+◌, ◌-◌, ◌*◌, ◌/◌, ◌<◌, ◌≤◌, ℤ, List, [], ◌∷◌, ◌++◌, length, drop, get_or, Option, None}
use Rattle.std.proofs.Common.{map}
use Rattle.std.proofs.Common.{refl, ap, sym, ◌∙◌, arith, drop-drop, length-drop, append_assoc, append-nil}
use Rattle.std.specs.Option.{option_to_list}
use Rattle.std.specs.List.{range_with_len}
use Rattle.std.proofs.lemmas.List.FromFn.{map-range_with_len_more}
use Rattle.chaos_conflict.specs.declared.conflict.Conflict.{Conflict}
use Rattle.chaos_conflict.specs.declared.row.Row.{Row}
use Rattle.chaos_conflict.specs.Rows.{row_in, rows_of}
use Rattle.chaos_conflict.specs.Clashes.{lesser, clash, side_by_side}
use Rattle.chaos_conflict.specs.LeastLaws.{lesser_none, lesser_assoc}

-- ---- side by side

two_more : (rows : List Row) (at : ℕ) (d : Row) → suc at < length rows
    → side_by_side (drop at rows) ≡ lesser (clash (get_or rows at d) (get_or rows (suc at) d)) (side_by_side (drop (suc at) rows))
two_more [] at d h = absurd (omega (arith, h))
two_more (x ∷ []) at d h = absurd (omega (arith, h))
two_more (x ∷ y ∷ rows) zero d h = refl
two_more (x ∷ y ∷ rows) (suc at) d h = two_more (y ∷ rows) at d (omega (arith, h))

one_left : (rows : List Row) (at : ℕ) → length rows ≤ at + 1 → side_by_side (drop at rows) ≡ None
one_left [] zero h = refl
one_left [] (suc at) h = refl
one_left (x ∷ []) zero h = refl
one_left (x ∷ y ∷ rows) zero h = absurd (omega (arith, h))
one_left (x ∷ rows) (suc at) h = one_left rows at (omega (arith, h))

pub beside_more : (rows : List Row) (at : ℕ) (d : Row) (least new total : Option Conflict) → 1 ≤ at → at < length rows
    → new ≡ lesser least (clash (get_or rows (at - 1) d) (get_or rows at d))
    → lesser least (side_by_side (drop (at - 1) rows)) ≡ total → lesser new (side_by_side (drop (at + 1 - 1) rows)) ≡ total
beside_more rows zero d least new total some within is before = absurd (omega (arith, some))
beside_more rows (suc at) d least new total some within is before =
    let here : suc at - 1 ≡ at = omega arith in
    let there : suc at + 1 - 1 ≡ suc at = omega arith in
    ap (λ k. lesser new (side_by_side (drop k rows))) there
    ∙ ap (λ v. lesser v (side_by_side (drop (suc at) rows)))
    (is ∙ ap (λ k. lesser least (clash (get_or rows k d) (get_or rows (suc at) d))) here)
    ∙ lesser_assoc least (clash (get_or rows at d) (get_or rows (suc at) d)) (side_by_side (drop (suc at) rows))
    ∙ ap (lesser least) (sym (two_more rows at d within))
    ∙ ap (λ k. lesser least (side_by_side (drop k rows))) (sym here)
    ∙ before

pub beside_all : (rows : List Row) (at : ℕ) (least total : Option Conflict) → 1 ≤ at → length rows ≤ at
    → lesser least (side_by_side (drop (at - 1) rows)) ≡ total → least ≡ total
beside_all rows at least total some end before =
    sym (lesser_none least) ∙ ap (lesser least) (sym (one_left rows (at - 1) (omega (arith, some, end)))) ∙ before

-- ---- the rows of a letter, three numbers each

one_row : (numbers : List ℤ) → 3 ≤ length numbers → rows_of numbers ≡ option_to_list (row_in numbers) ++ rows_of (drop 3 numbers)
one_row [] h = absurd (omega arith)
one_row (a ∷ []) h = absurd (omega arith)
one_row (a ∷ b ∷ []) h = absurd (omega arith)
one_row (a ∷ b ∷ c ∷ numbers) h = refl

no_row : (numbers : List ℤ) → length numbers < 3 → rows_of numbers ≡ []
no_row [] h = refl
no_row (a ∷ []) h = refl
no_row (a ∷ b ∷ []) h = refl
no_row (a ∷ b ∷ c ∷ numbers) h = absurd (omega arith)

pub rows_more : (numbers : List ℤ) (at : ℕ) (rows total : List Row) → at < length numbers / 3
    → rows ++ rows_of (drop (3 * at) numbers) ≡ total
    → (rows ++ option_to_list (row_in (drop (3 * at) numbers))) ++ rows_of (drop (3 * (at + 1)) numbers) ≡ total
rows_more numbers at rows total h e =
    let long : 3 ≤ length (drop (3 * at) numbers) = omega (arith, length-drop (3 * at) numbers) in
    let next : 3 * at + 3 ≡ 3 * (at + 1) = omega arith in
    append_assoc rows (option_to_list (row_in (drop (3 * at) numbers))) (rows_of (drop (3 * (at + 1)) numbers))
    ∙ ap (λ l. rows ++ l) (ap (λ n. option_to_list (row_in (drop (3 * at) numbers)) ++ rows_of (drop n numbers)) (sym next)
    ∙ ap (λ l. option_to_list (row_in (drop (3 * at) numbers)) ++ rows_of l) (sym (drop-drop 3 (3 * at) numbers))
    ∙ sym (one_row (drop (3 * at) numbers) long))
    ∙ e

pub rows_all : (numbers : List ℤ) (at : ℕ) (rows total : List Row) → length numbers / 3 ≤ at
    → rows ++ rows_of (drop (3 * at) numbers) ≡ total → rows ≡ total
rows_all numbers at rows total h e =
    let short : length (drop (3 * at) numbers) < 3 = omega (arith, length-drop (3 * at) numbers) in
    sym (append-nil rows) ∙ ap (λ l. rows ++ l) (sym (no_row (drop (3 * at) numbers) short)) ∙ e

-- ---- a list made one by one

pub one_more : {B : Type 0} (f : ℕ → B) (n : ℕ) (before after : List B) (x : B) → before ≡ map f (range_with_len 0 n)
    → after ≡ before ++ x ∷ [] → x ≡ f n → after ≡ map f (range_with_len 0 (n + 1))
one_more f n before after x so_far push is =
    push ∙ ap (λ l. l ++ x ∷ []) so_far ∙ ap (λ y. map f (range_with_len 0 n) ++ y ∷ []) is
    ∙ sym (map-range_with_len_more f 0 n n (omega arith))
