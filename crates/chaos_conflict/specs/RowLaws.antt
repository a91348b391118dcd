-- A list of rows that ascends, each once, is determined by what it has.
use Rattle.std.specs.Prelude.{◌≡◌, refl, ℕ, nat_lt, ◌<◌, ◌≤◌, ◌^◌, pos, Bool, true, false, ◌&&◌, if◌then◌else◌, List, [], ◌∷◌, ◌++◌, fold}
use Rattle.std.specs.Prelude.{◌⊎◌}
use Rattle.std.specs.Prelude.{Some, None}
use Rattle.std.specs.List.{AllByRecursion, flat_map}
use Rattle.std.specs.Option.{option_to_list}
use Rattle.std.specs.Int.{w64, cast_signed}
use Rattle.std.specs.Ordering.{nat_cmp, int_cmp, is_lt, ordering_then}
use Rattle.std.specs.Cmp.{IsTotalOrder, nat_cmp_total, int_cmp_total, on_total, then_total}
use Rattle.std.specs.FinMap as fin
use Rattle.std.proofs.Common.{Ordering, ap, sym, ◌∙◌, subst, arith, rules, inl, inr}
use Rattle.std.proofs.lemmas.Bool.Decides.{nat_tests}
use Rattle.std.proofs.lemmas.Int.{to_z_pos}
use Rattle.chaos_conflict.specs.declared.row.Row.{Row}
use Rattle.chaos_conflict.specs.Rows.{is_before, with_row, in_order, claim_row, row_at, rows_of, IsNamed, RowsAreRead}
use Rattle.chaos_conflict.specs.Clashes.{Among}
use Rattle.chaos_conflict.specs.Orders.{by_number, last_integer, less_trans, never_both, same_if_neither}

-- ---- elements

pub among_all : {A : Type 0} (P : A → Type 0) (xs : List A) → ((x : A) → Among x xs → P x) → AllByRecursion P xs
among_all P [] h = tt
among_all P (x ∷ xs) h = (h x (inl refl), among_all P xs (λ y a. h y (inr a)))

pub all_among : {A : Type 0} (P : A → Type 0) (xs : List A) (x : A) → AllByRecursion P xs → Among x xs → P x
all_among P [] x h a = absurd a
all_among P (y ∷ ys) x h (inl e) = subst P (sym e) h.0
all_among P (y ∷ ys) x h (inr a) = all_among P ys x h.1 a

-- ---- the order

abbrev pub row_cmp : Row → Row → Ordering
row_cmp a b =
    ordering_then (nat_cmp a.reference b.reference) (ordering_then (nat_cmp a.element b.element) (int_cmp a.iteration b.iteration))

pub row_cmp_total : IsTotalOrder row_cmp
row_cmp_total =
    then_total (on_total (λ (r : Row). r.reference) nat_cmp_total)
    (then_total (on_total (λ (r : Row). r.element) nat_cmp_total) (on_total (λ (r : Row). r.iteration) int_cmp_total))

pub row_cmp-IsAntisymmetric : fin.IsAntisymmetric row_cmp
row_cmp-IsAntisymmetric = search rules

pub before_is : (a b : Row) → is_before a b ≡ is_lt (row_cmp a b)
before_is a b =
    by_number a.reference b.reference _ _ (by_number a.element b.element _ _ (last_integer a.iteration b.iteration))

pub before_on : (a b c : Row) → is_before a b ≡ true → is_before b c ≡ true → is_before a c ≡ true
before_on = less_trans row_cmp row_cmp_total is_before before_is

pub never_back : (a b : Row) → is_before a b ≡ true → is_before b a ≡ true → ⊥
never_back = never_both row_cmp row_cmp_total is_before before_is

same_row : (a b : Row) → is_before a b ≡ false → is_before b a ≡ false → a ≡ b
same_row = same_if_neither row_cmp row_cmp_total is_before before_is row_cmp-IsAntisymmetric

-- ascending, each once
abbrev pub IsAscending : List Row → Type 0
IsAscending [] = Unit {0}
IsAscending (x ∷ rows) = AllByRecursion (λ y. is_before x y ≡ true) rows × IsAscending rows

abbrev pub HaveSameRows : List Row → List Row → Type 0
HaveSameRows xs ys = ((x : Row) → Among x xs → Among x ys) × ((x : Row) → Among x ys → Among x xs)

-- rows in order: they ascend, they are the same, and no other list that ascends has the same
pub record IsInOrder (rows : List Row) : Type 0 where
  pub ascends : IsAscending (in_order rows)
  pub same : HaveSameRows (in_order rows) rows
  pub only : (others : List Row) → IsAscending others → HaveSameRows others rows → others ≡ in_order rows

abbrev pub RowsAreInOrder : Type 0
RowsAreInOrder = (rows : List Row) → IsInOrder rows

-- ---- one more

among_with : (xs : List Row) (x y : Row) → Among y (with_row xs x) → (y ≡ x) ⊎ Among y xs
among_with [] x y (inl e) = inl e
among_with [] x y (inr a) = absurd a
among_with (z ∷ zs) x y a = by (is_before x z) (is_before z x) a (among_with zs x y)
  where
    by : (b c : Bool) → Among y (if b then x ∷ z ∷ zs else z ∷ (if c then with_row zs x else zs))
        → (Among y (with_row zs x) → (y ≡ x) ⊎ Among y zs) → (y ≡ x) ⊎ Among y (z ∷ zs)
    by true c (inl e) rest = inl e
    by true c (inr k) rest = inr k
    by false c (inl e) rest = inr (inl e)
    by false true (inr k) rest = elim (rest k) [ inl e ↦ inl e | inr m ↦ inr (inr m) ]
    by false false (inr k) rest = inr (inr k)

with_among : (xs : List Row) (x y : Row) → (y ≡ x) ⊎ Among y xs → Among y (with_row xs x)
with_among [] x y (inl e) = inl e
with_among [] x y (inr a) = absurd a
with_among (z ∷ zs) x y a = by (is_before x z) (is_before z x) refl refl a (with_among zs x y)
  where
    by : (b c : Bool) → is_before x z ≡ b → is_before z x ≡ c → (y ≡ x) ⊎ Among y (z ∷ zs)
        → ((y ≡ x) ⊎ Among y zs → Among y (with_row zs x))
        → Among y (if b then x ∷ z ∷ zs else z ∷ (if c then with_row zs x else zs))
    by true c e f (inl k) rest = inl k
    by true c e f (inr k) rest = inr k
    by false true e f (inl k) rest = inr (rest (inl k))
    by false true e f (inr (inl k)) rest = inl k
    by false true e f (inr (inr k)) rest = inr (rest (inr k))
    by false false e f (inl k) rest = inl (k ∙ same_row x z e f)
    by false false e f (inr (inl k)) rest = inl k
    by false false e f (inr (inr k)) rest = inr k

with_ascends : (xs : List Row) (x : Row) → IsAscending xs → IsAscending (with_row xs x)
with_ascends [] x h = (tt, tt)
with_ascends (z ∷ zs) x h = by (is_before x z) (is_before z x) refl refl (with_ascends zs x h.1)
  where
    by : (b c : Bool) → is_before x z ≡ b → is_before z x ≡ c → IsAscending (with_row zs x)
        → IsAscending (if b then x ∷ z ∷ zs else z ∷ (if c then with_row zs x else zs))
    by true c e f rest =
        ((e, among_all (λ y. is_before x y ≡ true) zs (λ y a. before_on x z y e (all_among (λ w. is_before z w ≡ true) zs y h.0 a))), h)
    by false true e f rest = (
      among_all (λ y. is_before z y ≡ true) (with_row zs x) (λ y a. elim (among_with zs x y a) [
        | inl same ↦ subst (λ w. is_before z w ≡ true) (sym same) f
        | inr there ↦ all_among (λ w. is_before z w ≡ true) zs y h.0 there
      ]),
      rest,
    )
    by false false e f rest = h

-- ---- the whole list

fold_among : (rows acc : List Row) (y : Row) → Among y (fold with_row acc rows) → Among y acc ⊎ Among y rows
fold_among [] acc y a = inl a
fold_among (x ∷ xs) acc y a = elim (fold_among xs (with_row acc x) y a) [
  | inl b ↦ elim (among_with acc x y b) [ inl same ↦ inr (inl same) | inr there ↦ inl there ]
  | inr b ↦ inr (inr b)
]

among_fold : (rows acc : List Row) (y : Row) → Among y acc ⊎ Among y rows → Among y (fold with_row acc rows)
among_fold [] acc y (inl a) = a
among_fold [] acc y (inr a) = absurd a
among_fold (x ∷ xs) acc y (inl a) = among_fold xs (with_row acc x) y (inl (with_among acc x y (inr a)))
among_fold (x ∷ xs) acc y (inr (inl e)) = among_fold xs (with_row acc x) y (inl (with_among acc x y (inl e)))
among_fold (x ∷ xs) acc y (inr (inr a)) = among_fold xs (with_row acc x) y (inr a)

fold_ascends : (rows acc : List Row) → IsAscending acc → IsAscending (fold with_row acc rows)
fold_ascends [] acc h = h
fold_ascends (x ∷ xs) acc h = fold_ascends xs (with_row acc x) (with_ascends acc x h)

-- two that ascend and have the same rows are equal
pub same_ascending : (xs ys : List Row) → IsAscending xs → IsAscending ys → HaveSameRows xs ys → xs ≡ ys
same_ascending [] [] h g same = refl
same_ascending [] (y ∷ ys) h g same = absurd (same.1 y (inl refl))
same_ascending (x ∷ xs) [] h g same = absurd (same.0 x (inl refl))
same_ascending (x ∷ xs) (y ∷ ys) h g same =
    ap (λ z. z ∷ xs) first ∙ ap (λ zs. y ∷ zs) (same_ascending xs ys h.1 g.1 (there, back))
  where
    first : x ≡ y
    first = elim (same.0 x (inl refl)) [
      | inl e ↦ e
      | inr later ↦ elim (same.1 y (inl refl)) [
        | inl e ↦ sym e
        | inr also ↦ absurd (never_back x y (all_among (λ w. is_before x w ≡ true) xs y h.0 also)
            (all_among (λ w. is_before y w ≡ true) ys x g.0 later))
      ]
    ]

    there : (z : Row) → Among z xs → Among z ys
    there z a = elim (same.0 z (inr a)) [
      | inl e ↦
          let itself : is_before x x ≡ true = subst (λ w. is_before x w ≡ true) (e ∙ sym first)
          (all_among (λ w. is_before x w ≡ true) xs z h.0 a) in
          absurd (never_back x x itself itself)
      | inr b ↦ b
    ]

    back : (z : Row) → Among z ys → Among z xs
    back z a = elim (same.1 z (inr a)) [
      | inl e ↦
          let itself : is_before y y ≡ true = subst (λ w. is_before y w ≡ true) (e ∙ first)
          (all_among (λ w. is_before y w ≡ true) ys z g.0 a) in
          absurd (never_back y y itself itself)
      | inr b ↦ b
    ]

pub rows_are_in_order : RowsAreInOrder
rows_are_in_order rows =
    let sorted = fold_ascends rows [] tt in
    let out : (x : Row) → Among x (in_order rows) → Among x rows = λ x a. elim (fold_among rows [] x a) [
      | inl b ↦ absurd b
      | inr b ↦
          b
    ] in
    let into : (x : Row) → Among x rows → Among x (in_order rows) = λ x a. among_fold rows [] x (inr a) in
    record {
      ascends = sorted;
      same = (out, into);
      only = λ others up have. same_ascending others (in_order rows) up sorted (λ x a. into x (have.0 x a), λ x a. have.1 x (out x a));
    }

-- ---- read back

in_range : (r e : ℕ) → 1 ≤ r → r < 2 ^ 32 → 1 ≤ e → (nat_lt 0 r && (nat_lt r (2 ^ 32) && nat_lt 0 e)) ≡ true
in_range r e a b c = grind (arith, nat_tests)

row_back : (r : Row) → IsNamed r → row_at (pos r.reference) (cast_signed w64 r.element) r.iteration ≡ Some r
row_back r named =
    ap (λ z. row_at (pos r.reference) z r.iteration) (to_z_pos w64 r.element named.3)
    ∙ ap (λ b. if b then Some r else None) (in_range r.reference r.element named.0 named.1 named.2)

pub rows_are_read : RowsAreRead
rows_are_read [] named = refl
rows_are_read (r ∷ rows) named =
    ap (λ o. option_to_list o ++ rows_of (flat_map claim_row rows)) (row_back r named.0)
    ∙ ap (λ l. r ∷ l) (rows_are_read rows named.1)
