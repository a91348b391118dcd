-- A list of elements that ascends, each once, is determined by what it has.
use Rattle.std.specs.Prelude.{◌≡◌, refl, ℕ, Bool, true, false, ◌==◌, ◌&&◌, ◌||◌, nat_lt, if◌then◌else◌, List, [], ◌∷◌, fold, ◌⊎◌}
use Rattle.std.proofs.Common.{ap, sym, ◌∙◌, subst, arith, inl, inr}
use Rattle.std.proofs.lemmas.Bool.Decides.{nat_tests}
use Rattle.fd_program.specs.Cells.{Cell, is_before, with_cell, ascending}
use Rattle.fd_program.specs.ListLaws.{PairsByRecursion, Among, among_all, all_among}

-- ascending, each once
abbrev pub IsAscending : List Cell → Type 0
IsAscending cells = PairsByRecursion (λ x y. is_before x y ≡ true) cells

abbrev pub HaveSameCells : List Cell → List Cell → Type 0
HaveSameCells xs ys = ((x : Cell) → Among x xs → Among x ys) × ((x : Cell) → Among x ys → Among x xs)

-- the elements of a list in order: they ascend, they are the same, and no other list that ascends has the same
pub record IsInOrder (cells : List Cell) : Type 0 where
  pub ascends : IsAscending (ascending cells)
  pub same : HaveSameCells (ascending cells) cells
  pub only : (others : List Cell) → IsAscending others → HaveSameCells others cells → others ≡ ascending cells

abbrev pub CellsAreInOrder : Type 0
CellsAreInOrder = (cells : List Cell) → IsInOrder cells

-- ---- the order

same_cell : (x y : Cell) → x.array ≡ y.array → x.element ≡ y.element → x ≡ y
same_cell x y e f =
    ap (λ a. let c : Cell = record { array = a; element = x.element } in c) e
    ∙ ap (λ b. let c : Cell = record { array = y.array; element = b } in c) f

same_if_neither : (x y : Cell) → is_before x y ≡ false → is_before y x ≡ false → x ≡ y
same_if_neither x y e f = same_cell x y (arrays x.array y.array x.element y.element e f) (elements x.array y.array x.element y.element e f)
  where
    arrays : (a b c d : ℕ) → (nat_lt a b || (a == b && nat_lt c d)) ≡ false → (nat_lt b a || (b == a && nat_lt d c)) ≡ false → a ≡ b
    arrays a b c d e f = grind (arith, nat_tests)

    elements : (a b c d : ℕ) → (nat_lt a b || (a == b && nat_lt c d)) ≡ false → (nat_lt b a || (b == a && nat_lt d c)) ≡ false → c ≡ d
    elements a b c d e f = grind (arith, nat_tests)

before_on : (a b c d e f : ℕ) → (nat_lt a c || (a == c && nat_lt b d)) ≡ true → (nat_lt c e || (c == e && nat_lt d f)) ≡ true
    → (nat_lt a e || (a == e && nat_lt b f)) ≡ true
before_on a b c d e f h g = grind (arith, nat_tests)

never_both : (a b c d : ℕ) → (nat_lt a c || (a == c && nat_lt b d)) ≡ true → (nat_lt c a || (c == a && nat_lt d b)) ≡ true → ⊥
never_both a b c d h g = grind (arith, nat_tests)

-- ---- one more

among_with : (xs : List Cell) (x y : Cell) → Among y (with_cell xs x) → (y ≡ x) ⊎ Among y xs
among_with [] x y (inl e) = inl e
among_with [] x y (inr a) = absurd a
among_with (z ∷ zs) x y a = by (is_before x z) (is_before z x) a (among_with zs x y)
  where
    by : (b c : Bool) → Among y (if b then x ∷ z ∷ zs else z ∷ (if c then with_cell zs x else zs))
        → (Among y (with_cell zs x) → (y ≡ x) ⊎ Among y zs) → (y ≡ x) ⊎ Among y (z ∷ zs)
    by true c (inl e) rest = inl e
    by true c (inr k) rest = inr k
    by false c (inl e) rest = inr (inl e)
    by false true (inr k) rest = elim (rest k) [ inl e ↦ inl e | inr m ↦ inr (inr m) ]
    by false false (inr k) rest = inr (inr k)

with_among : (xs : List Cell) (x y : Cell) → (y ≡ x) ⊎ Among y xs → Among y (with_cell xs x)
with_among [] x y (inl e) = inl e
with_among [] x y (inr a) = absurd a
with_among (z ∷ zs) x y a = by (is_before x z) (is_before z x) refl refl a (with_among zs x y)
  where
    by : (b c : Bool) → is_before x z ≡ b → is_before z x ≡ c → (y ≡ x) ⊎ Among y (z ∷ zs)
        → ((y ≡ x) ⊎ Among y zs → Among y (with_cell zs x))
        → Among y (if b then x ∷ z ∷ zs else z ∷ (if c then with_cell zs x else zs))
    by true c e f (inl k) rest = inl k
    by true c e f (inr k) rest = inr k
    by false true e f (inl k) rest = inr (rest (inl k))
    by false true e f (inr (inl k)) rest = inl k
    by false true e f (inr (inr k)) rest = inr (rest (inr k))
    by false false e f (inl k) rest = inl (k ∙ same_if_neither x z e f)
    by false false e f (inr (inl k)) rest = inl k
    by false false e f (inr (inr k)) rest = inr k

with_ascends : (xs : List Cell) (x : Cell) → IsAscending xs → IsAscending (with_cell xs x)
with_ascends [] x h = (tt, tt)
with_ascends (z ∷ zs) x h = by (is_before x z) (is_before z x) refl refl (with_ascends zs x h.1)
  where
    by : (b c : Bool) → is_before x z ≡ b → is_before z x ≡ c → IsAscending (with_cell zs x)
        → IsAscending (if b then x ∷ z ∷ zs else z ∷ (if c then with_cell zs x else zs))
    by true c e f rest = (
      (
        e,
        among_all (λ y. is_before x y ≡ true) zs (λ y a.
            before_on x.array x.element z.array z.element y.array y.element e (all_among (λ w. is_before z w ≡ true) zs y h.0 a)),
      ),
      h,
    )
    by false true e f rest = (
      among_all (λ y. is_before z y ≡ true) (with_cell zs x) (λ y a. elim (among_with zs x y a) [
        | inl same ↦ subst (λ w. is_before z w ≡ true) (sym same) f
        | inr there ↦ all_among (λ w. is_before z w ≡ true) zs y h.0 there
      ]),
      rest,
    )
    by false false e f rest = h

-- ---- the whole list

fold_among : (cells acc : List Cell) (y : Cell) → Among y (fold with_cell acc cells) → Among y acc ⊎ Among y cells
fold_among [] acc y a = inl a
fold_among (x ∷ xs) acc y a = elim (fold_among xs (with_cell acc x) y a) [
  | inl b ↦ elim (among_with acc x y b) [ inl same ↦ inr (inl same) | inr there ↦ inl there ]
  | inr b ↦ inr (inr b)
]

among_fold : (cells acc : List Cell) (y : Cell) → Among y acc ⊎ Among y cells → Among y (fold with_cell acc cells)
among_fold [] acc y (inl a) = a
among_fold [] acc y (inr a) = absurd a
among_fold (x ∷ xs) acc y (inl a) = among_fold xs (with_cell acc x) y (inl (with_among acc x y (inr a)))
among_fold (x ∷ xs) acc y (inr (inl e)) = among_fold xs (with_cell acc x) y (inl (with_among acc x y (inl e)))
among_fold (x ∷ xs) acc y (inr (inr a)) = among_fold xs (with_cell acc x) y (inr a)

fold_ascends : (cells acc : List Cell) → IsAscending acc → IsAscending (fold with_cell acc cells)
fold_ascends [] acc h = h
fold_ascends (x ∷ xs) acc h = fold_ascends xs (with_cell acc x) (with_ascends acc x h)

-- two that ascend and have the same elements are equal
pub same_ascending : (xs ys : List Cell) → IsAscending xs → IsAscending ys → HaveSameCells xs ys → xs ≡ ys
same_ascending [] [] h g same = refl
same_ascending [] (y ∷ ys) h g same = absurd (same.1 y (inl refl))
same_ascending (x ∷ xs) [] h g same = absurd (same.0 x (inl refl))
same_ascending (x ∷ xs) (y ∷ ys) h g same =
    ap (λ z. z ∷ xs) first ∙ ap (λ zs. y ∷ zs) (same_ascending xs ys h.1 g.1 (there, back))
  where
    first : x ≡ y
    first = elim (same.0 x (inl refl)) [
      | inl e ↦ e
      | inr later ↦ elim (same.1 y (inl refl)) [
        | inl e ↦ sym e
        | inr also ↦ absurd (never_both x.array x.element y.array y.element (all_among (λ w. is_before x w ≡ true) xs y h.0 also)
            (all_among (λ w. is_before y w ≡ true) ys x g.0 later))
      ]
    ]

    there : (z : Cell) → Among z xs → Among z ys
    there z a = elim (same.0 z (inr a)) [
      | inl e ↦
          let itself : is_before x x ≡ true = subst (λ w. is_before x w ≡ true) (e ∙ sym first)
          (all_among (λ w. is_before x w ≡ true) xs z h.0 a) in
          absurd (never_both x.array x.element x.array x.element itself itself)
      | inr b ↦ b
    ]

    back : (z : Cell) → Among z ys → Among z xs
    back z a = elim (same.1 z (inr a)) [
      | inl e ↦
          let itself : is_before y y ≡ true = subst (λ w. is_before y w ≡ true) (e ∙ first)
          (all_among (λ w. is_before y w ≡ true) ys z g.0 a) in
          absurd (never_both y.array y.element y.array y.element itself itself)
      | inr b ↦ b
    ]

pub cells_are_in_order : CellsAreInOrder
cells_are_in_order cells =
    let sorted = fold_ascends cells [] tt in
    let out : (x : Cell) → Among x (ascending cells) → Among x cells = λ x a. elim (fold_among cells [] x a) [
      | inl b ↦ absurd b
      | inr b ↦
          b
    ] in
    let into : (x : Cell) → Among x cells → Among x (ascending cells) = λ x a. among_fold cells [] x (inr a) in
    record {
      ascends = sorted;
      same = (out, into);
      only = λ others up have. same_ascending others (ascending cells) up sorted (λ x a. into x (have.0 x a), λ x a. have.1 x (out x a));
    }
