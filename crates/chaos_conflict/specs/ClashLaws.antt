-- The least clash of rows that ascend is that of two side by side; and the least is one.
use Rattle.std.specs.Prelude.{◌≡◌, refl, ℕ, nat_lt, ℤ, int_lt, ◌<ℤ◌, Bool, true, false, ◌&&◌, ◌||◌, ◌==◌, ◌⊎◌, if◌then◌else◌, List, [], ◌∷◌}
use Rattle.std.specs.Prelude.{Option, Some, None}
use Rattle.std.specs.List.{AllByRecursion}
use Rattle.std.specs.Ordering.{MatchOrdering, nat_cmp, int_cmp, int_eq, is_lt, is_gt, ordering_then}
use Rattle.std.specs.Cmp.{IsTotalOrder, nat_cmp_total, int_cmp_total, on_total, then_total, int_ranks}
use Rattle.std.specs.FinMap as fin
use Rattle.std.proofs.Common.{Ordering, Less, Equal, Greater, ap, sym, ◌∙◌, subst, arith, inl, inr, true≢false}
use Rattle.std.proofs.lemmas.Int.{ints}
use Rattle.std.proofs.lemmas.Bool.Decides.{nat_tests}
use Rattle.chaos_conflict.specs.declared.conflict.Conflict.{Conflict}
use Rattle.chaos_conflict.specs.declared.row.Row.{Row}
use Rattle.chaos_conflict.specs.Rows.{is_before, in_order}
use Rattle.chaos_conflict.specs.Clashes.{is_less, lesser, Among, row_with, IsClash, IsLeastClash, clash, side_by_side}
use Rattle.chaos_conflict.specs.Orders
use Rattle.chaos_conflict.specs.RowLaws.{all_among, IsAscending, HaveSameRows, rows_are_in_order}

-- ---- conflicts are in order

abbrev pub conflict_cmp : Conflict → Conflict → Ordering
conflict_cmp a b =
    ordering_then (int_cmp a.first b.first)
    (ordering_then (int_cmp a.second b.second) (ordering_then (nat_cmp a.reference b.reference) (nat_cmp a.element b.element)))

conflict_cmp_total : IsTotalOrder conflict_cmp
conflict_cmp_total =
    then_total (on_total (λ (c : Conflict). c.first) int_cmp_total)
    (then_total (on_total (λ (c : Conflict). c.second) int_cmp_total)
    (then_total (on_total (λ (c : Conflict). c.reference) nat_cmp_total) (on_total (λ (c : Conflict). c.element) nat_cmp_total)))

both_equal : (r s : Ordering) → ordering_then r s ≡ Equal → (r ≡ Equal) × (s ≡ Equal)
both_equal Less s e = absurd (true≢false (ap is_lt e))
both_equal Equal s e = (refl, e)
both_equal Greater s e = absurd (true≢false (ap is_gt e))

conflict_cmp-IsAntisymmetric : fin.IsAntisymmetric conflict_cmp
conflict_cmp-IsAntisymmetric a b e =
    let f = both_equal (int_cmp a.first b.first) _ e in
    let g = both_equal (int_cmp a.second b.second) _ f.1 in
    let h = both_equal (nat_cmp a.reference b.reference) (nat_cmp a.element b.element) g.1 in
    λ i. record {
      first = fin.int_cmp-IsAntisymmetric a.first b.first f.0 i;
      second = fin.int_cmp-IsAntisymmetric a.second b.second g.0 i;
      reference = fin.nat_cmp-IsAntisymmetric a.reference b.reference h.0 i;
      element = fin.nat_cmp-IsAntisymmetric a.element b.element h.1 i;
    }

less_is : (a b : Conflict) → is_less a b ≡ is_lt (conflict_cmp a b)
less_is a b =
    Orders.by_integer a.first b.first _ _ (Orders.by_integer a.second b.second _ _
    (Orders.by_number a.reference b.reference _ _ (Orders.last_number a.element b.element)))

pub less_trans : (a b c : Conflict) → is_less a b ≡ true → is_less b c ≡ true → is_less a c ≡ true
less_trans = Orders.less_trans conflict_cmp conflict_cmp_total is_less less_is

pub not_less_trans : (a b c : Conflict) → is_less a b ≡ false → is_less b c ≡ false → is_less a c ≡ false
not_less_trans = Orders.not_less_trans conflict_cmp conflict_cmp_total is_less less_is

pub not_less_itself : (a : Conflict) → is_less a a ≡ false
not_less_itself = Orders.not_less_itself conflict_cmp conflict_cmp_total is_less less_is

pub not_less_back : (a b : Conflict) → is_less a b ≡ true → is_less b a ≡ false
not_less_back = Orders.not_less_back conflict_cmp conflict_cmp_total is_less less_is

pub same_conflict : (a b : Conflict) → is_less a b ≡ false → is_less b a ≡ false → a ≡ b
same_conflict = Orders.same_if_neither conflict_cmp conflict_cmp_total is_less less_is conflict_cmp-IsAntisymmetric

-- ---- the laws

abbrev pub AdjacentIsLeast : Type 0
AdjacentIsLeast = (rows : List Row) → IsLeastClash rows (side_by_side (in_order rows))

abbrev pub OneIsLeast : Type 0
OneIsLeast = (rows : List Row) (o w : Option Conflict) → IsLeastClash rows o → IsLeastClash rows w → o ≡ w

-- ---- a clash of a row in front

irreflexive : (x : ℤ) → x <ℤ x → ⊥
irreflexive x h = omega (arith, ints, h)

-- the row in front has the first iteration
record InFront (x : Row) (rows : List Row) (c : Conflict) : Type 0 where
  reference : c.reference ≡ x.reference
  element : c.element ≡ x.element
  first : c.first ≡ x.iteration
  rises : c.first <ℤ c.second
  second : Among (row_with c.reference c.element c.second) rows

later_iteration : (r s e f : ℕ) (i j : ℤ) → r ≡ s → e ≡ f
    → (nat_lt r s || (r == s && (nat_lt e f || (e == f && int_lt i j)))) ≡ true → i <ℤ j
later_iteration r s e f i j same alike h = grind (arith, ints, nat_tests)

crossed : (a b x y : ℤ) → a ≡ y → b ≡ x → a <ℤ b → x <ℤ y → ⊥
crossed a b x y e f h k = grind (arith, ints)

-- a clash is one of the rows behind, or begins in front
split : (x : Row) (rows : List Row) (c : Conflict) → AllByRecursion (λ y. is_before x y ≡ true) rows → IsClash (x ∷ rows) c
    → IsClash rows c ⊎ InFront x rows c
split x rows c up (rises, inl e, inl f) =
    absurd (irreflexive c.first (subst (λ z. c.first <ℤ z) (ap (λ (r : Row). r.iteration) (f ∙ sym e)) rises))
split x rows c up (rises, inl e, inr b) = inr (record {
  reference = ap (λ (r : Row). r.reference) e;
  element = ap (λ (r : Row). r.element) e;
  first = ap (λ (r : Row). r.iteration) e;
  rises = rises;
  second = b;
})
split x rows c up (rises, inr a, inl f) =
    let below = later_iteration x.reference c.reference x.element c.element x.iteration c.first
    (sym (ap (λ (r : Row). r.reference) f)) (sym (ap (λ (r : Row). r.element) f))
    (all_among (λ y. is_before x y ≡ true) rows (row_with c.reference c.element c.first) up a) in
    absurd (crossed c.first c.second x.iteration c.first refl (ap (λ (r : Row). r.iteration) f) rises below)
split x rows c up (rises, inr a, inr b) = inl (rises, a, b)

clash_when : (x y : Row) → x.reference ≡ y.reference → x.element ≡ y.element → x.iteration <ℤ y.iteration
    → clash x y ≡ Some (record { first = x.iteration; second = y.iteration; reference = x.reference; element = x.element })
clash_when x y e f h =
    ap (λ b. if b then Some (let k : Conflict = record {
      first = x.iteration;
      second = y.iteration;
      reference = x.reference;
      element = x.element;
    } in k) else None) (passes x.reference y.reference x.element y.element x.iteration y.iteration e f h)
  where
    passes : (r s e f : ℕ) (i j : ℤ) → r ≡ s → e ≡ f → i <ℤ j → (r == s && (e == f && int_lt i j)) ≡ true
    passes r s e f i j same alike h = grind (arith, ints, nat_tests)

-- between two rows of one element stand rows of this element alone, by iterations between
record IsBetween (x y : Row) (k : ℤ) : Type 0 where
  reference : x.reference ≡ y.reference
  element : x.element ≡ y.element
  low : x.iteration <ℤ y.iteration
  high : y.iteration <ℤ k

between : (x y z : Row) → is_before x y ≡ true → is_before y z ≡ true → z.reference ≡ x.reference → z.element ≡ x.element
    → IsBetween x y z.iteration
between x y z xy yz r e =
    let a = references x.reference y.reference z.reference x.element y.element z.element x.iteration y.iteration z.iteration xy yz r in
    let b = elements x.reference y.reference z.reference x.element y.element z.element x.iteration y.iteration z.iteration xy yz r e in
    record {
      reference = a;
      element = b;
      low = later_iteration x.reference y.reference x.element y.element x.iteration y.iteration a b xy;
      high = later_iteration y.reference z.reference y.element z.element y.iteration z.iteration (sym (r ∙ a)) (sym (e ∙ b)) yz;
    }
  where
    references : (r s t e f g : ℕ) (i j k : ℤ) → (nat_lt r s || (r == s && (nat_lt e f || (e == f && int_lt i j)))) ≡ true
        → (nat_lt s t || (s == t && (nat_lt f g || (f == g && int_lt j k)))) ≡ true → t ≡ r → r ≡ s
    references r s t e f g i j k h l same = grind (arith, nat_tests)

    elements : (r s t e f g : ℕ) (i j k : ℤ) → (nat_lt r s || (r == s && (nat_lt e f || (e == f && int_lt i j)))) ≡ true
        → (nat_lt s t || (s == t && (nat_lt f g || (f == g && int_lt j k)))) ≡ true → t ≡ r → g ≡ e → e ≡ f
    elements r s t e f g i j k h l same alike = grind (arith, nat_tests)

-- the clash with the row behind, and it is no greater than c
abbrev HasNearer : Row → Row → Conflict → Type 0
HasNearer x y c = (k : Conflict) × (clash x y ≡ Some k) × (is_less c k ≡ false)

nearer_first : (a b c d : ℤ) (p : Bool) → a ≡ b → d <ℤ c → (int_lt a b || (int_eq a b && (int_lt c d || (int_eq c d && p)))) ≡ false
nearer_first a b c d p e h = grind (arith, ints, nat_tests)

nearer : (x y : Row) (rows : List Row) (c : Conflict) → is_before x y ≡ true → AllByRecursion (λ z. is_before y z ≡ true) rows
    → InFront x (y ∷ rows) c → HasNearer x y c
nearer x y rows c xy up front = by front.second
  where
    by : Among (row_with c.reference c.element c.second) (y ∷ rows) → HasNearer x y c
    by (inl e) =
        let second : c.second ≡ y.iteration = ap (λ (r : Row). r.iteration) e in
        let k : Conflict = record { first = x.iteration; second = y.iteration; reference = x.reference; element = x.element } in
        let rises : x.iteration <ℤ y.iteration =
        subst (λ z. x.iteration <ℤ z) second (subst (λ z. z <ℤ c.second) front.first front.rises) in
        let same : c ≡ k = λ i. record {
          first = front.first i;
          second = second i;
          reference = front.reference i;
          element = front.element i;
        } in (
          k,
          clash_when x y (sym front.reference ∙ ap (λ (r : Row). r.reference) e) (sym front.element ∙ ap (λ (r : Row). r.element) e) rises,
          subst (λ d. is_less d k ≡ false) (sym same) (not_less_itself k),
        )
    by (inr a) =
        let z : Row = row_with c.reference c.element c.second in
        let b = between x y z xy (all_among (λ z. is_before y z ≡ true) rows z up a) front.reference front.element in (
          record { first = x.iteration; second = y.iteration; reference = x.reference; element = x.element },
          clash_when x y b.reference b.element b.low,
          nearer_first c.first x.iteration c.second y.iteration _ front.first b.high,
        )

-- ---- the least of rows, one row more in front

-- none, where there is no clash
abbrev IsLeastOf : List Row → Option Conflict → Type 0
IsLeastOf rows None = (c : Conflict) → IsClash rows c → ⊥
IsLeastOf rows (Some c) = IsClash rows c × ((d : Conflict) → IsClash rows d → is_less d c ≡ false)

behind : (x : Row) (rows : List Row) (c : Conflict) → IsClash rows c → IsClash (x ∷ rows) c
behind x rows c h = (h.0, inr h.1, inr h.2)

none-some : {A : Type 0} (a : A) → None ≡ Some a → ⊥
none-some a e = cc

inside : {A : Type 0} (a b : A) → Some a ≡ Some b → a ≡ b
inside a b e = cc

clash_tells : (x y : Row) (k : Conflict) → clash x y ≡ Some k
    → (k ≡ record { first = x.iteration; second = y.iteration; reference = x.reference; element = x.element })
    × (x.reference ≡ y.reference) × (x.element ≡ y.element) × (x.iteration <ℤ y.iteration)
clash_tells x y k is = by (x.reference == y.reference && (x.element == y.element && int_lt x.iteration y.iteration)) refl is
  where
    c : Conflict
    c = record { first = x.iteration; second = y.iteration; reference = x.reference; element = x.element }

    same : (r s e f : ℕ) (i j : ℤ) → (r == s && (e == f && int_lt i j)) ≡ true → r ≡ s
    same r s e f i j h = grind (arith, nat_tests)

    alike : (r s e f : ℕ) (i j : ℤ) → (r == s && (e == f && int_lt i j)) ≡ true → e ≡ f
    alike r s e f i j h = grind (arith, nat_tests)

    below : (r s e f : ℕ) (i j : ℤ) → (r == s && (e == f && int_lt i j)) ≡ true → i <ℤ j
    below r s e f i j h = grind (arith, ints, nat_tests)

    by : (b : Bool) → (x.reference == y.reference && (x.element == y.element && int_lt x.iteration y.iteration)) ≡ b
        → (if b then Some c else None) ≡ Some k
        → (k ≡ c) × (x.reference ≡ y.reference) × (x.element ≡ y.element) × (x.iteration <ℤ y.iteration)
    by true e is = (
      inside k c (sym is),
      same x.reference y.reference x.element y.element x.iteration y.iteration e,
      alike x.reference y.reference x.element y.element x.iteration y.iteration e,
      below x.reference y.reference x.element y.element x.iteration y.iteration e,
    )
    by false e is = absurd (none-some k is)

is_clash : (x y : Row) (rows : List Row) (k : Conflict) → clash x y ≡ Some k → IsClash (x ∷ y ∷ rows) k
is_clash x y rows k is =
    let t = clash_tells x y k is in
    let second : row_with x.reference x.element y.iteration ≡ y = λ i. record {
      reference = t.1 i;
      element = t.2 i;
      iteration = y.iteration;
    } in
    subst (IsClash (x ∷ y ∷ rows)) (sym t.0) (t.3, inl refl, inr (inl second))

next_row : (x y : Row) (rows : List Row) → IsAscending (x ∷ y ∷ rows) → (o found : Option Conflict) → clash x y ≡ o
    → IsLeastOf (y ∷ rows) found → IsLeastOf (x ∷ y ∷ rows) (lesser o found)
next_row x y rows up o found is least = by o found is least
  where
    sides : (c : Conflict) → IsClash (x ∷ y ∷ rows) c → IsClash (y ∷ rows) c ⊎ HasNearer x y c
    sides c h = elim (split x (y ∷ rows) c up.0 h) [ inl rest ↦ inl rest | inr front ↦ inr (nearer x y rows c up.0.0 up.1.0 front) ]

    not_less : (k : Conflict) → clash x y ≡ Some k → (c : Conflict) → HasNearer x y c → is_less c k ≡ false
    not_less k is c near = subst (λ d. is_less c d ≡ false) (inside near.0 k (sym near.1 ∙ is)) near.2

    no_nearer : clash x y ≡ None → (c : Conflict) → HasNearer x y c → ⊥
    no_nearer is c near = none-some near.0 (sym is ∙ near.1)

    by : (o found : Option Conflict) → clash x y ≡ o → IsLeastOf (y ∷ rows) found → IsLeastOf (x ∷ y ∷ rows) (lesser o found)
    by None None is least = λ c h. elim (sides c h) [ inl rest ↦ least c rest | inr near ↦ no_nearer is c near ]
    by None (Some f) is least = (
      behind x (y ∷ rows) f least.0,
      λ d h. elim (sides d h) [ inl rest ↦ least.1 d rest | inr near ↦ absurd (no_nearer is d near) ],
    )
    by (Some k) None is least = (
      is_clash x y rows k is,
      λ d h. elim (sides d h) [ inl rest ↦ absurd (least d rest) | inr near ↦ not_less k is d near ],
    )
    by (Some k) (Some f) is least = which (is_less f k) refl
      where
        which : (b : Bool) → is_less f k ≡ b → IsLeastOf (x ∷ y ∷ rows) (if b then Some f else Some k)
        which true e = (
          behind x (y ∷ rows) f least.0,
          λ d h. elim (sides d h) [
            | inl rest ↦ least.1 d rest
            | inr near ↦ not_less_trans d k f (not_less k is d near) (not_less_back f k e)
          ],
        )
        which false e = (
          is_clash x y rows k is,
          λ d h. elim (sides d h) [
            | inl rest ↦ not_less_trans d f k (least.1 d rest) e
            | inr near ↦ not_less k is d near
          ],
        )

least_of_ascending : (rows : List Row) → IsAscending rows → IsLeastOf rows (side_by_side rows)
least_of_ascending [] up = λ c h. h.1
least_of_ascending (x ∷ []) up = λ c h. alone c h
  where
    alone : (c : Conflict) → IsClash (x ∷ []) c → ⊥
    alone c (rises, inl e, inl f) = irreflexive c.first (subst (λ z. c.first <ℤ z) (ap (λ (r : Row). r.iteration) (f ∙ sym e)) rises)
    alone c (rises, inl e, inr b) = b
    alone c (rises, inr a, f) = a
least_of_ascending (x ∷ y ∷ rows) up =
    next_row x y rows up (clash x y) (side_by_side (y ∷ rows)) refl (least_of_ascending (y ∷ rows) up.1)

-- ---- of any rows

same_clash : (xs ys : List Row) → ((x : Row) → Among x xs → Among x ys) → (c : Conflict) → IsClash xs c → IsClash ys c
same_clash xs ys into c h = (h.0, into (row_with c.reference c.element c.first) h.1, into (row_with c.reference c.element c.second) h.2)

moved : (xs ys : List Row) (o : Option Conflict) → HaveSameRows xs ys → IsLeastOf xs o → IsLeastOf ys o
moved xs ys None same least = λ c h. least c (same_clash ys xs same.1 c h)
moved xs ys (Some k) same least = (same_clash xs ys same.0 k least.0, λ d h. least.1 d (same_clash ys xs same.1 d h))

-- the iterations of one element are one where there is no clash
apart : (i j : ℤ) → (i <ℤ j → ⊥) → (j <ℤ i → ⊥) → i ≡ j
apart i j h k = fin.int_cmp-IsAntisymmetric i j (neither (int_cmp i j) (int_ranks i j))
  where
    neither : (r : Ordering) → MatchOrdering r (i <ℤ j) (i ≡ j) (j <ℤ i) → r ≡ Equal
    neither Less l = absurd (h l)
    neither Equal l = refl
    neither Greater l = absurd (k l)

said : (rows : List Row) (o : Option Conflict) → IsLeastOf rows o → IsLeastClash rows o
said rows None least = λ x y a b e f. apart x.iteration y.iteration
    (λ h. least (record { first = x.iteration; second = y.iteration; reference = x.reference; element = x.element })
    (h, a, subst (λ r. Among r rows) (λ i. row_with (sym e i) (sym f i) y.iteration) b))
    (λ h. least (record { first = y.iteration; second = x.iteration; reference = x.reference; element = x.element })
    (h, subst (λ r. Among r rows) (λ i. row_with (sym e i) (sym f i) y.iteration) b, a))
said rows (Some c) least = least

pub adjacent_is_least : AdjacentIsLeast
adjacent_is_least rows =
    let order = rows_are_in_order rows in
    said rows (side_by_side (in_order rows))
    (moved (in_order rows) rows (side_by_side (in_order rows)) order.same (least_of_ascending (in_order rows) order.ascends))

-- ---- the least is one

no_clash : (rows : List Row) (c : Conflict) → IsLeastClash rows None → IsClash rows c → ⊥
no_clash rows c none h =
    irreflexive c.first (subst (λ z. c.first <ℤ z) (sym (none (row_with c.reference c.element c.first)
    (row_with c.reference c.element c.second) h.1 h.2 refl refl)) h.0)

pub one_is_least : OneIsLeast
one_is_least rows None None h k = refl
one_is_least rows None (Some d) h k = absurd (no_clash rows d h k.0)
one_is_least rows (Some c) None h k = absurd (no_clash rows c k h.0)
one_is_least rows (Some c) (Some d) h k = ap Some (same_conflict c d (k.1 c h.0) (h.1 d k.0))
