-- The iterations at which some reference reaches an element of a node are those of each reference, in ascending order, each once.
use Rattle.std.specs.Prelude.{◌≡◌, refl, ℕ, zero, suc, ℤ, pos, ◌+ℤ◌, ◌-ℤ◌, ◌<ℤ◌, ◌≤ℤ◌, Bool, true, false, ◌&&◌, ◌||◌, cond, List, [], ◌∷◌}
use Rattle.std.specs.Prelude.{filter, All}
use Rattle.std.specs.List.{AllByRecursion, flat_map, list_any}
use Rattle.std.specs.List.Sorted.{IsStrictlySortedBy}
use Rattle.std.specs.Ordering.{int_cmp, eq_by_cmp}
use Rattle.std.specs.Cmp.{int_cmp_is}
use Rattle.std.specs.FinMap.{int_cmp-IsAntisymmetric}
use Rattle.std.proofs.Common.{ap, sym, ◌∙◌, arith, subst, Less}
use Rattle.std.proofs.lemmas.Cmp.{int_cmp_total}
use Rattle.std.proofs.lemmas.Int.{by_lt_z, ints}
use Rattle.std.proofs.lemmas.List.Elements.{All-from_recursion}
use Rattle.std.proofs.lemmas.List.Folds.{list_any-append}
use Rattle.std.proofs.lemmas.List.Kept.{IsStrictlySortedBy-filter}
use Rattle.list_laws.specs.Order.{ascending}
use Rattle.list_laws.proofs.Once.{ascending-unique}
use Rattle.fd_program.specs.Loops.{counted_from, count_between, range_of}
use Rattle.fd_program.specs.RangeLaws.{counted, counts_none}

-- ---- a range ascends

before : (x y : ℤ) → x <ℤ y → int_cmp x y ≡ Less
before x y h = sym (int_cmp_is x y Less h)

all_behind : (x z : ℤ) (n : ℕ) → x <ℤ z → AllByRecursion (λ y. int_cmp x y ≡ Less) (counted_from z n)
all_behind x z zero h = tt
all_behind x z (suc n) h = (before x z h, all_behind x (z +ℤ pos 1) n (omega (arith, ints)))

pub range_ascends : (z : ℤ) (n : ℕ) → IsStrictlySortedBy int_cmp (counted_from z n)
unfolding IsStrictlySortedBy
range_ascends z zero = tt
range_ascends z (suc n) = (all_behind z (z +ℤ pos 1) n (omega (arith, ints)), range_ascends (z +ℤ pos 1) n)

-- ---- members

none_any : {A : Type 0} (xs : List A) → list_any (λ x. false) xs ≡ false
none_any [] = refl
none_any (x ∷ xs) = none_any xs

any-filter : {A : Type 0} (t p : A → Bool) (xs : List A) → list_any p (filter t xs) ≡ list_any (λ x. t x && p x) xs
any-filter t p [] = refl
any-filter {A = A} t p (x ∷ xs) = by (t x) (any-filter t p xs)
  where
    by : (b : Bool) → list_any p (filter t xs) ≡ list_any (λ x. t x && p x) xs
        → list_any p (cond b (x ∷ filter t xs) (filter t xs)) ≡ ((b && p x) || list_any (λ x. t x && p x) xs)
    by true rest = ap (λ c. p x || c) rest
    by false rest = rest

any-flat_map : {A B : Type 0} (f : A → List B) (p : B → Bool) (rs : List A) → list_any p (flat_map f rs)
    ≡ list_any (λ r. list_any p (f r)) rs
any-flat_map f p [] = refl
any-flat_map f p (r ∷ rs) = list_any-append p (f r) (flat_map f rs) ∙ ap (λ b. list_any p (f r) || b) (any-flat_map f p rs)

any-or : {A : Type 0} (s t p : A → Bool) (xs : List A)
    → list_any (λ x. (s x || t x) && p x) xs ≡ (list_any (λ x. s x && p x) xs || list_any (λ x. t x && p x) xs)
any-or s t p [] = refl
any-or s t p (x ∷ xs) =
    ap (λ b. ((s x || t x) && p x) || b) (any-or s t p xs)
    ∙ by (s x) (t x) (p x) (list_any (λ x. s x && p x) xs) (list_any (λ x. t x && p x) xs)
  where
    by : (a b c d e : Bool) → (((a || b) && c) || (d || e)) ≡ (((a && c) || d) || ((b && c) || e))
    by true true true d e = refl
    by true true false d e = refl
    by true false true d e = refl
    by true false false d e = refl
    by false true true true e = refl
    by false true true false e = refl
    by false true false d e = refl
    by false false c d e = refl

-- those at which some test passes, and those of each test
any-tests : {A B : Type 0} (t : A → B → Bool) (p : B → Bool) (xs : List B) (rs : List A)
    → list_any p (filter (λ x. list_any (λ r. t r x) rs) xs) ≡ list_any p (flat_map (λ r. filter (t r) xs) rs)
any-tests {A = A} {B = B} t p xs rs = any-filter (λ x. list_any (λ r. t r x) rs) p xs ∙ each rs
    ∙ sym (any-flat_map (λ r. filter (t r) xs) p rs)
  where
    each : (rs : List A) → list_any (λ x. list_any (λ r. t r x) rs && p x) xs ≡ list_any (λ r. list_any p (filter (t r) xs)) rs
    each [] = none_any xs
    each (r ∷ rs) =
        any-or (t r) (λ x. list_any (λ s. t s x) rs) p xs
        ∙ ap (λ b. b || list_any (λ x. list_any (λ s. t s x) rs && p x) xs) (sym (any-filter (t r) p xs))
        ∙ ap (λ b. list_any p (filter (t r) xs) || b) (each rs)

-- the numbers of a range that pass some test, from those that pass each
pub ascending-tests : {A : Type 0} (t : A → ℤ → Bool) (low high : ℤ) (rs : List A)
    → ascending int_cmp (flat_map (λ r. filter (t r) (range_of low high)) rs)
    ≡ filter (λ i. list_any (λ r. t r i) rs) (range_of low high)
ascending-tests t low high rs =
    sym (ascending-unique int_cmp int_cmp_total int_cmp-IsAntisymmetric (flat_map (λ r. filter (t r) (range_of low high)) rs)
    (filter (λ i. list_any (λ r. t r i) rs) (range_of low high))
    (IsStrictlySortedBy-filter int_cmp (λ i. list_any (λ r. t r i) rs) (range_of low high) (range_ascends low (count_between low high)))
    (λ q. any-tests t (eq_by_cmp int_cmp q) (range_of low high) rs))

-- ---- kept of those that are kept already

-- where those that pass the one test pass the other
pub filter-twice : {A : Type 0} (p q : A → Bool) (xs : List A) → AllByRecursion (λ x. p x ≡ true → q x ≡ true) xs
    → filter p (filter q xs) ≡ filter p xs
filter-twice p q [] h = refl
filter-twice {A = A} p q (x ∷ xs) h = by (q x) refl (filter-twice p q xs h.1)
  where
    fails : q x ≡ false → (b : Bool) → p x ≡ b → p x ≡ false
    fails e false f = f
    fails e true f = absurd (let g : true ≡ false = sym (h.0 f) ∙ e in cc)

    by : (b : Bool) → q x ≡ b → filter p (filter q xs) ≡ filter p xs → filter p (cond b (x ∷ filter q xs) (filter q xs)) ≡ filter p (x ∷ xs)
    by true e rest = ap (λ l. cond (p x) (x ∷ l) l) rest
    by false e rest = rest ∙ sym (ap (λ b. cond b (x ∷ filter p xs) (filter p xs)) (fails e (p x) refl))

-- ---- numbers within a range

counted_all : (P : ℤ → Type 0) (low high z : ℤ) (n : ℕ) → ((i : ℤ) → low ≤ℤ i → i ≤ℤ high → P i) → low ≤ℤ z
    → (z +ℤ pos n) ≤ℤ (high +ℤ pos 1) → AllByRecursion P (counted_from z n)
counted_all P low high z zero each from to = tt
counted_all P low high z (suc n) each from to =
    (each z from (omega (arith, ints)), counted_all P low high (z +ℤ pos 1) n each (omega (arith, ints)) (omega (arith, ints)))

pub range-all : (P : ℤ → Type 0) (low high : ℤ) → ((i : ℤ) → low ≤ℤ i → i ≤ℤ high → P i) → AllByRecursion P (range_of low high)
range-all P low high each =
    by_lt_z high low
    (λ none. subst (λ n. AllByRecursion P (counted_from low n)) (sym (counts_none low high none)) tt)
    (λ order.
    let n : pos (count_between low high) ≡ high -ℤ low +ℤ pos 1 = counted (high -ℤ low +ℤ pos 1) (omega (arith, ints)) in
    counted_all P low high low (count_between low high) each (omega (arith, ints)) (omega (arith, ints, n)))

filter_all : {A : Type 0} (P : A → Type 0) (p : A → Bool) (xs : List A) → AllByRecursion P xs → AllByRecursion P (filter p xs)
filter_all P p [] h = tt
filter_all {A = A} P p (x ∷ xs) h = by (p x) (filter_all P p xs h.1)
  where
    by : (b : Bool) → AllByRecursion P (filter p xs) → AllByRecursion P (cond b (x ∷ filter p xs) (filter p xs))
    by true rest = (h.0, rest)
    by false rest = rest

-- those of a range that pass are within it
pub kept-from : (p : ℤ → Bool) (low high : ℤ) → All (λ i. low ≤ℤ i) (filter p (range_of low high))
kept-from p low high =
    All-from_recursion (λ i. low ≤ℤ i) (filter p (range_of low high))
    (filter_all (λ i. low ≤ℤ i) p (range_of low high) (range-all (λ i. low ≤ℤ i) low high (λ i from to. from)))

pub kept-to : (p : ℤ → Bool) (low high : ℤ) → All (λ i. i ≤ℤ high) (filter p (range_of low high))
kept-to p low high =
    All-from_recursion (λ i. i ≤ℤ high) (filter p (range_of low high))
    (filter_all (λ i. i ≤ℤ high) p (range_of low high) (range-all (λ i. i ≤ℤ high) low high (λ i from to. to)))
