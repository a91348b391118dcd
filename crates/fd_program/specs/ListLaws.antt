-- Laws of plain lists: facts of each element and of each pair.
use Rattle.std.specs.Prelude.{◌≡◌, refl, ℕ, zero, suc, ◌<◌, Bool, true, false, cond, List, [], ◌∷◌, ◌++◌, map, filter, flat_map, filter_map}
use Rattle.std.specs.Prelude.{length, reverse, slice_get, unwrap_or, AllPairs, Option, Some, None, ◌⊎◌}
use Rattle.std.specs.List.{AllByRecursion, cons_option}
use Rattle.std.proofs.Common.{ap, sym, ◌∙◌, subst, arith, inl, inr}
use Rattle.std.proofs.lemmas.Grind.{reverse_onto}
use Rattle.std.proofs.lemmas.List.Elements.{recursion_from_All}

-- R holds of each element and each later one
abbrev pub PairsByRecursion : {A : Type 0} → (A → A → Type 0) → List A → Type 0
PairsByRecursion R [] = Unit {0}
PairsByRecursion R (x ∷ xs) = AllByRecursion (R x) xs × PairsByRecursion R xs

pub pairs_from_AllPairs : {A : Type 0} (R : A → A → Type 0) (xs : List A) → AllPairs R xs → PairsByRecursion R xs
pairs_from_AllPairs R [] h = tt
pairs_from_AllPairs R (x ∷ xs) h = (
  recursion_from_All (R x) xs (λ k d small. h 0 (suc k) d (omega arith) (omega arith)),
  pairs_from_AllPairs R xs (λ i j d less small. h (suc i) (suc j) d (omega arith) (omega arith)),
)

-- ---- what holds of each

pub all_weaker : {A : Type 0} (P Q : A → Type 0) → ((x : A) → P x → Q x) → (xs : List A) → AllByRecursion P xs → AllByRecursion Q xs
all_weaker P Q f [] h = tt
all_weaker P Q f (x ∷ xs) h = (f x h.0, all_weaker P Q f xs h.1)

pub all_both : {A : Type 0} (P Q S : A → Type 0) → ((x : A) → P x → Q x → S x) → (xs : List A) → AllByRecursion P xs → AllByRecursion Q xs
    → AllByRecursion S xs
all_both P Q S f [] h g = tt
all_both P Q S f (x ∷ xs) h g = (f x h.0 g.0, all_both P Q S f xs h.1 g.1)

pub all_append : {A : Type 0} (P : A → Type 0) (xs ys : List A) → AllByRecursion P xs → AllByRecursion P ys → AllByRecursion P (xs ++ ys)
all_append P [] ys h g = g
all_append P (x ∷ xs) ys h g = (h.0, all_append P xs ys h.1 g)

pub all_map : {A B : Type 0} (P : B → Type 0) (f : A → B) (xs : List A) → AllByRecursion (λ x. P (f x)) xs → AllByRecursion P (map f xs)
all_map P f [] h = tt
all_map P f (x ∷ xs) h = (h.0, all_map P f xs h.1)

pub all_flat_map : {A B : Type 0} (P : B → Type 0) (f : A → List B) (xs : List A) → AllByRecursion (λ x. AllByRecursion P (f x)) xs
    → AllByRecursion P (flat_map f xs)
all_flat_map P f [] h = tt
all_flat_map P f (x ∷ xs) h = all_append P (f x) (flat_map f xs) h.0 (all_flat_map P f xs h.1)

pub all_filter : {A : Type 0} (P : A → Type 0) (p : A → Bool) (xs : List A) → AllByRecursion P xs
    → AllByRecursion (λ x. (p x ≡ true) × P x) (filter p xs)
all_filter P p [] h = tt
all_filter P p (x ∷ xs) h = chosen (p x) refl (all_filter P p xs h.1)
  where
    chosen : (b : Bool) → p x ≡ b → AllByRecursion (λ x. (p x ≡ true) × P x) (filter p xs) → AllByRecursion (λ x. (p x ≡ true) × P x)
        (cond b (x ∷ filter p xs) (filter p xs))
    chosen true e rest = ((e, h.0), rest)
    chosen false e rest = rest

pub all_split : {A : Type 0} (P : A → Type 0) (xs ys : List A) → AllByRecursion P (xs ++ ys) → AllByRecursion P xs × AllByRecursion P ys
all_split P [] ys h = (tt, h)
all_split P (x ∷ xs) ys h = let rest = all_split P xs ys h.1 in ((h.0, rest.0), rest.1)

pub all_reversed : {A : Type 0} (P : A → Type 0) (xs : List A) → AllByRecursion P (reverse xs) → AllByRecursion P xs
all_reversed P [] h = tt
all_reversed P (x ∷ xs) h =
    let parts = all_split P (reverse xs) (x ∷ []) (subst (AllByRecursion P) (reverse_onto xs x []) h) in
    (parts.1.0, all_reversed P xs parts.0)

-- nothing is asked of each
pub all_trivial : {A : Type 0} (xs : List A) → AllByRecursion (λ x. Unit {0}) xs
all_trivial [] = tt
all_trivial (x ∷ xs) = (tt, all_trivial xs)

-- ---- the element at a place

pub some_at : {A : Type 0} (xs : List A) (k : ℕ) → k < length xs → (x : A) × (slice_get xs k ≡ Some x)
some_at [] k h = absurd (omega (arith, h))
some_at (x ∷ xs) zero h = (x, refl)
some_at (x ∷ xs) (suc k) h = some_at xs k (omega (arith, h))

-- what holds of each holds at a place, where it holds of what stands for none
pub or_none : {A : Type 0} (P : A → Type 0) (xs : List A) (k : ℕ) (d : A) → P d → AllByRecursion P xs → P (unwrap_or (slice_get xs k) d)
or_none P [] k d h all = h
or_none P (x ∷ xs) zero d h all = all.0
or_none P (x ∷ xs) (suc k) d h all = or_none P xs k d h all.1

-- ---- what holds of each pair

pub pairs_weaker : {A : Type 0} (R S : A → A → Type 0) → ((x y : A) → R x y → S x y) → (xs : List A) → PairsByRecursion R xs
    → PairsByRecursion S xs
pairs_weaker R S f [] h = tt
pairs_weaker R S f (x ∷ xs) h = (all_weaker (R x) (S x) (f x) xs h.0, pairs_weaker R S f xs h.1)

pub pairs_map : {A B : Type 0} (R : B → B → Type 0) (f : A → B) (xs : List A) → PairsByRecursion (λ x y. R (f x) (f y)) xs
    → PairsByRecursion R (map f xs)
pairs_map R f [] h = tt
pairs_map R f (x ∷ xs) h = (all_map (R (f x)) f xs h.0, pairs_map R f xs h.1)

-- R holds of each of the first and each of the second
abbrev pub Cross : {A : Type 0} → (A → A → Type 0) → List A → List A → Type 0
Cross R xs ys = AllByRecursion (λ x. AllByRecursion (R x) ys) xs

pub pairs_append : {A : Type 0} (R : A → A → Type 0) (xs ys : List A) → PairsByRecursion R xs → PairsByRecursion R ys → Cross R xs ys
    → PairsByRecursion R (xs ++ ys)
pairs_append R [] ys h g c = g
pairs_append R (x ∷ xs) ys h g c = (all_append (R x) xs ys h.0 c.0, pairs_append R xs ys h.1 g c.1)

pub pairs_flat_map : {A B : Type 0} (R : B → B → Type 0) (f : A → List B) (xs : List A) → AllByRecursion (λ x. PairsByRecursion R (f x)) xs
    → PairsByRecursion (λ x y. Cross R (f x) (f y)) xs → PairsByRecursion R (flat_map f xs)
pairs_flat_map R f [] h g = tt
pairs_flat_map {A} {B} R f (x ∷ xs) h g = pairs_append R (f x) (flat_map f xs) h.0 (pairs_flat_map R f xs h.1 g.1) (across (f x) g.0)
  where
    across : (vs : List B) → AllByRecursion (λ y. Cross R vs (f y)) xs → Cross R vs (flat_map f xs)
    across [] k = tt
    across (v ∷ vs) k = (
      all_flat_map (R v) f xs (all_weaker (λ y. Cross R (v ∷ vs) (f y)) (λ y. AllByRecursion (R v) (f y)) (λ y c. c.0) xs k),
      across vs (all_weaker (λ y. Cross R (v ∷ vs) (f y)) (λ y. Cross R vs (f y)) (λ y c. c.1) xs k),
    )

-- a filter keeps them, and each of a pair passes
pub pairs_filter : {A : Type 0} (R : A → A → Type 0) (p : A → Bool) (xs : List A) → PairsByRecursion R xs
    → PairsByRecursion (λ x y. (p x ≡ true) × (p y ≡ true) × R x y) (filter p xs)
pairs_filter R p [] h = tt
pairs_filter R p (x ∷ xs) h = chosen (p x) refl (pairs_filter R p xs h.1)
  where
    chosen : (b : Bool) → p x ≡ b → PairsByRecursion (λ x y. (p x ≡ true) × (p y ≡ true) × R x y) (filter p xs)
        → PairsByRecursion (λ x y. (p x ≡ true) × (p y ≡ true) × R x y) (cond b (x ∷ filter p xs) (filter p xs))
    chosen true e rest = (
      all_weaker (λ y. (p y ≡ true) × R x y) (λ y. (p x ≡ true) × (p y ≡ true) × R x y) (λ y k. (e, k.0, k.1)) (filter p xs)
          (all_filter (R x) p xs h.0),
      rest,
    )
    chosen false e rest = rest

-- each pair of a list, also of an element with itself and in both orders
pub square : {A : Type 0} (Q : A → A → Type 0) (xs : List A) → AllByRecursion (λ x. Q x x) xs → PairsByRecursion (λ x y. Q x y × Q y x) xs
    → Cross Q xs xs
square Q [] h g = tt
square Q (x ∷ xs) h g = (
  (h.0, all_weaker (λ y. Q x y × Q y x) (Q x) (λ y k. k.0) xs g.0),
  all_both (λ y. Q y x) (λ y. AllByRecursion (Q y) xs) (λ y. AllByRecursion (Q y) (x ∷ xs)) (λ y k l. (k, l)) xs
      (all_weaker (λ y. Q x y × Q y x) (λ y. Q y x) (λ y k. k.1) xs g.0) (square Q xs h.1 g.1),
)

-- pairs of elements that each have a property
pub pairs_of : {A : Type 0} (P : A → Type 0) (R S : A → A → Type 0) → ((x y : A) → P x → P y → R x y → S x y) → (xs : List A)
    → AllByRecursion P xs → PairsByRecursion R xs → PairsByRecursion S xs
pairs_of P R S f [] h g = tt
pairs_of P R S f (x ∷ xs) h g = (all_both P (R x) (S x) (λ y p r. f x y h.0 p r) xs h.1 g.0, pairs_of P R S f xs h.1 g.1)

-- ---- a list that a filter_map leaves empty

pub none_mapped : {A B : Type 0} (h : A → Option B) (xs : List A) → filter_map h xs ≡ [] → AllByRecursion (λ x. h x ≡ None) xs
none_mapped h [] e = tt
none_mapped {A} {B} h (x ∷ xs) e = by (h x) refl e (none_mapped h xs)
  where
    by : (o : Option B) → h x ≡ o → cons_option o (filter_map h xs) ≡ [] → (filter_map h xs ≡ [] → AllByRecursion (λ x. h x ≡ None) xs)
        → (h x ≡ None) × AllByRecursion (λ x. h x ≡ None) xs
    by None same none rest = (same, rest none)
    by (Some y) same none rest = cc

-- what holds of a list that is joined holds of its parts
pub all_parts : {A B : Type 0} (P : B → Type 0) (f : A → List B) (xs : List A) → AllByRecursion P (flat_map f xs)
    → AllByRecursion (λ x. AllByRecursion P (f x)) xs
all_parts P f [] h = tt
all_parts P f (x ∷ xs) h = let parts = all_split P (f x) (flat_map f xs) h in (parts.0, all_parts P f xs parts.1)

-- what holds of each element holds of the one at a place
pub all_at : {A : Type 0} (P : A → Type 0) (xs : List A) (k : ℕ) (x : A) → AllByRecursion P xs → slice_get xs k ≡ Some x → P x
all_at P [] k x h e = cc
all_at P (y ∷ ys) zero x h e = let same : y ≡ x = cc in subst P same h.0
all_at P (y ∷ ys) (suc k) x h e = all_at P ys k x h.1 e

-- ---- elements

-- x is an element
abbrev pub Among : {A : Type 0} → A → List A → Type 0
Among x [] = ⊥
Among x (y ∷ ys) = (x ≡ y) ⊎ Among x ys

pub among_all : {A : Type 0} (P : A → Type 0) (xs : List A) → ((x : A) → Among x xs → P x) → AllByRecursion P xs
among_all P [] h = tt
among_all P (x ∷ xs) h = (h x (inl refl), among_all P xs (λ y a. h y (inr a)))

pub all_among : {A : Type 0} (P : A → Type 0) (xs : List A) (x : A) → AllByRecursion P xs → Among x xs → P x
all_among P [] x h a = absurd a
all_among P (y ∷ ys) x h (inl e) = subst P (sym e) h.0
all_among P (y ∷ ys) x h (inr a) = all_among P ys x h.1 a

pub among_left : {A : Type 0} (x : A) (xs ys : List A) → Among x xs → Among x (xs ++ ys)
among_left x [] ys a = absurd a
among_left x (y ∷ xs) ys (inl e) = inl e
among_left x (y ∷ xs) ys (inr a) = inr (among_left x xs ys a)

pub among_right : {A : Type 0} (x : A) (xs ys : List A) → Among x ys → Among x (xs ++ ys)
among_right x [] ys a = a
among_right x (y ∷ xs) ys a = inr (among_right x xs ys a)

pub among_either : {A : Type 0} (x : A) (xs ys : List A) → Among x (xs ++ ys) → Among x xs ⊎ Among x ys
among_either x [] ys a = inr a
among_either x (y ∷ xs) ys (inl e) = inl (inl e)
among_either x (y ∷ xs) ys (inr a) = elim (among_either x xs ys a) [ inl b ↦ inl (inr b) | inr b ↦ inr b ]

pub among_flat_map : {A B : Type 0} (f : A → List B) (xs : List A) (x : A) (y : B) → Among x xs → Among y (f x) → Among y (flat_map f xs)
among_flat_map f [] x y a b = absurd a
among_flat_map f (z ∷ xs) x y (inl e) b = among_left y (f z) (flat_map f xs) (subst (λ w. Among y (f w)) e b)
among_flat_map f (z ∷ xs) x y (inr a) b = among_right y (f z) (flat_map f xs) (among_flat_map f xs x y a b)

pub from_flat_map : {A B : Type 0} (f : A → List B) (xs : List A) (y : B) → Among y (flat_map f xs) → (x : A) × Among x xs × Among y (f x)
from_flat_map f [] y a = absurd a
from_flat_map {A} {B} f (x ∷ xs) y a = elim (among_either y (f x) (flat_map f xs) a) [
  | inl b ↦ (x, inl refl, b)
  | inr b ↦ let rest = from_flat_map f xs y b in (rest.0, inr rest.1, rest.2)
]

pub among_filter_map : {A B : Type 0} (h : A → Option B) (xs : List A) (x : A) (y : B) → Among x xs → h x ≡ Some y
    → Among y (filter_map h xs)
among_filter_map h [] x y a e = absurd a
among_filter_map h (z ∷ xs) x y (inl same) e = subst (λ o. Among y (cons_option o (filter_map h xs))) (sym e ∙ ap h same) (inl refl)
among_filter_map {A} {B} h (z ∷ xs) x y (inr a) e = by (h z) (among_filter_map h xs x y a e)
  where
    by : (o : Option B) → Among y (filter_map h xs) → Among y (cons_option o (filter_map h xs))
    by None b = b
    by (Some w) b = inr b

pub from_filter_map : {A B : Type 0} (h : A → Option B) (xs : List A) (y : B) → Among y (filter_map h xs) → (x : A) × Among x xs
    × (h x ≡ Some y)
from_filter_map h [] y a = absurd a
from_filter_map {A} {B} h (x ∷ xs) y a = by (h x) refl a (from_filter_map h xs y)
  where
    further : (x' : A) × Among x' xs × (h x' ≡ Some y) → (x' : A) × Among x' (x ∷ xs) × (h x' ≡ Some y)
    further r = (r.0, inr r.1, r.2)

    by : (o : Option B) → h x ≡ o → Among y (cons_option o (filter_map h xs)) → (Among y (filter_map h xs) → (x' : A) × Among x' xs
        × (h x' ≡ Some y))
        → (x' : A) × Among x' (x ∷ xs) × (h x' ≡ Some y)
    by None e b rest = further (rest b)
    by (Some w) e (inl same) rest = (x, inl refl, e ∙ ap (λ v. Some v) (sym same))
    by (Some w) e (inr b) rest = further (rest b)

pub pairs_filter_map : {A B : Type 0} (R : A → A → Type 0) (S : B → B → Type 0) (h : A → Option B)
    → ((x y : A) (v w : B) → h x ≡ Some v → h y ≡ Some w → R x y → S v w)
    → (xs : List A) → PairsByRecursion R xs → PairsByRecursion S (filter_map h xs)
pairs_filter_map R S h f [] k = tt
pairs_filter_map {A} {B} R S h f (x ∷ xs) k = by (h x) refl (pairs_filter_map R S h f xs k.1)
  where
    by : (o : Option B) → h x ≡ o → PairsByRecursion S (filter_map h xs) → PairsByRecursion S (cons_option o (filter_map h xs))
    by None e rest = rest
    by (Some v) e rest = (
      among_all (S v) (filter_map h xs) (λ w a. let from = from_filter_map h xs w a in
          f x from.0 v w e from.2 (all_among (R x) xs from.0 k.0 from.1)),
      rest,
    )
