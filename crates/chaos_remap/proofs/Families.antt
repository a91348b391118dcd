-- Lists by places and by keys.
use Rattle.std.proofs.Common.{◌≡◌, ℕ, zero, suc, ◌+◌, ◌*◌, ◌<◌, ◌≤◌, Bool, true, false, cond, ◌&&◌, ◌||◌, ◌==◌, List, [], ◌∷◌, ◌++◌, length}
use Rattle.std.proofs.Common.{map, filter, Some, refl, ap, sym, subst, ◌∙◌, arith, add-zero, length-append}
use Rattle.std.specs.Prelude.{slice_get}
use Rattle.std.specs.List.{flat_map, list_any, range_with_len}
use Rattle.std.proofs.lemmas.Bool.Decides.{nat_tests}
use Rattle.fd_words.specs.Lists.{list_at}

-- ---- lists by place

module _ {A B : Type 0} where
  -- two maps that agree at each place
  pub map-places : (f : ℕ → B) (g : A → B) (a : ℕ) (xs : List A) → ((k : ℕ) (x : A) → slice_get xs k ≡ Some x → f (a + k) ≡ g x)
      → map f (range_with_len a (length xs)) ≡ map g xs
  map-places f g a [] same = refl
  map-places f g a (x ∷ xs) same =
      ap (λ y. y ∷ map f (range_with_len (a + 1) (length xs))) (ap f (sym (add-zero a)) ∙ same zero x refl)
      ∙ ap (λ l. g x ∷ l) (map-places f g (a + 1) xs (λ k y e. let next : a + 1 + k ≡ a + suc k = omega arith in ap f next
      ∙ same (suc k) y e))

  pub map-same : (f g : A → B) (xs : List A) → ((k : ℕ) (x : A) → slice_get xs k ≡ Some x → f x ≡ g x) → map f xs ≡ map g xs
  map-same f g [] same = refl
  map-same f g (x ∷ xs) same = ap (λ y. y ∷ map f xs) (same zero x refl) ∙ ap (λ l. g x ∷ l) (map-same f g xs (λ k y e. same (suc k) y e))

  -- the same where some are left out
  pub flat_map-places : (f : ℕ → List B) (g : A → List B) (t : ℕ → Bool) (u : A → Bool) (a : ℕ) (xs : List A)
      → ((k : ℕ) (x : A) → slice_get xs k ≡ Some x → f (a + k) ≡ g x) → ((k : ℕ) (x : A) → slice_get xs k ≡ Some x → t (a + k) ≡ u x)
      → flat_map f (filter t (range_with_len a (length xs))) ≡ flat_map g (filter u xs)
  flat_map-places f g t u a [] same test = refl
  flat_map-places f g t u a (x ∷ xs) same test =
      let rest = filter t (range_with_len (a + 1) (length xs)) in
      let next : (k : ℕ) → a + 1 + k ≡ a + suc k = λ k. omega arith in
      let later : flat_map f rest ≡ flat_map g (filter u xs) =
      flat_map-places f g t u (a + 1) xs (λ k y e. ap f (next k) ∙ same (suc k) y e) (λ k y e. ap t (next k) ∙ test (suc k) y e) in
      ap (λ b. flat_map f (cond b (a ∷ rest) rest)) (ap t (sym (add-zero a)) ∙ test zero x refl)
      ∙ both (u x) a rest x (filter u xs) (ap f (sym (add-zero a)) ∙ same zero x refl) later
    where
      both : (b : Bool) (h : ℕ) (hs : List ℕ) (y : A) (ys : List A) → f h ≡ g y → flat_map f hs ≡ flat_map g ys
          → flat_map f (cond b (h ∷ hs) hs) ≡ flat_map g (cond b (y ∷ ys) ys)
      both true h hs y ys e l = ap (λ z. z ++ flat_map f hs) e ∙ ap (λ z. g y ++ z) l
      both false h hs y ys e l = l

get_front : {A : Type 0} (xs ys : List A) (k : ℕ) → k < length xs → slice_get (xs ++ ys) k ≡ slice_get xs k
get_front [] ys k h = absurd (omega arith)
get_front (x ∷ xs) ys zero h = refl
get_front (x ∷ xs) ys (suc k) h = get_front xs ys k (omega arith)

get_behind : {A : Type 0} (xs ys : List A) (k : ℕ) → slice_get (xs ++ ys) (length xs + k) ≡ slice_get ys k
get_behind [] ys k = let e : 0 + k ≡ k = omega arith in ap (slice_get ys) e
get_behind (x ∷ xs) ys k = let e : suc (length xs) + k ≡ suc (length xs + k) = omega arith in ap (slice_get (x ∷ (xs ++ ys))) e
    ∙ get_behind xs ys k

-- pieces of one width, one after another
module _ {A B : Type 0} (f : A → List B) (width : ℕ) (wide : (x : A) → length (f x) ≡ width) where
  pub length-pieces : (xs : List A) → length (flat_map f xs) ≡ length xs * width
  length-pieces [] = let e : 0 ≡ 0 * width = omega arith in e
  length-pieces (x ∷ xs) = length-append (f x) (flat_map f xs) ∙ omega (arith, wide x, length-pieces xs)

  pub get-pieces : (xs : List A) (k j : ℕ) (x : A) → slice_get xs k ≡ Some x → j < width → slice_get (flat_map f xs) (k * width + j)
      ≡ slice_get (f x) j
  get-pieces [] k j x e h = absurd (no_item e)
    where
      no_item : slice_get [] k ≡ Some x → ⊥
      no_item e = cc
  get-pieces (y ∷ xs) zero j x e h =
      let at : 0 * width + j ≡ j = omega arith in
      let inside : j < length (f y) = subst (λ n. j < n) (sym (wide y)) h in
      ap (slice_get (f y ++ flat_map f xs)) at ∙ get_front (f y) (flat_map f xs) j inside ∙ ap (λ z. slice_get (f z) j) (same e)
    where
      same : Some y ≡ Some x → y ≡ x
      same e = cc
  get-pieces (y ∷ xs) (suc k) j x e h =
      let at : suc k * width + j ≡ length (f y) + (k * width + j) = omega (arith, wide y) in
      ap (slice_get (f y ++ flat_map f xs)) at ∙ get_behind (f y) (flat_map f xs) (k * width + j) ∙ get-pieces xs k j x e h

-- ---- families over the numbers below n

at_range : {B : Type 0} (f : ℕ → List B) (a k n : ℕ) → k < n → list_at (map f (range_with_len a n)) k ≡ f (a + k)
at_range f a k zero h = absurd (omega arith)
at_range f a zero (suc n) h = ap f (sym (add-zero a))
at_range f a (suc k) (suc n) h =
    let less : k < n = omega arith in
    let more : a + 1 + k ≡ a + suc k = omega arith in
    at_range f (a + 1) k n less ∙ ap f more

pub by_node : {B : Type 0} (f : ℕ → List B) (q n : ℕ) → q < n → list_at (map f (range_with_len 0 n)) q ≡ f q
by_node f q n h = let e : 0 + q ≡ q = omega arith in at_range f 0 q n h ∙ ap f e

flat_map-same-from : {B : Type 0} (f g : ℕ → List B) (a n : ℕ) → ((k : ℕ) → k < a + n → f k ≡ g k) → flat_map f (range_with_len a n)
    ≡ flat_map g (range_with_len a n)
flat_map-same-from f g a zero same = refl
flat_map-same-from f g a (suc n) same =
    ap (λ l. l ++ flat_map f (range_with_len (a + 1) n)) (same a (omega arith))
    ∙ ap (λ l. g a ++ l) (flat_map-same-from f g (a + 1) n (λ k h. same k (omega arith)))

pub flat_map-same : {B : Type 0} (f g : ℕ → List B) (n : ℕ) → ((k : ℕ) → k < n → f k ≡ g k) → flat_map f (range_with_len 0 n)
    ≡ flat_map g (range_with_len 0 n)
flat_map-same f g n same = flat_map-same-from f g 0 n (λ k h. same k (omega arith))

-- ---- what is among the items

pub filter-both : {A : Type 0} (p t : A → Bool) (xs : List A) → filter t (filter p xs) ≡ filter (λ x. p x && t x) xs
filter-both p t [] = refl
filter-both p t (x ∷ xs) =
    elim (p x) as (λ b. filter t (cond b (x ∷ filter p xs) (filter p xs)) ≡ cond (b && t x) (x ∷ filter (λ x. p x && t x) xs)
    (filter (λ x. p x && t x) xs)) [
      | true ↦ ap (λ l. cond (t x) (x ∷ l) l) (filter-both p t xs)
      | false ↦ filter-both p t xs
    ]

or_assoc : (a b c : Bool) → ((a || b) || c) ≡ (a || (b || c))
or_assoc true b c = refl
or_assoc false b c = refl

or_swap : (a b c d : Bool) → ((a || b) || (c || d)) ≡ ((a || c) || (b || d))
or_swap true b c d = refl
or_swap false true true d = refl
or_swap false true false d = refl
or_swap false false c d = refl

module _ {A : Type 0} (f : A → Bool) where
  any-append : (xs ys : List A) → list_any f (xs ++ ys) ≡ (list_any f xs || list_any f ys)
  any-append [] ys = refl
  any-append (x ∷ xs) ys = ap (λ b. f x || b) (any-append xs ys) ∙ sym (or_assoc (f x) (list_any f xs) (list_any f ys))

  pub any-map : {B : Type 0} (h : B → A) (xs : List B) → list_any f (map h xs) ≡ list_any (λ x. f (h x)) xs
  any-map h [] = refl
  any-map h (x ∷ xs) = ap (λ b. f (h x) || b) (any-map h xs)

  pub any-flat_map : {B : Type 0} (h : B → List A) (xs : List B) → list_any f (flat_map h xs) ≡ list_any (λ x. list_any f (h x)) xs
  any-flat_map h [] = refl
  any-flat_map h (x ∷ xs) = any-append (h x) (flat_map h xs) ∙ ap (λ b. list_any f (h x) || b) (any-flat_map h xs)

  pub any-filter : (p : A → Bool) (xs : List A) → list_any f (filter p xs) ≡ list_any (λ x. p x && f x) xs
  any-filter p [] = refl
  any-filter p (x ∷ xs) = elim (p x) as (λ b. list_any f (cond b (x ∷ filter p xs) (filter p xs))
      ≡ ((b && f x) || list_any (λ x. p x && f x) xs)) [ true ↦ ap (λ b. f x || b) (any-filter p xs) | false ↦ any-filter p xs ]

pub any-same : {A : Type 0} (f g : A → Bool) (xs : List A) → ((x : A) → f x ≡ g x) → list_any f xs ≡ list_any g xs
any-same f g [] same = refl
any-same f g (x ∷ xs) same = ap (λ b. b || list_any f xs) (same x) ∙ ap (λ b. g x || b) (any-same f g xs same)

any-none : {A : Type 0} (xs : List A) → list_any (λ x. false) xs ≡ false
any-none [] = refl
any-none (x ∷ xs) = any-none xs

any-either : {A : Type 0} (f g : A → Bool) (xs : List A) → list_any (λ x. f x || g x) xs ≡ (list_any f xs || list_any g xs)
any-either f g [] = refl
any-either f g (x ∷ xs) = ap (λ b. (f x || g x) || b) (any-either f g xs) ∙ or_swap (f x) (g x) (list_any f xs) (list_any g xs)

pub any-swap : {A B : Type 0} (c : A → B → Bool) (xs : List A) (ys : List B) → list_any (λ y. list_any (λ x. c x y) xs) ys
    ≡ list_any (λ x. list_any (c x) ys) xs
any-swap c [] ys = any-none ys
any-swap c (x ∷ xs) ys = any-either (c x) (λ y. list_any (λ x. c x y) xs) ys ∙ ap (λ b. list_any (c x) ys || b) (any-swap c xs ys)

-- a key below n is one of the numbers below n
not_same : (k p : ℕ) → k < p → (k == p) ≡ false
not_same k p h = grind (arith, nat_tests)

is_same : (k p : ℕ) → p ≤ k → k ≤ p → (k == p) ≡ true
is_same k p h l = grind (arith, nat_tests)

no_key : (key a n : ℕ) (t : Bool) → key < a → list_any (λ s. (key == s) && t) (range_with_len a n) ≡ false
no_key key a zero t h = refl
no_key key a (suc n) t h = ap (λ b. (b && t) || list_any (λ s. (key == s) && t) (range_with_len (a + 1) n)) (not_same key a h)
    ∙ no_key key (a + 1) n t (omega arith)

or_false : (b : Bool) → (b || false) ≡ b
or_false true = refl
or_false false = refl

key_from : (key a n : ℕ) (t : Bool) → a ≤ key → key < a + n → list_any (λ s. (key == s) && t) (range_with_len a n) ≡ t
key_from key a zero t h l = absurd (omega arith)
key_from key a (suc n) t h l =
    elim (key == a) as (λ b. (key == a) ≡ b → ((b && t) || list_any (λ s. (key == s) && t) (range_with_len (a + 1) n)) ≡ t) [
      | true ↦ λ here. ap (λ b. t || b) (no_key key (a + 1) n t (below_next key a here)) ∙ or_false t
      | false ↦ λ other. key_from key (a + 1) n t (above_next key a h other) (omega arith)
    ] refl
  where
    below_next : (key a : ℕ) → (key == a) ≡ true → key < a + 1
    below_next key a e = grind (arith, nat_tests)

    above_next : (key a : ℕ) → a ≤ key → (key == a) ≡ false → a + 1 ≤ key
    above_next key a h e = grind (arith, nat_tests)

pub any-key : (key n : ℕ) (t : Bool) → key < n → list_any (λ s. (key == s) && t) (range_with_len 0 n) ≡ t
any-key key n t h = key_from key 0 n t (omega arith) (omega arith)
