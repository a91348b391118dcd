-- Lists made one by one, and lists mapped twice.
use Rattle.std.proofs.Common.{◌≡◌, refl, ℕ, zero, suc, ◌+◌, ◌-◌, ◌<◌, ◌≤◌, ◌==◌, Bool, true, false, List, [], ◌∷◌, ◌++◌, cond, length, take}
use Rattle.std.proofs.Common.{map, filter, get_or, Some, ap, sym, ◌∙◌, arith, add-zero, append-nil, append_assoc}
use Rattle.std.proofs.lemmas.List.{map-append}
use Rattle.std.specs.Prelude.{slice_get}
use Rattle.std.specs.List.{flat_map, range_with_len}
use Rattle.std.proofs.lemmas.Bool.Decides.{nat_tests}
use Rattle.std.proofs.lemmas.List.Elements.{filter-append}
use Rattle.std.proofs.lemmas.List.FromFn.{map-range_with_len_more}
use Rattle.list_laws.specs.Tests.{same_number}
use Rattle.chaos_dist.specs.Counting.{up_to}
use Rattle.std.proofs.lemmas.List.{take_more}

map-push : {A B : Type 0} (f : A → B) (xs : List A) (x : A) → map f (xs ++ x ∷ []) ≡ map f xs ++ f x ∷ []
map-push f [] x = refl
map-push f (y ∷ xs) x = ap (λ l. f y ∷ l) (map-push f xs x)

-- one more is put behind those of the first i
pub map_step : {A B : Type 0} (f : A → B) (xs : List A) (i : ℕ) (d : A) (before after : List B) (y : B) → i < length xs
    → before ≡ map f (take i xs) → after ≡ before ++ y ∷ []
    → y ≡ f (get_or xs i d) → after ≡ map f (take (i + 1) xs)
map_step f xs i d before after y h so_far push is =
    push ∙ ap (λ l. l ++ y ∷ []) so_far ∙ ap (λ z. map f (take i xs) ++ z ∷ []) is ∙ sym (map-push f (take i xs) (get_or xs i d))
    ∙ sym (ap (map f) (take_more xs i d h))

pub map_twice : {A B C : Type 0} (g : B → C) (f : A → B) (xs : List A) → map g (map f xs) ≡ map (λ x. g (f x)) xs
map_twice g f [] = refl
map_twice g f (x ∷ xs) = ap (λ l. g (f x) ∷ l) (map_twice g f xs)

-- what agrees wherever the test is passed
pub map_filtered : {A B : Type 0} (f g : A → B) (p : A → Bool) (xs : List A) → ((x : A) → p x ≡ true → f x ≡ g x)
    → map f (filter p xs) ≡ map g (filter p xs)
map_filtered f g p [] same = refl
map_filtered {A} {B} f g p (x ∷ xs) same = by (p x) refl (map_filtered f g p xs same)
  where
    by : (b : Bool) → p x ≡ b → map f (filter p xs) ≡ map g (filter p xs) → map f (cond b (x ∷ filter p xs) (filter p xs))
        ≡ map g (cond b (x ∷ filter p xs) (filter p xs))
    by true e rest = ap (λ y. y ∷ map f (filter p xs)) (same x e) ∙ ap (λ l. g x ∷ l) rest
    by false e rest = rest

pub length-mapped : {A B : Type 0} (f : A → B) (xs : List A) → length (map f xs) ≡ length xs
length-mapped f [] = refl
length-mapped f (x ∷ xs) = ap suc (length-mapped f xs)

pub below_step : {B : Type 0} (f : ℕ → B) (i : ℕ) (before after : List B) (y : B) → before ≡ map f (range_with_len 0 i)
    → after ≡ before ++ y ∷ [] → y ≡ f i
    → after ≡ map f (range_with_len 0 (i + 1))
below_step f i before after y so_far push is =
    push ∙ ap (λ l. l ++ y ∷ []) so_far ∙ ap (λ z. map f (range_with_len 0 i) ++ z ∷ []) is
    ∙ sym (map-range_with_len_more f 0 i i (omega arith))

-- ---- families over the numbers below n

pub map_from : {B : Type 0} (f g : ℕ → B) (a n : ℕ) → ((k : ℕ) → k < a + n → f k ≡ g k) → map f (range_with_len a n)
    ≡ map g (range_with_len a n)
map_from f g a zero same = refl
map_from f g a (suc n) same =
    ap (λ y. y ∷ map f (range_with_len (a + 1) n)) (same a (omega arith))
    ∙ ap (λ l. g a ∷ l) (map_from f g (a + 1) n (λ k h. same k (omega arith)))

pub map_below : {B : Type 0} (f g : ℕ → B) (n : ℕ) → ((k : ℕ) → k < n → f k ≡ g k) → map f (range_with_len 0 n) ≡ map g (range_with_len 0 n)
map_below f g n same = map_from f g 0 n (λ k h. same k (omega arith))

-- ---- lists put together of lists

pub flat_map_at : {A B : Type 0} (f : ℕ → List B) (g : A → List B) (a : ℕ) (xs : List A) → ((k : ℕ) (x : A) → slice_get xs k ≡ Some x
    → f (a + k) ≡ g x)
    → flat_map f (range_with_len a (length xs)) ≡ flat_map g xs
flat_map_at f g a [] same = refl
flat_map_at f g a (x ∷ xs) same =
    ap (λ y. y ++ flat_map f (range_with_len (a + 1) (length xs))) (ap f (sym (add-zero a)) ∙ same zero x refl)
    ∙ ap (λ l. g x ++ l) (flat_map_at f g (a + 1) xs (λ k y e. let next : a + 1 + k ≡ a + suc k = omega arith in ap f next
    ∙ same (suc k) y e))

pub flat_map_filtered : {A B : Type 0} (f : A → List B) (p : A → Bool) (xs : List A)
    → flat_map f (filter p xs) ≡ flat_map (λ x. cond (p x) (f x) []) xs
flat_map_filtered f p [] = refl
flat_map_filtered f p (x ∷ xs) =
    elim (p x) as (λ b. flat_map f (cond b (x ∷ filter p xs) (filter p xs)) ≡ cond b (f x) [] ++ flat_map (λ x. cond (p x) (f x) []) xs) [
      | true ↦ ap (λ l. f x ++ l) (flat_map_filtered f p xs)
      | false ↦ flat_map_filtered f p xs
    ]

pub filter_flat_map : {A B : Type 0} (p : B → Bool) (f : A → List B) (xs : List A)
    → filter p (flat_map f xs) ≡ flat_map (λ x. filter p (f x)) xs
filter_flat_map p f [] = refl
filter_flat_map p f (x ∷ xs) = filter-append p (f x) (flat_map f xs) ∙ ap (λ l. filter p (f x) ++ l) (filter_flat_map p f xs)

pub map_flat_map : {A B C : Type 0} (g : B → C) (f : A → List B) (xs : List A) → map g (flat_map f xs) ≡ flat_map (λ x. map g (f x)) xs
map_flat_map g f [] = refl
map_flat_map g f (x ∷ xs) = map-append g (f x) (flat_map f xs) ∙ ap (λ l. map g (f x) ++ l) (map_flat_map g f xs)

pub filter_mapped : {A B : Type 0} (p : B → Bool) (f : A → B) (xs : List A) → filter p (map f xs) ≡ map f (filter (λ x. p (f x)) xs)
filter_mapped p f [] = refl
filter_mapped p f (x ∷ xs) =
    elim (p (f x)) as (λ b. cond b (f x ∷ filter p (map f xs)) (filter p (map f xs))
    ≡ map f (cond b (x ∷ filter (λ x. p (f x)) xs) (filter (λ x. p (f x)) xs))) [
      | true ↦ ap (λ l. f x ∷ l) (filter_mapped p f xs)
      | false ↦ filter_mapped p f xs
    ]

pub flat_map_each : {A B : Type 0} (f g : A → List B) (xs : List A) → ((k : ℕ) (x : A) → slice_get xs k ≡ Some x → f x ≡ g x)
    → flat_map f xs ≡ flat_map g xs
flat_map_each f g [] same = refl
flat_map_each f g (x ∷ xs) same = ap (λ y. y ++ flat_map f xs) (same zero x refl)
    ∙ ap (λ l. g x ++ l) (flat_map_each f g xs (λ k y e. same (suc k) y e))

-- ---- parts of ranges

skipped : {B : Type 0} (f : ℕ → List B) (b c d : ℕ) → ((e : ℕ) → b ≤ e → e < b + c → f e ≡ []) → flat_map f (range_with_len b (c + d))
    ≡ flat_map f (range_with_len (b + c) d)
skipped f b zero d none =
    let one : 0 + d ≡ d = omega arith in
    let two : b ≡ b + 0 = omega arith in
    ap (λ n. flat_map f (range_with_len b n)) one ∙ ap (λ n. flat_map f (range_with_len n d)) two
skipped f b (suc c) d none =
    let one : suc c + d ≡ suc (c + d) = omega arith in
    let two : b + 1 + c ≡ b + suc c = omega arith in
    ap (λ n. flat_map f (range_with_len b n)) one
    ∙ ap (λ l. l ++ flat_map f (range_with_len (b + 1) (c + d))) (none b (omega arith) (omega arith))
    ∙ skipped f (b + 1) c d (λ e low high. none e (omega arith) (omega arith))
    ∙ ap (λ n. flat_map f (range_with_len n d)) two

along : {B : Type 0} (f g : ℕ → List B) (a b c d : ℕ) → ((e : ℕ) → b ≤ e → e < b + c → f (e + a) ≡ g e)
    → flat_map f (range_with_len (b + a) (c + d)) ≡ flat_map g (range_with_len b c) ++ flat_map f (range_with_len (b + a + c) d)
along f g a b zero d same =
    let one : 0 + d ≡ d = omega arith in
    let two : b + a ≡ b + a + 0 = omega arith in
    ap (λ n. flat_map f (range_with_len (b + a) n)) one ∙ ap (λ n. flat_map f (range_with_len n d)) two
along f g a b (suc c) d same =
    let one : suc c + d ≡ suc (c + d) = omega arith in
    let two : b + a + 1 ≡ b + 1 + a = omega arith in
    let three : b + 1 + a + c ≡ b + a + suc c = omega arith in
    ap (λ n. flat_map f (range_with_len (b + a) n)) one
    ∙ ap (λ l. l ++ flat_map f (range_with_len (b + a + 1) (c + d))) (same b (omega arith) (omega arith))
    ∙ ap (λ n. g b ++ flat_map f (range_with_len n (c + d))) two
    ∙ ap (λ l. g b ++ l) (along f g a (b + 1) c d (λ e low high. same e (omega arith) (omega arith))
    ∙ ap (λ n. flat_map g (range_with_len (b + 1) c) ++ flat_map f (range_with_len n d)) three)
    ∙ sym (append_assoc (g b) (flat_map g (range_with_len (b + 1) c)) (flat_map f (range_with_len (b + a + suc c) d)))

nothing_left : {B : Type 0} (f : ℕ → List B) (b c : ℕ) → ((e : ℕ) → b ≤ e → f e ≡ []) → flat_map f (range_with_len b c) ≡ []
nothing_left f b zero none = refl
nothing_left f b (suc c) none =
    ap (λ l. l ++ flat_map f (range_with_len (b + 1) c)) (none b (omega arith)) ∙ nothing_left f (b + 1) c (λ e low. none e (omega arith))

-- a family that is another one's, so many places behind, and empty elsewhere
pub shifted : {B : Type 0} (f g : ℕ → List B) (a n total : ℕ) → a + n ≤ total → ((e : ℕ) → 1 ≤ e → e ≤ a → f e ≡ [])
    → ((e : ℕ) → 1 ≤ e → e ≤ n → f (e + a) ≡ g e)
    → ((e : ℕ) → a + n < e → f e ≡ []) → flat_map f (up_to total) ≡ flat_map g (up_to n)
shifted f g a n total fits low mid high =
    let r = total - (a + n) in
    let split : total ≡ a + (n + r) = omega arith in
    ap (λ m. flat_map f (range_with_len 1 m)) split
    ∙ skipped f 1 a (n + r) (λ e h k. low e h (omega arith))
    ∙ along f g a 1 n r (λ e h k. mid e h (omega arith))
    ∙ ap (λ l. flat_map g (range_with_len 1 n) ++ l) (nothing_left f (1 + a + n) r (λ e h. high e (omega arith)))
    ∙ append-nil (flat_map g (range_with_len 1 n))

-- ---- one of many

not_same : (k p : ℕ) → k < p → (k == p) ≡ false
not_same k p h = grind (arith, nat_tests)

not_same_above : (k p : ℕ) → p < k → (k == p) ≡ false
not_same_above k p h = grind (arith, nat_tests)

none_above : {A : Type 0} (f : ℕ → List A) (w a n : ℕ) → w < a → flat_map (λ x. cond (w == x) (f x) []) (range_with_len a n) ≡ []
none_above f w a zero h = refl
none_above f w a (suc n) h =
    ap (λ b. cond b (f a) [] ++ flat_map (λ x. cond (w == x) (f x) []) (range_with_len (a + 1) n)) (not_same w a h)
    ∙ none_above f w (a + 1) n (omega arith)

one_from : {A : Type 0} (f : ℕ → List A) (w a n k : ℕ) → a + k ≡ w → k < n → flat_map (λ x. cond (w == x) (f x) []) (range_with_len a n)
    ≡ f w
one_from f w a zero k e h = absurd (omega arith)
one_from f w a (suc n) zero e h =
    let here : a ≡ w = omega arith in
    ap (λ b. cond b (f a) [] ++ flat_map (λ x. cond (w == x) (f x) []) (range_with_len (a + 1) n)) (ap (λ x. w == x) here ∙ same_number w)
    ∙ ap (λ l. f a ++ l) (none_above f w (a + 1) n (omega arith)) ∙ append-nil (f a) ∙ ap f here
one_from f w a (suc n) (suc k) e h =
    ap (λ b. cond b (f a) [] ++ flat_map (λ x. cond (w == x) (f x) []) (range_with_len (a + 1) n)) (not_same_above w a (omega arith))
    ∙ one_from f w (a + 1) n k (omega arith) (omega arith)

-- of a family that has only the list at one place
pub one_of : {A : Type 0} (f : ℕ → List A) (w a n : ℕ) → a ≤ w → w < a + n → flat_map (λ x. cond (w == x) (f x) []) (range_with_len a n)
    ≡ f w
one_of f w a n low high = one_from f w a n (w - a) (omega arith) (omega arith)
