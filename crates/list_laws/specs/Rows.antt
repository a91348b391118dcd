-- Rows dealt out to the lists 0 to n - 1: each goes to the end of the list of its key.
use Rattle.std.specs.Prelude.{◌≡◌, refl, ℕ, zero, suc, ◌+◌, ◌<◌, Bool, true, false, ◌==◌, cond, List, [], ◌∷◌, ◌++◌, map, filter, fold}
use Rattle.std.specs.Prelude.{replicate, slice_get, slice_set, unwrap_or}
use Rattle.std.specs.List.{flat_map, range_with_len}
use Rattle.std.proofs.Common.{◌≢◌, ap, sym, ◌∙◌, arith, append_assoc, append-nil}
use Rattle.list_laws.specs.Tests.{same_number, other_number}

-- a row at the end of the list at a place
abbrev pub appended_at : {B : Type 0} → List (List B) → ℕ → List B → List (List B)
appended_at lists at row = slice_set lists at (unwrap_or (slice_get lists at) [] ++ row)

-- the lists with the rows of more items
abbrev pub dealt_onto : {A B : Type 0} → (A → ℕ) → (A → List B) → List (List B) → List A → List (List B)
dealt_onto key row lists xs = fold (λ l x. appended_at l (key x) (row x)) lists xs

-- list q has the rows of the items whose key is q
abbrev pub deals : {A B : Type 0} → (A → ℕ) → (A → List B) → ℕ → List A → List (List B)
deals key row n xs = map (λ q. flat_map row (filter (λ x. key x == q) xs)) (range_with_len 0 n)

-- two families that agree give the same lists
pub map-range-same : {B : Type 0} (f g : ℕ → B) (a n : ℕ) → ((p : ℕ) → f p ≡ g p) → map f (range_with_len a n) ≡ map g (range_with_len a n)
map-range-same f g a zero same = refl
map-range-same f g a (suc n) same =
    ap (λ y. y ∷ map f (range_with_len (a + 1) n)) (same a) ∙ ap (λ l. g a ∷ l) (map-range-same f g (a + 1) n same)

-- ---- one row more

-- two rows one after the other
pub append_twice : {B : Type 0} (lists : List (List B)) (k : ℕ) (xs ys : List B)
    → appended_at (appended_at lists k xs) k ys ≡ appended_at lists k (xs ++ ys)
append_twice [] k xs ys = refl
append_twice (l ∷ lists) zero xs ys = ap (λ m. m ∷ lists) (append_assoc l xs ys)
append_twice (l ∷ lists) (suc k) xs ys = ap (λ ms. l ∷ ms) (append_twice lists k xs ys)

abbrev pub with_row : {B : Type 0} → (ℕ → List B) → ℕ → List B → ℕ → List B
with_row f k row p = f p ++ cond (k == p) row []

untouched : {B : Type 0} (f : ℕ → List B) (k : ℕ) (row : List B) (a n : ℕ) → k < a
    → map (with_row f k row) (range_with_len a n) ≡ map f (range_with_len a n)
untouched f k row a zero h = refl
untouched f k row a (suc n) h =
    let other : k ≢ a = omega arith in
    let later : k < a + 1 = omega arith in
    ap (λ b. (f a ++ cond b row []) ∷ map (with_row f k row) (range_with_len (a + 1) n)) (other_number k a other)
    ∙ ap (λ y. y ∷ map (with_row f k row) (range_with_len (a + 1) n)) (append-nil (f a))
    ∙ ap (λ l. f a ∷ l) (untouched f k row (a + 1) n later)

pub append_from : {B : Type 0} (f : ℕ → List B) (row : List B) (a j n : ℕ)
    → appended_at (map f (range_with_len a n)) j row ≡ map (with_row f (a + j) row) (range_with_len a n)
append_from f row a j zero = refl
append_from f row a zero (suc n) =
    let here : a + 0 ≡ a = omega arith in
    let later : a + 0 < a + 1 = omega arith in
    sym (ap (λ b. (f a ++ cond b row []) ∷ map (with_row f (a + 0) row) (range_with_len (a + 1) n)) (ap (λ k. k == a) here ∙ same_number a)
    ∙ ap (λ l. (f a ++ row) ∷ l) (untouched f (a + 0) row (a + 1) n later))
append_from f row a (suc j) (suc n) =
    let there : a + suc j ≡ a + 1 + j = omega arith in
    let other : a + suc j ≢ a = omega arith in
    ap (λ l. f a ∷ l) (append_from f row (a + 1) j n)
    ∙ ap (λ k. f a ∷ map (with_row f k row) (range_with_len (a + 1) n)) (sym there)
    ∙ ap (λ y. y ∷ map (with_row f (a + suc j) row) (range_with_len (a + 1) n)) (sym (append-nil (f a)))
    ∙ ap (λ b. (f a ++ cond b row []) ∷ map (with_row f (a + suc j) row) (range_with_len (a + 1) n))
    (sym (other_number (a + suc j) a other))

-- ---- all rows

dealt_from : {A B : Type 0} (key : A → ℕ) (row : A → List B) (n : ℕ) (f : ℕ → List B) (xs : List A)
    → dealt_onto key row (map f (range_with_len 0 n)) xs ≡ map (λ q. f q ++ flat_map row (filter (λ x. key x == q) xs)) (range_with_len 0 n)
dealt_from key row n f [] = map-range-same f (λ q. f q ++ []) 0 n (λ q. sym (append-nil (f q)))
dealt_from {A = A} {B = B} key row n f (x ∷ xs) =
    let at : 0 + key x ≡ key x = omega arith in
    ap (λ l. dealt_onto key row l xs) (append_from f (row x) 0 (key x) n ∙ ap (λ k. map (with_row f k (row x)) (range_with_len 0 n)) at)
    ∙ dealt_from key row n (with_row f (key x) (row x)) xs
    ∙ map-range-same (λ q. with_row f (key x) (row x) q ++ flat_map row (filter (λ y. key y == q) xs))
    (λ q. f q ++ flat_map row (filter (λ y. key y == q) (x ∷ xs))) 0 n
    (λ q. by (key x == q) (f q) (filter (λ y. key y == q) xs))
  where
    by : (b : Bool) (l : List B) (more : List A) → l ++ cond b (row x) [] ++ flat_map row more ≡ l ++ flat_map row (cond b (x ∷ more) more)
    by true l more = append_assoc l (row x) (flat_map row more)
    by false l more = ap (λ m. m ++ flat_map row more) (append-nil l)

abbrev no_list : {B : Type 0} → ℕ → List B
no_list q = []

empty_lists : {B : Type 0} (a n : ℕ) → replicate n (no_list {B = B} 0) ≡ map no_list (range_with_len a n)
empty_lists a zero = refl
empty_lists {B = B} a (suc n) = ap (λ (l : List (List B)). [] ∷ l) (empty_lists (a + 1) n)

-- the rows of items dealt out one after another
pub dealt_all : {A B : Type 0} (key : A → ℕ) (row : A → List B) (n : ℕ) (xs : List A) → dealt_onto key row (replicate n []) xs
    ≡ deals key row n xs
dealt_all key row n xs = ap (λ l. dealt_onto key row l xs) (empty_lists 0 n) ∙ dealt_from key row n no_list xs

-- those of two lists, one after the other
pub dealt_on : {A B : Type 0} (key : A → ℕ) (row : A → List B) (lists : List (List B)) (xs ys : List A)
    → dealt_onto key row lists (xs ++ ys) ≡ dealt_onto key row (dealt_onto key row lists xs) ys
dealt_on key row lists [] ys = refl
dealt_on key row lists (x ∷ xs) ys = dealt_on key row (appended_at lists (key x) (row x)) xs ys
