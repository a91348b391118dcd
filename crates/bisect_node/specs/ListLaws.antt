-- Places in lists, what is told of them, and what holds of all items.
use Rattle.std.specs.Prelude.{◌≡◌, ℕ, zero, suc, ◌+◌, ◌<◌, ◌≤◌, ℤ, Bool, true, false, cond, List, [], ◌∷◌, length, map, filter, fold, drop}
use Rattle.std.specs.Prelude.{Some}
use Rattle.std.specs.Prelude.{slice_get}
use Rattle.std.specs.List.{range_with_len, AllByRecursion}
use Rattle.std.proofs.Common.{ap, sym, ◌∙◌, subst, arith, refl}
use Rattle.chaos_letter.specs.declared.wanted.Wanted.{Wanted}
use Rattle.bsp_desk.specs.Ways.{letter_as}
use Rattle.bisect_node.specs.Steps.{number_at, number_in}

-- ---- places

pub get-within : {A : Type 0} (xs : List A) (k : ℕ) (x : A) → slice_get xs k ≡ Some x → k < length xs
get-within [] k x e = absurd (cc)
get-within (y ∷ ys) zero x e = omega arith
get-within (y ∷ ys) (suc k) x e = let less : k < length ys = get-within ys k x e in omega (arith, less)

pub get-made : {A B : Type 0} (f : A → B) (xs : List A) (k : ℕ) (x : A) → slice_get xs k ≡ Some x → slice_get (map f xs) k ≡ Some (f x)
get-made f [] k x e = absurd (cc)
get-made f (y ∷ ys) zero x e = ap (λ z. Some (f z)) (let same : y ≡ x = cc in same)
get-made f (y ∷ ys) (suc k) x e = get-made f ys k x e

pub get-nil : {A : Type 0} (i j : ℕ) → slice_get {X = A} [] i ≡ slice_get {X = A} [] j
get-nil zero zero = refl
get-nil zero (suc j) = refl
get-nil (suc i) zero = refl
get-nil (suc i) (suc j) = refl

pub get-drop : {A : Type 0} (n : ℕ) (xs : List A) (k : ℕ) → slice_get xs (n + k) ≡ slice_get (drop n xs) k
get-drop zero xs k = ap (slice_get xs) (let e : 0 + k ≡ k = omega arith in e)
get-drop {A} (suc n) [] k = get-nil {A = A} (suc n + k) k
get-drop (suc n) (x ∷ xs) k = ap (slice_get (x ∷ xs)) (let e : suc n + k ≡ suc (n + k) = omega arith in e) ∙ get-drop n xs k

pub get-first : {A : Type 0} (n : ℕ) (xs : List A) (y : A) (ys : List A) → drop n xs ≡ y ∷ ys → slice_get xs n ≡ Some y
get-first n xs y ys e =
    let here : n ≡ n + 0 = omega arith in
    ap (slice_get xs) here ∙ get-drop n xs 0 ∙ ap (λ l. slice_get l 0) e

pub drop-first : {A : Type 0} (n : ℕ) (xs : List A) (y : A) (ys : List A) → drop n xs ≡ y ∷ ys → drop (n + 1) xs ≡ ys
drop-first zero [] y ys e = absurd (cc)
drop-first zero (x ∷ xs) y ys e = cc
drop-first (suc n) [] y ys e = absurd (cc)
drop-first (suc n) (x ∷ xs) y ys e = let next : suc n + 1 ≡ suc (n + 1) = omega arith in ap (λ k. drop k (x ∷ xs)) next
    ∙ drop-first n xs y ys e

pub map-below : {A B : Type 0} (f : ℕ → B) (F : A → B) (at : ℕ) (xs : List A)
    → ((k : ℕ) (x : A) → slice_get xs k ≡ Some x → f (at + k) ≡ F x) → map f (range_with_len at (length xs)) ≡ map F xs
map-below f F at [] each = refl
map-below {A} {B} f F at (x ∷ xs) each =
    let here : at ≡ at + 0 = omega arith in
    ap (λ (y : B). y ∷ map f (range_with_len (at + 1) (length xs))) (ap f here ∙ each 0 x refl)
    ∙ ap (λ l. F x ∷ l) (map-below f F (at + 1) xs (λ k y e. let next : at + 1 + k ≡ at + suc k = omega arith in ap f next
    ∙ each (suc k) y e))

-- ---- folds over letters

told_from : (op : ℤ → ℤ → ℤ) (wanted : Wanted) (told : ℕ → List ℤ) (f : ℕ → ℤ) (at : ℕ) (a : ℤ) (nodes : List ℕ)
    → ((q : ℕ) → number_at (told q) at ≡ f q)
    → fold (λ b x. op b (number_in x at)) a (map (λ q. letter_as wanted (told q)) nodes) ≡ fold op a (map f nodes)
told_from op wanted told f at a [] is = refl
told_from op wanted told f at a (q ∷ nodes) is =
    told_from op wanted told f at (op a (number_at (told q) at)) nodes is ∙ ap (λ z. fold op (op a z) (map f nodes)) (is q)

-- what a node has told at a place and the others' letters have there
pub told_fold : (op : ℤ → ℤ → ℤ) (wanted : Wanted) (told : ℕ → List ℤ) (f : ℕ → ℤ) (at p : ℕ) (nodes : List ℕ)
    → ((q : ℕ) → number_at (told q) at ≡ f q)
    → fold (λ b x. op b (number_in x at)) (number_at (told p) at) (map (λ q. letter_as wanted (told q)) nodes) ≡ fold op (f p) (map f nodes)
told_fold op wanted told f at p nodes is =
    told_from op wanted told f at (number_at (told p) at) nodes is ∙ ap (λ z. fold op z (map f nodes)) (is p)

-- ---- filters

pub filter-swap : {A : Type 0} (p q : A → Bool) (xs : List A) → filter p (filter q xs) ≡ filter q (filter p xs)
filter-swap p q [] = refl
filter-swap {A} p q (x ∷ xs) = by (p x) (q x) refl refl (filter-swap p q xs)
  where
    by : (a b : Bool) → p x ≡ a → q x ≡ b → filter p (filter q xs) ≡ filter q (filter p xs)
        → filter p (cond b (x ∷ filter q xs) (filter q xs)) ≡ filter q (cond a (x ∷ filter p xs) (filter p xs))
    by true true e f ih =
        ap (λ c. cond c (x ∷ filter p (filter q xs)) (filter p (filter q xs))) e
        ∙ ap (λ l. x ∷ l) ih
        ∙ sym (ap (λ c. cond c (x ∷ filter q (filter p xs)) (filter q (filter p xs))) f)
    by true false e f ih = ih ∙ sym (ap (λ c. cond c (x ∷ filter q (filter p xs)) (filter q (filter p xs))) f)
    by false true e f ih = ap (λ c. cond c (x ∷ filter p (filter q xs)) (filter p (filter q xs))) e ∙ ih
    by false false e f ih = ih

pub filter-agree : {A : Type 0} (p q : A → Bool) (xs : List A) → AllByRecursion (λ x. p x ≡ q x) xs → filter p xs ≡ filter q xs
filter-agree p q [] all = refl
filter-agree p q (x ∷ xs) all =
    ap (λ b. cond b (x ∷ filter p xs) (filter p xs)) all.0 ∙ ap (λ l. cond (q x) (x ∷ l) l) (filter-agree p q xs all.1)

-- ---- what holds of all items

pub all-at : {A : Type 0} (P : A → Type 0) (j : ℕ) (x : A) (xs : List A) → AllByRecursion P xs → slice_get xs j ≡ Some x → P x
all-at P j x [] all e = absurd (cc)
all-at P zero x (y ∷ ys) all e = let same : y ≡ x = cc in subst P same all.0
all-at P (suc j) x (y ∷ ys) all e = all-at P j x ys all.1 e

pub all-filter : {A : Type 0} (P : A → Type 0) (p : A → Bool) (xs : List A) → AllByRecursion P xs → AllByRecursion P (filter p xs)
all-filter P p [] all = tt
all-filter {A} P p (x ∷ xs) all = by (p x) (all-filter P p xs all.1)
  where
    by : (b : Bool) → AllByRecursion P (filter p xs) → AllByRecursion P (cond b (x ∷ filter p xs) (filter p xs))
    by true rest = (all.0, rest)
    by false rest = rest

pub all-weaker : {A : Type 0} (P Q : A → Type 0) (xs : List A) → ((x : A) → P x → Q x) → AllByRecursion P xs → AllByRecursion Q xs
all-weaker P Q [] f all = tt
all-weaker P Q (x ∷ xs) f all = (f x all.0, all-weaker P Q xs f all.1)

pub length-filter-le : {A : Type 0} (p : A → Bool) (xs : List A) → length (filter p xs) ≤ length xs
length-filter-le p [] = omega arith
length-filter-le {A} p (x ∷ xs) = by (p x) (length-filter-le p xs)
  where
    by : (b : Bool) → length (filter p xs) ≤ length xs → length (cond b (x ∷ filter p xs) (filter p xs)) ≤ suc (length xs)
    by true h = omega (arith, h)
    by false h = omega (arith, h)

pub all-kept : {A : Type 0} (P Q : A → Type 0) (q : A → Bool) (xs : List A) → ((x : A) → q x ≡ true → P x → Q x) → AllByRecursion P xs
    → AllByRecursion Q (filter q xs)
all-kept P Q q [] f all = tt
all-kept {A} P Q q (x ∷ xs) f all = by (q x) refl (all-kept P Q q xs f all.1)
  where
    by : (b : Bool) → q x ≡ b → AllByRecursion Q (filter q xs) → AllByRecursion Q (cond b (x ∷ filter q xs) (filter q xs))
    by true e rest = (f x e all.0, rest)
    by false e rest = rest

pub all-both : {A : Type 0} (P Q : A → Type 0) (xs : List A) → AllByRecursion P xs → AllByRecursion Q xs
    → AllByRecursion (λ x. P x × Q x) xs
all-both P Q [] a b = tt
all-both P Q (x ∷ xs) a b = ((a.0, b.0), all-both P Q xs a.1 b.1)
