-- Lists of the numbers that pass a test.
use Rattle.std.proofs.Common.{◌≡◌, refl, ℕ, zero, suc, ◌+◌, ◌-◌, ◌<◌, ◌≤◌, Bool, true, false, List, [], ◌∷◌, ◌++◌, length, map, filter, ap}
use Rattle.std.proofs.Common.{sym, ◌∙◌, arith, append_assoc}
use Rattle.std.specs.Prelude.{All, ◌≤ℤ◌, ◌&&◌, ℤ, pos, int_le, if◌then◌else◌, Option, Some, None, IsSomeAnd, MatchOption}
use Rattle.std.proofs.lemmas.Int.{ints}
use Rattle.std.proofs.lemmas.Bool.Decides.{nat_tests}
use Rattle.std.proofs.lemmas.List.Elements.{All-from_recursion}
use Rattle.chaos_deref.specs.Asking.{IsElement}
use Rattle.fd_program.specs.LoopCases.{both_parts}
use Rattle.chaos_begin.specs.Begins.{is_within_extent}
use Rattle.std.specs.List.{AllByRecursion, list_all, range_with_len}

abbrev pub given_if : {B : Type 0} → Bool → B → List B
given_if is value = if is then value ∷ [] else []

-- one more number is looked at
pub picked_kept : {B : Type 0} (p : ℕ → Bool) (f : ℕ → B) (out more : List B) (n d : ℕ) (is : Bool) (all : List B) → d < n
    → is ≡ p d → more ≡ out ++ given_if is (f d)
    → out ++ map f (filter p (range_with_len d (n - d))) ≡ all
    → more ++ map f (filter p (range_with_len (d + 1) (n - (d + 1)))) ≡ all
picked_kept {B} p f out more n d is all less e1 e2 h =
    ap (λ l. l ++ rest) (e2 ∙ ap (λ b. out ++ given_if b (f d)) e1)
    ∙ append_assoc out (given_if (p d) (f d)) rest
    ∙ ap (λ l. out ++ l) (sym (by (p d)))
    ∙ ap (λ m. out ++ map f (filter p (range_with_len d m))) (sym left)
    ∙ h
  where
    left : n - d ≡ suc (n - (d + 1))
    left = omega (arith, less)

    rest : List B
    rest = map f (filter p (range_with_len (d + 1) (n - (d + 1))))

    by : (b : Bool) → map f (if b then d ∷ filter p (range_with_len (d + 1) (n - (d + 1)))
        else filter p (range_with_len (d + 1) (n - (d + 1))))
        ≡ given_if b (f d) ++ rest
    by true = refl
    by false = refl

pub picked_few : {B : Type 0} (p : ℕ → Bool) (f : ℕ → B) (a n : ℕ) → length (map f (filter p (range_with_len a n))) ≤ n
picked_few p f a zero = omega arith
picked_few {B} p f a (suc n) = by (p a) (picked_few p f (a + 1) n)
  where
    by : (b : Bool) → length (map f (filter p (range_with_len (a + 1) n))) ≤ n
        → length (map f (if b then a ∷ filter p (range_with_len (a + 1) n) else filter p (range_with_len (a + 1) n))) ≤ suc n
    by true h = omega (arith, h)
    by false h = omega (arith, h)

-- ---- elements

at_most : (a b : ℤ) → int_le a b ≡ true → a ≤ℤ b
at_most a b h = omega (arith, ints, h)

each_within : (extent : ℕ) (xs : List ℤ) → list_all (is_within_extent extent) xs ≡ true → AllByRecursion (IsElement extent) xs
each_within extent [] h = tt
each_within extent (x ∷ xs) h =
    let both = both_parts (is_within_extent extent x) (list_all (is_within_extent extent) xs) h in
    let here = both_parts (int_le (pos 1) x) (int_le x (pos extent)) both.0 in
    ((at_most (pos 1) x here.0, at_most x (pos extent) here.1), each_within extent xs both.1)

pub all_within : (extent : ℕ) (xs : List ℤ) → list_all (is_within_extent extent) xs ≡ true → All (IsElement extent) xs
all_within extent xs h = All-from_recursion (IsElement extent) xs (each_within extent xs h)

element_within : (extent g : ℕ) → 1 ≤ g → g ≤ extent → is_within_extent extent (pos g) ≡ true
element_within extent g least most = grind (arith, ints, nat_tests, least, most)

-- numbers from a on, up to the extent
pub range_within : (extent : ℕ) (keep : ℕ → Bool) (a n : ℕ) → 1 ≤ a → a + n ≤ extent + 1
    → list_all (is_within_extent extent) (map pos (filter keep (range_with_len a n))) ≡ true
range_within extent keep a zero least most = refl
range_within extent keep a (suc n) least most =
    by (keep a) (range_within extent keep (a + 1) n (omega (arith, least)) (omega (arith, most)))
    (element_within extent a least (omega (arith, most)))
  where
    by : (b : Bool) → list_all (is_within_extent extent) (map pos (filter keep (range_with_len (a + 1) n))) ≡ true
        → is_within_extent extent (pos a) ≡ true
        → list_all (is_within_extent extent)
        (map pos (if b then a ∷ filter keep (range_with_len (a + 1) n) else filter keep (range_with_len (a + 1) n))) ≡ true
    by true rest first = ap (λ b. b && list_all (is_within_extent extent) (map pos (filter keep (range_with_len (a + 1) n)))) first ∙ rest
    by false rest first = rest

-- ---- options

pub some_weaker : {A : Type 0} (P Q : A → Type 0) → ((x : A) → P x → Q x) → (o : Option A) → IsSomeAnd o P → IsSomeAnd o Q
some_weaker P Q f None h = absurd h
some_weaker P Q f (Some x) h = f x h

pub match_some : {A : Type 0} (N : Type 0) (P : A → Type 0) (o : Option A) → IsSomeAnd o P → MatchOption o N P
match_some N P None h = absurd h
match_some N P (Some x) h = h

no_more : (b : Bool) → b ≡ true → b ≡ false → ⊥
no_more true h e = cc
no_more false h e = cc

pub some_there : {A : Type 0} (b : Bool) (P : A → Type 0) (o : Option A) → MatchOption o (b ≡ false) P → b ≡ true → IsSomeAnd o P
some_there b P None h e = absurd (no_more b e h)
some_there b P (Some x) h e = h
