-- The first offence of several iterations, and writes past the end of a list.
use Rattle.std.proofs.Common.{◌≡◌, ℕ, zero, suc, ◌≤◌, ℤ, pos, negsuc, ◌<ℤ◌, List, [], ◌∷◌, ◌++◌, length, refl, ap, sym, ◌∙◌, Some, None}
use Rattle.std.proofs.Common.{arith, Option}
use Rattle.std.specs.Prelude.{slice_set}
use Rattle.fd_words.specs.Lists.{list_at}
use Rattle.std.proofs.lemmas.Grind.{common_steps}
use Rattle.std.proofs.lemmas.Int.{ints, to_z-of_z}
use Rattle.std.proofs.lemmas.List.Elements.{filter_map-append}
use Rattle.fd_program.specs.Loops.{first_of}
use Rattle.fd_program.specs.Stores.{place_of}

-- the first of two
abbrev pub either : {A : Type 0} → Option A → Option A → Option A
either (Some x) other = Some x
either None other = other

pub first_of-append : {A : Type 0} (xs ys : List A) → first_of (xs ++ ys) ≡ either (first_of xs) (first_of ys)
first_of-append [] ys = refl
first_of-append (x ∷ xs) ys = refl

pub ruleset first_steps = (common_steps, filter_map-append, first_of-append, to_z-of_z)

-- ---- nothing is written past the end

past_end : (xs : List ℤ) (p : ℕ) (v : ℤ) → length xs ≤ p → slice_set xs p v ≡ xs
past_end [] p v h = refl
past_end (x ∷ xs) zero v h = absurd (omega arith)
past_end (x ∷ xs) (suc p) v h = ap (λ l. x ∷ l) (past_end xs p v (omega arith))

same_list : (store : List (List ℤ)) (a : ℕ) → slice_set store a (list_at store a) ≡ store
same_list [] a = refl
same_list (l ∷ store) zero = refl
same_list (l ∷ store) (suc a) = ap (λ s. l ∷ s) (same_list store a)

pub not_written : (store : List (List ℤ)) (a p : ℕ) (v : ℤ) → length (list_at store a) ≤ p
    → store ≡ slice_set store a (slice_set (list_at store a) p v)
not_written store a p v h = sym (ap (slice_set store a) (past_end (list_at store a) p v h) ∙ same_list store a)

pub place_from : (z : ℤ) (n : ℕ) → pos n <ℤ z → n ≤ place_of z
place_from (pos z) n h = omega (arith, ints)
place_from (negsuc z) n h = absurd (omega (arith, ints))
