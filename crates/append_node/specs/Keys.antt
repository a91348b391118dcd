-- Pairs of signed numbers of 64 bits as numbers of 128 bits, in their order.
use Rattle.std.specs.Prelude.{◌≡◌, refl, ℕ, zero, suc, ◌+◌, ◌*◌, ◌/◌, ◌%◌, ◌^◌, ◌≤◌, ◌<◌, ℤ, pos, ◌-ℤ◌, Bool, true, false, List, [], ◌∷◌}
use Rattle.std.specs.Prelude.{length, map, count_by, int_le, nat_lt}
use Rattle.std.specs.List.{AllByRecursion}
use Rattle.std.specs.List.Sorted.{IsNonDecreasing, IsPermutation}
use Rattle.std.proofs.Common.{ap, sym, ◌∙◌, arith, get_or, cond}
use Rattle.std.proofs.lemmas.Bool.Decides.{nat_tests}
use Rattle.std.proofs.lemmas.Int.{ints}
use Rattle.std.proofs.lemmas.List.Sorted.{sum_by-IsPermutation}
use Rattle.std.proofs.lemmas.Nat.{div-add-mod'}
use Rattle.chaos_bins.specs.Ascending.{IsAscending, pair_from, sorted_pairs_are_only}
use Rattle.list_laws.specs.Counts.{count_by-map, count_by-same, first_counted}
use Rattle.chaos_bins.specs.Bins.{pair_le, sorted_by}
use Rattle.chaos_bins.specs.Lines.{through}

-- what was moved up by half of the numbers of 64 bits
abbrev pub signed_of : ℕ → ℤ
signed_of n = pos n -ℤ pos (2 ^ 63)

-- the pair that stands as this number
abbrev pub pair_of : ℕ → ℤ × ℤ
pair_of key = (signed_of (key / 2 ^ 64), signed_of (key % 2 ^ 64))

-- all keys of pairs with a bin up to b are below this
abbrev pub limit : ℕ → ℕ
limit b = (b + (2 ^ 63 + 1)) * 2 ^ 64

-- ---- the order of keys is that of pairs

shifted_le : (m n h : ℕ) → m ≤ n → int_le (pos m -ℤ pos h) (pos n -ℤ pos h) ≡ true
shifted_le m n h l = grind (arith, ints)

shifted_same : (m n h : ℕ) → pos m -ℤ pos h ≡ pos n -ℤ pos h → m ≡ n
shifted_same m n h e = omega (arith, ints, e)

quotients : (j k : ℕ) → j ≤ k → j / 2 ^ 64 ≤ k / 2 ^ 64
quotients j k l = omega (arith, l)

remainders : (j k : ℕ) → j ≤ k → j / 2 ^ 64 ≡ k / 2 ^ 64 → j % 2 ^ 64 ≤ k % 2 ^ 64
remainders j k l e = omega (arith, l, e)

key_le : (j k : ℕ) → j ≤ k → pair_le (pair_of j) (pair_of k) ≡ true
key_le j k l =
    pair_from (pair_of j) (pair_of k) (shifted_le (j / 2 ^ 64) (k / 2 ^ 64) (2 ^ 63) (quotients j k l))
    (λ e.
    shifted_le (j % 2 ^ 64) (k % 2 ^ 64) (2 ^ 63) (remainders j k l (shifted_same (j / 2 ^ 64) (k / 2 ^ 64) (2 ^ 63) e)))

above_all : (k : ℕ) (keys : List ℕ) → ((j d : ℕ) → j < length keys → k ≤ get_or keys j d)
    → AllByRecursion (λ y. pair_le (pair_of k) y ≡ true) (map pair_of keys)
above_all k [] h = tt
above_all k (key ∷ keys) h = (
  key_le k key (h 0 0 (omega arith)),
  above_all k keys (λ j d l. h (suc j) d (omega (arith, l))),
)

pub keys_ascend : (keys : List ℕ) → IsNonDecreasing keys → IsAscending pair_le (map pair_of keys)
keys_ascend [] up = tt
keys_ascend (key ∷ keys) up = (
  above_all key keys (λ j d l. up 0 (suc j) d (omega arith) (omega (arith, l))),
  keys_ascend keys (λ i j d l m. up (suc i) (suc j) d (omega (arith, l)) (omega (arith, m))),
)

-- the pairs of sorted keys are the sorted pairs
pub sorted_keys : (keys new : List ℕ) → IsNonDecreasing new → IsPermutation keys new
    → map pair_of new ≡ sorted_by pair_le (map pair_of keys)
sorted_keys keys new up same =
    sorted_pairs_are_only (map pair_of keys) (map pair_of new) (keys_ascend new up)
    (λ test.
    count_by-map pair_of test keys
    ∙ sym (sum_by-IsPermutation (λ k. cond (test (pair_of k)) 1 0) keys new same)
    ∙ sym (count_by-map pair_of test new))

-- ---- keys up to a bin

under_limit : (q r c : ℕ) → r < 2 ^ 64 → nat_lt (q * 2 ^ 64 + r) (c * 2 ^ 64) ≡ nat_lt q c
under_limit q r c l = grind (arith, nat_tests, l)

up_to_bin : (q b h : ℕ) → nat_lt q (b + (h + 1)) ≡ int_le (pos q -ℤ pos h) (pos b)
up_to_bin q b h = grind (arith, ints, nat_tests)

limit_is : (k b : ℕ) → nat_lt k (limit b) ≡ int_le (pair_of k).0 (pos b)
limit_is k b =
    ap (λ n. nat_lt n (limit b)) (sym (div-add-mod' k (2 ^ 64)))
    ∙ under_limit (k / 2 ^ 64) (k % 2 ^ 64) (b + (2 ^ 63 + 1)) (omega arith)
    ∙ up_to_bin (k / 2 ^ 64) b (2 ^ 63)

pub through_keys : (b : ℕ) (keys : List ℕ) → through b (map pair_of keys) ≡ count_by (λ k. nat_lt k (limit b)) keys
through_keys b keys =
    count_by-map pair_of (λ (x : ℤ × ℤ). int_le x.0 (pos b)) keys
    ∙ count_by-same (λ k. int_le (pair_of k).0 (pos b)) (λ k. nat_lt k (limit b)) keys (λ k. sym (limit_is k b))

-- the first r of a list pass, and no others
pub count_by-point : {A : Type 0} (p : A → Bool) (xs : List A) (r : ℕ) → r ≤ length xs
    → ((k : ℕ) (d : A) → k < r → p (get_or xs k d) ≡ true) → ((k : ℕ) (d : A) → r ≤ k → k < length xs → p (get_or xs k d) ≡ false)
    → count_by p xs ≡ r
count_by-point p [] zero within passes fails = refl
count_by-point p [] (suc r) within passes fails = absurd (omega arith)
count_by-point p (x ∷ xs) zero within passes fails =
    first_counted p x xs
    ∙ ap (λ b. cond b 1 0 + count_by p xs) (fails 0 x (omega arith) (omega arith))
    ∙ omega (
      arith,
      count_by-point p xs zero (omega arith) (λ k d l. absurd (omega (arith, l))) (λ k d l m. fails (suc k) d (omega arith)
          (omega (arith, m))),
    )
count_by-point p (x ∷ xs) (suc r) within passes fails =
    first_counted p x xs
    ∙ ap (λ b. cond b 1 0 + count_by p xs) (passes 0 x (omega arith))
    ∙ omega (
      arith,
      count_by-point p xs r (omega (arith, within)) (λ k d l. passes (suc k) d (omega (arith, l)))
          (λ k d l m. fails (suc k) d (omega (arith, l)) (omega (arith, m))),
    )
