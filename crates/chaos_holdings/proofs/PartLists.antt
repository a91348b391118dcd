-- The parts of all arrays, one after another.
use Rattle.std.specs.Prelude.{◌≡◌, ◌≢◌, refl, ℕ, zero, suc, ◌==◌, ◌+◌, ◌<◌, ℤ, true, false, if◌then◌else◌, List, [], ◌∷◌, ◌++◌, drop}
use Rattle.std.specs.Prelude.{length}
use Rattle.std.proofs.Common.{ap, sym, ◌∙◌, arith, add-one, append-nil, append_assoc, get_or}
use Rattle.fd_words.specs.Lists.{list_at}
use Rattle.fd_program.specs.declared.array.ArrayFacts.{ArrayFacts}
use Rattle.chaos_holdings.specs.Parts.{parts_with}
use Rattle.chaos_holdings.proofs.KeptLists.{differ, itself}

drop_one : {A : Type 0} (k : ℕ) (xs : List A) → drop 1 (drop k xs) ≡ drop (suc k) xs
drop_one zero xs = refl
drop_one (suc k) [] = refl
drop_one (suc k) (x ∷ xs) = drop_one k xs

first_left : (k : ℕ) (xs : List (List ℤ)) → list_at (drop k xs) 0 ≡ list_at xs k
first_left zero xs = refl
first_left (suc k) [] = refl
first_left (suc k) (x ∷ xs) = first_left k xs

drop_all : {A : Type 0} (k : ℕ) (xs : List A) → length xs ≡ k → drop k xs ≡ []
drop_all zero [] e = refl
drop_all zero (x ∷ xs) e = absurd (omega (arith, e))
drop_all (suc k) [] e = refl
drop_all (suc k) (x ∷ xs) e = drop_all k xs (omega (arith, e))

drop_here : (k : ℕ) (xs : List ArrayFacts) (x : ArrayFacts) → k < length xs → x ≡ get_or xs k x → drop k xs ≡ x ∷ drop (suc k) xs
drop_here k [] x less e = absurd (omega arith)
drop_here zero (y ∷ ys) x less e = ap (λ (z : ArrayFacts). z ∷ ys) (sym e)
drop_here (suc k) (y ∷ ys) x less e = drop_here k ys x (fewer k (length ys) less) e
  where
    fewer : (k n : ℕ) → suc k < suc n → k < n
    fewer k n h = omega arith

-- an array of the decomposition
pub parts_taken : (arrays : List ArrayFacts) (d : ℕ) (parts pieces : List (List ℤ)) (k n m : ℕ) (a : ArrayFacts)
    (lists new : List (List ℤ)) (list : List ℤ) (all : List (List ℤ))
    → k < length arrays → a ≡ get_or arrays k a → a.decomposition ≡ d → list ≡ list_at pieces n → new ≡ lists ++ list ∷ [] → m ≡ suc n
    → lists ++ parts_with (drop k arrays) d (drop k parts) (drop n pieces) ≡ all
    → new ++ parts_with (drop (k + 1) arrays) d (drop (k + 1) parts) (drop m pieces) ≡ all
parts_taken arrays d parts pieces k n m a lists new list all less here of one more next before =
    let same : (a.decomposition == d) ≡ true = itself a.decomposition d of in
    let rest = parts_with (drop (suc k) arrays) d (drop (suc k) parts) (drop (suc n) pieces) in
    let step : parts_with (drop k arrays) d (drop k parts) (drop n pieces) ≡ list ∷ rest
    = ap (λ l. parts_with l d (drop k parts) (drop n pieces)) (drop_here k arrays a less here)
    ∙ ap (λ b. if b then list_at (drop n pieces) 0 ∷ parts_with (drop (suc k) arrays) d (drop 1 (drop k parts)) (drop 1 (drop n pieces))
    else list_at (drop k parts) 0 ∷ parts_with (drop (suc k) arrays) d (drop 1 (drop k parts)) (drop n pieces)) same
    ∙ ap (λ l. l ∷ parts_with (drop (suc k) arrays) d (drop 1 (drop k parts)) (drop 1 (drop n pieces))) (first_left n pieces ∙ sym one)
    ∙ ap (λ l. list ∷ parts_with (drop (suc k) arrays) d l (drop 1 (drop n pieces))) (drop_one k parts)
    ∙ ap (λ l. list ∷ parts_with (drop (suc k) arrays) d (drop (suc k) parts) l) (drop_one n pieces) in
    ap (λ i. new ++ parts_with (drop i arrays) d (drop i parts) (drop m pieces)) (add-one k)
    ∙ ap (λ i. new ++ parts_with (drop (suc k) arrays) d (drop (suc k) parts) (drop i pieces)) next
    ∙ ap (λ l. l ++ rest) more ∙ append_assoc lists (list ∷ []) rest ∙ ap (λ l. lists ++ l) (sym step) ∙ before

-- an array of another
pub parts_kept : (arrays : List ArrayFacts) (d : ℕ) (parts pieces : List (List ℤ)) (k n : ℕ) (a : ArrayFacts) (lists new : List (List ℤ))
    (list : List ℤ) (all : List (List ℤ))
    → k < length arrays → a ≡ get_or arrays k a → a.decomposition ≢ d → list ≡ list_at parts k → new ≡ lists ++ list ∷ []
    → lists ++ parts_with (drop k arrays) d (drop k parts) (drop n pieces) ≡ all
    → new ++ parts_with (drop (k + 1) arrays) d (drop (k + 1) parts) (drop n pieces) ≡ all
parts_kept arrays d parts pieces k n a lists new list all less here of one more before =
    let same : (a.decomposition == d) ≡ false = differ a.decomposition d of in
    let rest = parts_with (drop (suc k) arrays) d (drop (suc k) parts) (drop n pieces) in
    let step : parts_with (drop k arrays) d (drop k parts) (drop n pieces) ≡ list ∷ rest
    = ap (λ l. parts_with l d (drop k parts) (drop n pieces)) (drop_here k arrays a less here)
    ∙ ap (λ b. if b then list_at (drop n pieces) 0 ∷ parts_with (drop (suc k) arrays) d (drop 1 (drop k parts)) (drop 1 (drop n pieces))
    else list_at (drop k parts) 0 ∷ parts_with (drop (suc k) arrays) d (drop 1 (drop k parts)) (drop n pieces)) same
    ∙ ap (λ l. l ∷ parts_with (drop (suc k) arrays) d (drop 1 (drop k parts)) (drop n pieces)) (first_left k parts ∙ sym one)
    ∙ ap (λ l. list ∷ parts_with (drop (suc k) arrays) d l (drop n pieces)) (drop_one k parts) in
    ap (λ i. new ++ parts_with (drop i arrays) d (drop i parts) (drop n pieces)) (add-one k)
    ∙ ap (λ l. l ++ rest) more ∙ append_assoc lists (list ∷ []) rest ∙ ap (λ l. lists ++ l) (sym step) ∙ before

-- all arrays
pub parts_all : (arrays : List ArrayFacts) (d : ℕ) (parts pieces : List (List ℤ)) (k n : ℕ) (lists all : List (List ℤ)) → length arrays ≡ k
    → lists ++ parts_with (drop k arrays) d (drop k parts) (drop n pieces) ≡ all → lists ≡ all
parts_all arrays d parts pieces k n lists all here before =
    sym (ap (λ l. lists ++ parts_with l d (drop k parts) (drop n pieces)) (drop_all k arrays here) ∙ append-nil lists) ∙ before
