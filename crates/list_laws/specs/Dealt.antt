-- Items dealt out to the lists 0 to n - 1, in order.
use Rattle.std.specs.Prelude.{◌≡◌, refl, ℕ, zero, suc, ◌+◌, Bool, true, false, ◌==◌, cond, List, [], ◌∷◌, ◌++◌, map, filter, replicate}
use Rattle.std.specs.List.{range_with_len}
use Rattle.std.proofs.Common.{ap, sym, ◌∙◌, arith}
use Rattle.std.proofs.lemmas.List.Elements.{filter-append}
use Rattle.std.proofs.lemmas.List.{map-append}
use Rattle.list_laws.specs.Rows.{append_from, appended_at, map-range-same, with_row}

-- list p has the values of the items whose key is p
abbrev pub dealt : {A B : Type 0} → (A → ℕ) → (A → B) → ℕ → List A → List (List B)
dealt key value n xs = map (λ p. map value (filter (λ x. key x == p) xs)) (range_with_len 0 n)

pub dealt-none : {A B : Type 0} (key : A → ℕ) (value : A → B) (a n : ℕ)
    → map (λ p. map value (filter (λ x. key x == p) [])) (range_with_len a n) ≡ replicate n []
dealt-none key value a zero = refl
dealt-none key value a (suc n) = ap (λ l. [] ∷ l) (dealt-none key value (a + 1) n)

one_kept : {A B : Type 0} (key : A → ℕ) (value : A → B) (x : A) (p : ℕ)
    → map value (filter (λ x. key x == p) (x ∷ [])) ≡ cond (key x == p) (value x ∷ []) []
one_kept key value x p =
    elim (key x == p) as (λ b. map value (cond b (x ∷ []) []) ≡ cond b (value x ∷ []) []) [ true ↦ refl | false ↦ refl ]

-- an item goes to the end of the list of its key
pub dealt-more : {A B : Type 0} (key : A → ℕ) (value : A → B) (n : ℕ) (xs : List A) (x : A)
    → appended_at (dealt key value n xs) (key x) (value x ∷ []) ≡ dealt key value n (xs ++ x ∷ [])
dealt-more key value n xs x =
    let kept = λ (p : ℕ). map value (filter (λ y. key y == p) xs) in
    let at : 0 + key x ≡ key x = omega arith in
    append_from kept (value x ∷ []) 0 (key x) n
    ∙ ap (λ k. map (with_row kept k (value x ∷ [])) (range_with_len 0 n)) at
    ∙ map-range-same (with_row kept (key x) (value x ∷ [])) (λ p. map value (filter (λ y. key y == p) (xs ++ x ∷ []))) 0 n
    (λ p. ap (λ l. kept p ++ l) (sym (one_kept key value x p))
    ∙ sym (ap (map value) (filter-append (λ y. key y == p) xs (x ∷ []))
    ∙ map-append value (filter (λ y. key y == p) xs) (filter (λ y. key y == p) (x ∷ []))))

map-itself : {A : Type 0} (xs : List A) → map (λ x. x) xs ≡ xs
map-itself [] = refl
map-itself (x ∷ xs) = ap (λ l. x ∷ l) (map-itself xs)

-- where the items are their own values
pub dealt-own : {A : Type 0} (key : A → ℕ) (n : ℕ) (xs : List A)
    → dealt key (λ x. x) n xs ≡ map (λ p. filter (λ x. key x == p) xs) (range_with_len 0 n)
dealt-own key n xs =
    map-range-same (λ p. map (λ x. x) (filter (λ x. key x == p) xs)) (λ p. filter (λ x. key x == p) xs) 0 n
    (λ p. map-itself (filter (λ x. key x == p) xs))
