-- Numbers drawn, over plain lists.
use Rattle.std.proofs.Common.{◌≡◌, ◌≢◌, ℕ, zero, suc, ◌+◌, ◌<◌, ◌≤◌, ℤ, pos, Bool, true, false, ◌==◌, cond, List, [], ◌∷◌, ◌++◌, length}
use Rattle.std.proofs.Common.{map, filter, drop, replicate, get_or, set, refl, ap, sym, ◌∙◌, subst, arith, inl, inr, append_assoc}
use Rattle.std.proofs.Common.{append-nil}
use Rattle.std.specs.Prelude.{nat_lt}
use Rattle.std.specs.List.{AllByRecursion}
use Rattle.std.proofs.lemmas.Bool.{cases_eq}
use Rattle.std.proofs.lemmas.Bool.Decides.{nat_tests}
use Rattle.std.proofs.lemmas.List.{get_or-set_same, get_or-set_other, length-set}
use Rattle.fd_words.specs.Lists.{list_at, pushed_at}
use Rattle.list_laws.specs.Fronts.{begins}
use Rattle.list_laws.specs.Rows.{append_twice, appended_at}
use Rattle.list_laws.specs.Tests.{same_number, other_number}
use Rattle.fd_program.specs.Stores.{number_at}
use Rattle.chaos_inspect.specs.Dealing.{numbers_drawn, one_drawn}

-- a number, and then a row
pub push_append : (lists : List (List ℤ)) (k : ℕ) (v : ℤ) (row : List ℤ) → appended_at (pushed_at lists k v) k row ≡ appended_at lists k
    (v ∷ row)
push_append lists k v row = append_twice lists k (v ∷ []) row

module _ {A : Type 0} (key : A → ℕ) (value : A → ℤ) (lists : List (List ℤ)) where
  -- behind those that are drawn stand the values of these items
  abbrev pub AreLeft : List ℕ → List A → Type 0
  AreLeft drawn xs = (k : ℕ) → k < length drawn → drop (get_or drawn k 0) (list_at lists k) ≡ map value (filter (λ x. key x == k) xs)

  drawn_is : (drawn : List ℕ) (k : ℕ) → get_or drawn k 0 < length (list_at lists k)
      → one_drawn lists drawn k ≡ set drawn k (get_or drawn k 0 + 1)
  drawn_is drawn k less =
      let on : nat_lt (get_or drawn k 0) (length (list_at lists k)) ≡ true = grind (arith, nat_tests) in
      ap (λ b. cond b (set drawn k (get_or drawn k 0 + 1)) drawn) on

  pub drawn_right : (drawn : List ℕ) (xs : List A) → AllByRecursion (λ x. key x < length drawn) xs → AreLeft drawn xs
      → numbers_drawn lists drawn (map key xs) ≡ map value xs
  drawn_right drawn [] low left = refl
  drawn_right drawn (x ∷ xs) low left =
      let k = key x in
      let next = set drawn k (get_or drawn k 0 + 1) in
      let here : drop (get_or drawn k 0) (list_at lists k) ≡ value x ∷ map value (filter (λ y. key y == k) xs) =
      left k low.0 ∙ ap (λ b. map value (cond b (x ∷ filter (λ y. key y == k) xs) (filter (λ y. key y == k) xs))) (same_number k) in
      let it = begins (pos 0) (list_at lists k) (get_or drawn k 0) (value x) (map value (filter (λ y. key y == k) xs)) here in
      let same : length next ≡ length drawn = length-set drawn k (get_or drawn k 0 + 1) in
      let more : AreLeft next xs = λ j less. elim (cases_eq j k) [
        | inl e ↦
            ap (λ i. drop (get_or next i 0) (list_at lists i)) e
            ∙ ap (λ c. drop c (list_at lists k)) (get_or-set_same drawn k (get_or drawn k 0 + 1) 0 low.0)
            ∙ it.rest
            ∙ ap (λ i. map value (filter (λ y. key y == i) xs)) (sym e)
        | inr e ↦
            let other : k ≢ j = λ f. e (sym f) in
            ap (λ c. drop c (list_at lists j)) (get_or-set_other drawn k j (get_or drawn k 0 + 1) 0 e)
            ∙ left j (subst (λ n. j < n) same less)
            ∙ ap (λ b. map value (cond b (x ∷ filter (λ y. key y == j) xs) (filter (λ y. key y == j) xs))) (other_number k j other)
      ] in
      ap (λ v. v ∷ numbers_drawn lists (one_drawn lists drawn k) (map key xs)) it.first
      ∙ ap (λ d. value x ∷ numbers_drawn lists d (map key xs)) (drawn_is drawn k it.within)
      ∙ ap (λ l. value x ∷ l) (drawn_right next xs (subst (λ n. AllByRecursion (λ y. key y < n) xs) (sym same) low.1) more)
