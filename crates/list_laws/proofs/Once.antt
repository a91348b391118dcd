-- What a sort and a `dedup` leave.
use Rattle.std.proofs.Common.{◌≡◌, Bool, true, false, cond, ◌||◌, List, [], ◌∷◌, map, Some, None, refl, ap, sym, subst, ◌∙◌, Ordering, Less}
use Rattle.std.proofs.Common.{Equal}
use Rattle.std.specs.Prelude.{IsPermutation, IsSorted}
use Rattle.std.specs.List.{AllByRecursion, list_any, dedup, dedup_from}
use Rattle.std.specs.List.Sorted.{IsStrictlySortedBy}
use Rattle.std.specs.Ordering.{eq_by_cmp, is_lt, is_eq}
use Rattle.std.specs.Cmp.{IsTotalOrder}
use Rattle.std.specs.FinMap as fin
use Rattle.std.specs.FinMap.Entries.{below_all, is_sorted, same_entries}
use lib.Dec.{T}
use Rattle.std.proofs.lemmas.List.Kept.{IsStrictlySortedBy-dedup}
use Rattle.std.proofs.lemmas.List.Sorted.{list_any-IsPermutation}
use Rattle.list_laws.specs.Order.{alone, ascending}
use Rattle.list_laws.proofs.Ascending.{both}

equal_when : (r : Ordering) → is_eq r ≡ true → r ≡ Equal
equal_when Ordering.Less e = absurd (subst T (sym e) tt)
equal_when Ordering.Equal e = refl
equal_when Ordering.Greater e = absurd (subst T (sym e) tt)

module _ {K : Type 0} (R : K → K → Ordering) (o : IsTotalOrder R) (same : fin.IsAntisymmetric R) where
  find-alone : (q : K) (xs : List K) → fin.find R q (alone xs) ≡ cond (list_any (eq_by_cmp R q) xs) (Some tt) None
  find-alone q [] = refl
  find-alone q (x ∷ xs) = elim (eq_by_cmp R q x) as (λ b. cond b (Some tt) (fin.find R q (alone xs))
      ≡ cond (b || list_any (eq_by_cmp R q) xs) (Some tt) None) [ true ↦ refl | false ↦ find-alone q xs ]

  below : (x : K) (xs : List K) → AllByRecursion (λ y. R x y ≡ Less) xs → T (below_all R x (alone xs))
  below x [] h = tt
  below x (y ∷ xs) h = both (is_lt (R x y)) _ (subst (λ r. T (is_lt r)) (sym h.0) tt) (below x xs h.1)

  sorted-alone : (xs : List K) → IsStrictlySortedBy R xs → T (is_sorted R (alone xs))
  unfolding IsStrictlySortedBy
  sorted-alone [] h = tt
  sorted-alone (x ∷ xs) h = both (below_all R x (alone xs)) _ (below x xs h.0) (sorted-alone xs h.1)

  alone-back : (xs : List K) → map (λ (e : K × Unit {0}). e.0) (alone xs) ≡ xs
  alone-back [] = refl
  alone-back (x ∷ xs) = ap (λ t. x ∷ t) (alone-back xs)

  pub ascending-unique : (xs zs : List K) → IsStrictlySortedBy R zs
      → ((q : K) → list_any (eq_by_cmp R q) zs ≡ list_any (eq_by_cmp R q) xs) → zs ≡ ascending R xs
  ascending-unique xs zs sorted members =
      let m = fin.from_entries {R = R} (alone xs) in
      sym (alone-back zs)
      ∙ ap (map (λ (e : K × Unit {0}). e.0)) (same_entries R o same (alone zs) (fin.entries m) (sorted-alone zs sorted)
      (fin.entries_sorted m) (λ q.
      find-alone q zs ∙ ap (λ b. cond b (Some tt) None) (members q) ∙ sym (find-alone q xs) ∙ sym (fin.get-from_entries o (alone xs) q)
      ∙ fin.get-entries m q))

  module _ (E : K → K → Bool) (ties : (x y : K) → E x y ≡ eq_by_cmp R x y) where
    any-from : (p : K → Bool) (k : K) (xs : List K) → list_any p (dedup_from E k xs) ≡ (p k || list_any p xs)
    any-from p k [] = refl
    any-from p k (x ∷ xs) =
        elim (E x k) as (λ b. E x k ≡ b → list_any p (cond b (dedup_from E k xs) (k ∷ dedup_from E x xs))
        ≡ (p k || (p x || list_any p xs))) [
          | true ↦ λ e. any-from p k xs ∙ twice (p k) (p x) (list_any p xs)
              (ap p (sym (same x k (equal_when (R x k) (sym (ties x k) ∙ e)))))
          | false ↦ λ _. ap (λ b. p k || b) (any-from p x xs)
        ] refl
      where
        twice : (a b c : Bool) → a ≡ b → (a || c) ≡ (a || (b || c))
        twice true b c e = refl
        twice false b c e = ap (λ t. t || c) e

    any-dedup : (p : K → Bool) (xs : List K) → list_any p (dedup E xs) ≡ list_any p xs
    any-dedup p [] = refl
    any-dedup p (x ∷ xs) = any-from p x xs

    pub sorted-once : (xs ys : List K) → IsPermutation xs ys → IsSorted R ys → dedup E ys ≡ ascending R xs
    sorted-once xs ys permuted sorted =
        ascending-unique xs (dedup E ys) (IsStrictlySortedBy-dedup o ties ys sorted) (λ q. any-dedup (eq_by_cmp R q) ys
        ∙ sym (list_any-IsPermutation (eq_by_cmp R q) xs ys permuted))
