-- Places of a list that grows by one or has one of its values changed.
use Rattle.std.proofs.Common.{◌≡◌, ◌≢◌, ℕ, zero, suc, ◌<◌, List, [], ◌∷◌, ◌++◌, length, set, Some, refl, ap, ◌⊎◌, ⊎_elim, inl, inr, arith}
use Rattle.std.specs.List.{slice_get}

module _ {A : Type 0} where
  pub snoc_get : (xs : List A) (x y : A) (j : ℕ) → slice_get (xs ++ x ∷ []) j ≡ Some y → (slice_get xs j ≡ Some y)
      ⊎ ((j ≡ length xs) × (x ≡ y))
  snoc_get [] x y zero e = inr (refl, (cc))
  snoc_get [] x y (suc j) e = absurd (cc)
  snoc_get (z ∷ zs) x y zero e = inl e
  snoc_get (z ∷ zs) x y (suc j) e = ⊎_elim (λ (h : slice_get zs j ≡ Some y). inl h) (λ (h : (j ≡ length zs) × (x ≡ y)). inr (
    ap suc h.0,
    h.1,
  )) (snoc_get zs x y j e)

  pub get_longer : (xs ys : List A) (y : A) (j : ℕ) → slice_get xs j ≡ Some y → slice_get (xs ++ ys) j ≡ Some y
  get_longer [] ys y j e = absurd (cc)
  get_longer (z ∷ zs) ys y zero e = e
  get_longer (z ∷ zs) ys y (suc j) e = get_longer zs ys y j e

  pub get_last : (xs : List A) (x : A) (j : ℕ) → j ≡ length xs → slice_get (xs ++ x ∷ []) j ≡ Some x
  get_last [] x zero e = refl
  get_last [] x (suc j) e = absurd (omega arith)
  get_last (z ∷ zs) x zero e = absurd (omega arith)
  get_last (z ∷ zs) x (suc j) e = get_last zs x j (omega arith)

  pub get_set : (xs : List A) (i j : ℕ) (y x : A) → slice_get (set xs i y) j ≡ Some x → ((j ≡ i) × (y ≡ x))
      ⊎ ((j ≢ i) × (slice_get xs j ≡ Some x))
  get_set [] i j y x e = absurd (cc)
  get_set (z ∷ zs) zero zero y x e = inl (refl, (cc))
  get_set (z ∷ zs) zero (suc j) y x e = inr (omega arith, e)
  get_set (z ∷ zs) (suc i) zero y x e = inr (omega arith, e)
  get_set (z ∷ zs) (suc i) (suc j) y x e = ⊎_elim (λ (p : (j ≡ i) × (y ≡ x)). inl (ap suc p.0, p.1))
      (λ (p : (j ≢ i) × (slice_get zs j ≡ Some x)). inr ((λ k. p.0 (omega arith)), p.1)) (get_set zs i j y x e)

  pub get_there : (xs : List A) (j : ℕ) → j < length xs → (x : A) × (slice_get xs j ≡ Some x)
  get_there [] j h = absurd (omega arith)
  get_there (z ∷ zs) zero h = (z, refl)
  get_there (z ∷ zs) (suc j) h = get_there zs j (omega arith)
