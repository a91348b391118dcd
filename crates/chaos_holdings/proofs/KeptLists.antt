-- What is left of what is kept where a decomposition is moved.
use Rattle.std.specs.Prelude.{◌≡◌, ◌≢◌, refl, ℕ, zero, suc, ◌+◌, ◌<◌, ◌≤◌, ◌==◌, Bool, true, false, ◌||◌, if◌then◌else◌, List, [], ◌∷◌}
use Rattle.std.specs.Prelude.{◌++◌, length, map, filter, take, drop, slice_get, slice_set, Option, Some}
use Rattle.std.specs.List.{enumerate_from, list_any, range_with_len}
use Rattle.std.specs.Option.{option_map}
use Rattle.std.proofs.Common.{ap, sym, ◌∙◌, arith, inl, inr, add-one}
use Rattle.std.proofs.lemmas.Bool.{cases_eq}
use Rattle.std.proofs.lemmas.Bool.Decides.{nat_tests}
use Rattle.fd_program.specs.Places.{decomposition_of}
use Rattle.fd_program.specs.Trace.{site_at}
use Rattle.fd_program.specs.declared.checked.Checked.{Checked}
use Rattle.fd_program.specs.declared.reference.Reference.{Reference}
use Rattle.plan_run.specs.TableLaws.{is_named_in, left_of_move, without_inspection}
use Rattle.plan_run.specs.declared.kept.Kept.{Kept}
use Rattle.chaos_holdings.specs.Keeping.{names_decomposition}

-- ---- which decompositions are named

pub differ : (n m : ℕ) → n ≢ m → (n == m) ≡ false
differ n m h = grind (arith, nat_tests)

pub itself : (n m : ℕ) → n ≡ m → (n == m) ≡ true
itself n m h = grind (arith, nat_tests)

turned : (n m : ℕ) → (n == m) ≡ (m == n)
turned n m = elim (cases_eq n m) [
  | inl same ↦ itself n m same ∙ sym (itself m n (sym same))
  | inr other ↦ differ n m other ∙ sym (differ m n (λ e. other (sym e)))
]

any_same : {A : Type 0} (f g : A → Bool) (xs : List A) → ((x : A) → f x ≡ g x) → list_any f xs ≡ list_any g xs
any_same f g [] h = refl
any_same f g (x ∷ xs) h = ap (λ b. b || list_any f xs) (h x) ∙ ap (λ b. g x || b) (any_same f g xs h)

any_if : (b : Bool) (d low : ℕ) (more : List ℕ) → (d == low) ≡ false → list_any (λ e. d == e) (if b then low ∷ more else more)
    ≡ list_any (λ e. d == e) more
any_if true d low more e = ap (λ c. c || list_any (λ e. d == e) more) e
any_if false d low more e = refl

outside : (P : ℕ → Bool) (d low k : ℕ) → ((q : ℕ) → low ≤ q → q < low + k → d ≢ q)
    → list_any (λ e. d == e) (filter P (range_with_len low k)) ≡ false
outside P d low zero h = refl
outside P d low (suc k) h =
    any_if (P low) d low (filter P (range_with_len (low + 1) k)) (differ d low (h low (omega arith) (omega arith)))
    ∙ outside P d (low + 1) k (λ q l m. h q (omega (arith, l)) (omega (arith, m)))

inside : (P : ℕ → Bool) (d low k : ℕ) → low ≤ d → d < low + k → list_any (λ e. d == e) (filter P (range_with_len low k)) ≡ P d
inside P d low zero l h = absurd (omega (arith, l, h))
inside P d low (suc k) l h = elim (cases_eq d low) [
  | inl same ↦ here (P low) (itself d low same) (outside P d (low + 1) k (λ q m n e. absurd (omega (arith, m, e, same)))) ∙ ap P (sym same)
  | inr other ↦ any_if (P low) d low (filter P (range_with_len (low + 1) k)) (differ d low other)
      ∙ inside P d (low + 1) k (omega (arith, l, other)) (omega (arith, h))
]
  where
    here : (b : Bool) → (d == low) ≡ true → list_any (λ e. d == e) (filter P (range_with_len (low + 1) k)) ≡ false
        → list_any (λ e. d == e) (if b then low ∷ filter P (range_with_len (low + 1) k) else filter P (range_with_len (low + 1) k)) ≡ b
    here true e none = ap (λ c. c || list_any (λ e. d == e) (filter P (range_with_len (low + 1) k))) e
    here false e none = none

abbrev has_reference : Checked → ℕ → ℕ → Bool
has_reference c k d = list_any (λ (r : Reference). decomposition_of c.arrays r.array == d) (site_at c.sites k).references

pub named_is : (c : Checked) (k d : ℕ) → d < length c.layouts → list_any (names_decomposition c.arrays d) (site_at c.sites k).references
    ≡ is_named_in c k d
named_is c k d less =
    any_same (names_decomposition c.arrays d) (λ (r : Reference). decomposition_of c.arrays r.array == d) (site_at c.sites k).references
    (λ r. turned d (decomposition_of c.arrays r.array))
    ∙ sym (inside (has_reference c k) d 0 (length c.layouts) (omega arith) (omega (arith, less)))

pub none_named : (c : Checked) (k d : ℕ) → length c.layouts ≤ d → false ≡ is_named_in c k d
none_named c k d most = sym (outside (has_reference c k) d 0 (length c.layouts) (λ q l m e. absurd (omega (arith, m, e, most))))

-- ---- one after another

step : {A : Type 0} (f : ℕ × A → A) (m k : ℕ) (xs : List A) (x y : A) → slice_get xs k ≡ Some x → y ≡ f (m, x)
    → take (suc k) (slice_set xs k y) ++ map f (enumerate_from (m + 1) (drop (suc k) (slice_set xs k y))) ≡ take k xs
    ++ map f (enumerate_from m (drop k xs))
step f m k [] x y e g = cc
step {A} f m zero (z ∷ xs) x y e g = let same : z ≡ x = cc in ap (λ (w : A). w ∷ map f (enumerate_from (m + 1) xs)) (g
    ∙ ap (λ (w : A). f (m, w)) (sym same))
step {A} f m (suc k) (z ∷ xs) x y e g = ap (λ (l : List A). z ∷ l) (step f m k xs x y e g)

set_same : {A : Type 0} (k : ℕ) (xs : List A) (x : A) → slice_get xs k ≡ Some x → xs ≡ slice_set xs k x
set_same k [] x e = cc
set_same {A} zero (z ∷ xs) x e = let same : z ≡ x = cc in ap (λ (w : A). w ∷ xs) same
set_same {A} (suc k) (z ∷ xs) x e = ap (λ (l : List A). z ∷ l) (set_same k xs x e)

abbrev pub given_from : Checked → ℕ → ℕ → List (Option Kept) → List (Option Kept)
given_from c d k xs = map (λ (k, x). left_of_move c k d x) (enumerate_from k xs)

-- those before are given up, those from k on are as they were
abbrev pub given_to : Checked → ℕ → ℕ → List (Option Kept) → List (Option Kept)
given_to c d k xs = take k xs ++ given_from c d k (drop k xs)

-- one more
given_more : (c : Checked) (d k : ℕ) (xs : List (Option Kept)) (x : Option Kept) → slice_get xs k ≡ Some x
    → given_to c d (k + 1) (slice_set xs k (left_of_move c k d x)) ≡ given_to c d k xs
given_more c d k xs x e =
    let y = left_of_move c k d x in
    ap (λ n. take n (slice_set xs k y) ++ given_from c d (k + 1) (drop n (slice_set xs k y))) (add-one k)
    ∙ step (λ (k, x). left_of_move c k d x) k k xs x y e refl

pub given_named : (c : Checked) (d k : ℕ) (xs new : List (Option Kept)) (x y : Option Kept) → slice_get xs k ≡ Some x
    → is_named_in c k d ≡ true
    → y ≡ option_map without_inspection x → new ≡ slice_set xs k y → given_to c d (k + 1) new ≡ given_to c d k xs
given_named c d k xs new x y e named one more =
    ap (given_to c d (k + 1)) (more
    ∙ ap (slice_set xs k) (one ∙ sym (ap (λ (b : Bool). if b then option_map without_inspection x else x) named)))
    ∙ given_more c d k xs x e

pub given_other : (c : Checked) (d k : ℕ) (xs : List (Option Kept)) (x : Option Kept) → slice_get xs k ≡ Some x → is_named_in c k d ≡ false
    → given_to c d (k + 1) xs ≡ given_to c d k xs
given_other c d k xs x e other =
    ap (given_to c d (k + 1)) (set_same k xs x e
    ∙ ap (slice_set xs k) (sym (ap (λ (b : Bool). if b then option_map without_inspection x else x) other)))
    ∙ given_more c d k xs x e

pub given_all : (c : Checked) (d k : ℕ) (xs : List (Option Kept)) → length xs ≤ k → given_to c d k xs ≡ xs
given_all c d k xs most = all k xs most k
  where
    all : (k : ℕ) (xs : List (Option Kept)) → length xs ≤ k → (m : ℕ) → take k xs ++ given_from c d m (drop k xs) ≡ xs
    all zero [] most m = refl
    all (suc k) [] most m = refl
    all zero (x ∷ xs) most m = absurd (omega (arith, most))
    all (suc k) (x ∷ xs) most m = ap (λ (l : List (Option Kept)). x ∷ l) (all k xs (omega (arith, most)) m)
