-- Pairs dealt out to the owners of their bins, as flat lists of numbers.
use Rattle.std.specs.Prelude.{◌≡◌, refl, ℕ, zero, suc, ◌==◌, ◌<◌, ◌≢◌, ℤ, Bool, true, false, cond, List, [], ◌∷◌, ◌++◌, length, filter}
use Rattle.std.specs.Prelude.{replicate, slice_set}
use Rattle.std.proofs.Common.{ap, sym, ◌∙◌, subst, arith, inl, inr, append_assoc, append-nil}
use Rattle.std.proofs.lemmas.Bool.{cases_eq}
use Rattle.list_laws.specs.Tests.{other_number, same_number}
use Rattle.fd_words.specs.Lists.{list_at, pushed_at}
use Rattle.chaos_bins.specs.Bins.{step_from}
use Rattle.chaos_bins.specs.Moving.{owner}
use Rattle.chaos_bins.specs.Plan.{flat}

-- a particle behind a step
abbrev pub stepped : ℕ → ℤ × ℤ → ℤ × ℤ
stepped bins x = (step_from bins x.1 x.0, x.1)

-- a particle appended to the list of its bin's owner
abbrev pub given : ℕ → ℕ → List (List ℤ) → ℤ × ℤ → List (List ℤ)
given bins nodes lists x = pushed_at (pushed_at lists (owner bins nodes x) x.0) (owner bins nodes x) x.1

-- particles dealt out one after another
abbrev pub dealt_rows : ℕ → ℕ → List (List ℤ) → List (ℤ × ℤ) → List (List ℤ)
dealt_rows bins nodes lists [] = lists
dealt_rows bins nodes lists (x ∷ xs) = dealt_rows bins nodes (given bins nodes lists x) xs

-- those for node q
abbrev pub of_owner : ℕ → ℕ → List (ℤ × ℤ) → ℕ → List (ℤ × ℤ)
of_owner bins nodes xs q = filter (λ x. owner bins nodes x == q) xs

pub dealt-append : (bins nodes : ℕ) (lists : List (List ℤ)) (xs ys : List (ℤ × ℤ))
    → dealt_rows bins nodes lists (xs ++ ys) ≡ dealt_rows bins nodes (dealt_rows bins nodes lists xs) ys
dealt-append bins nodes lists [] ys = refl
dealt-append bins nodes lists (x ∷ xs) ys = dealt-append bins nodes (given bins nodes lists x) xs ys

-- ---- what stands in each list

length_put : {X : Type 0} (xs : List X) (at : ℕ) (x : X) → length (slice_set xs at x) ≡ length xs
length_put [] at x = refl
length_put (y ∷ xs) zero x = refl
length_put (y ∷ xs) (suc at) x = ap suc (length_put xs at x)

at_put : {X : Type 0} (lists : List (List X)) (at : ℕ) (l : List X) → at < length lists → list_at (slice_set lists at l) at ≡ l
at_put [] at l low = absurd (omega (arith, low))
at_put (y ∷ lists) zero l low = refl
at_put (y ∷ lists) (suc at) l low = at_put lists at l (less at (length lists) low)
  where
    less : (k n : ℕ) → suc k < suc n → k < n
    less k n h = omega arith

at_other : {X : Type 0} (lists : List (List X)) (at other : ℕ) (l : List X) → at ≢ other → list_at (slice_set lists at l) other
    ≡ list_at lists other
at_other [] at other l apart = refl
at_other (y ∷ lists) zero zero l apart = absurd (apart refl)
at_other (y ∷ lists) zero (suc other) l apart = refl
at_other (y ∷ lists) (suc at) zero l apart = refl
at_other (y ∷ lists) (suc at) (suc other) l apart = at_other lists at other l (λ e. apart (ap suc e))

length_given : (bins nodes : ℕ) (lists : List (List ℤ)) (x : ℤ × ℤ) → length (given bins nodes lists x) ≡ length lists
length_given bins nodes lists x =
    let o = owner bins nodes x in
    length_put (pushed_at lists o x.0) o (list_at (pushed_at lists o x.0) o ++ x.1 ∷ [])
    ∙ length_put lists o (list_at lists o ++ x.0 ∷ [])

pub length-dealt : (bins nodes : ℕ) (lists : List (List ℤ)) (xs : List (ℤ × ℤ)) → length (dealt_rows bins nodes lists xs) ≡ length lists
length-dealt bins nodes lists [] = refl
length-dealt bins nodes lists (x ∷ xs) = length-dealt bins nodes (given bins nodes lists x) xs ∙ length_given bins nodes lists x

given_at : (bins nodes : ℕ) (lists : List (List ℤ)) (x : ℤ × ℤ) (q : ℕ) → q < length lists
    → list_at (given bins nodes lists x) q ≡ list_at lists q ++ flat (cond (owner bins nodes x == q) (x ∷ []) [])
given_at bins nodes lists x q low =
    let o = owner bins nodes x in
    let once = pushed_at lists o x.0 in
    elim (cases_eq o q) [
      | inl e ↦
          let there : o < length lists = omega (arith, e, low) in
          let still : o < length once = subst (λ n. o < n) (sym (length_put lists o (list_at lists o ++ x.0 ∷ []))) there in
          ap (λ k. list_at (given bins nodes lists x) k) (sym e)
          ∙ at_put once o (list_at once o ++ x.1 ∷ []) still
          ∙ ap (λ l. l ++ x.1 ∷ []) (at_put lists o (list_at lists o ++ x.0 ∷ []) there)
          ∙ append_assoc (list_at lists o) (x.0 ∷ []) (x.1 ∷ [])
          ∙ ap (λ k. list_at lists k ++ x.0 ∷ x.1 ∷ []) e
          ∙ ap (λ b. list_at lists q ++ flat (cond b (x ∷ []) [])) (sym (ap (λ k. k == q) e ∙ same_number q))
      | inr e ↦
          at_other once o q (list_at once o ++ x.1 ∷ []) e
          ∙ at_other lists o q (list_at lists o ++ x.0 ∷ []) e
          ∙ sym (append-nil (list_at lists q))
          ∙ ap (λ b. list_at lists q ++ flat (cond b (x ∷ []) [])) (sym (other_number o q e))
    ]

pub dealt_rows_at : (bins nodes : ℕ) (lists : List (List ℤ)) (xs : List (ℤ × ℤ)) (q : ℕ) → q < length lists
    → list_at (dealt_rows bins nodes lists xs) q ≡ list_at lists q ++ flat (of_owner bins nodes xs q)
dealt_rows_at bins nodes lists [] q low = sym (append-nil (list_at lists q))
dealt_rows_at bins nodes lists (x ∷ xs) q low =
    let still : q < length (given bins nodes lists x) = subst (λ n. q < n) (sym (length_given bins nodes lists x)) low in
    dealt_rows_at bins nodes (given bins nodes lists x) xs q still
    ∙ ap (λ l. l ++ flat (of_owner bins nodes xs q)) (given_at bins nodes lists x q low)
    ∙ append_assoc (list_at lists q) (flat (cond (owner bins nodes x == q) (x ∷ []) [])) (flat (of_owner bins nodes xs q))
    ∙ ap (λ l. list_at lists q ++ l) (first_kept (owner bins nodes x == q))
  where
    first_kept : (b : Bool) → flat (cond b (x ∷ []) []) ++ flat (of_owner bins nodes xs q)
        ≡ flat (cond b (x ∷ of_owner bins nodes xs q) (of_owner bins nodes xs q))
    first_kept true = refl
    first_kept false = refl

none_at : (n q : ℕ) → list_at {A = ℤ} (replicate n []) q ≡ []
none_at zero q = refl
none_at (suc n) zero = refl
none_at (suc n) (suc q) = none_at n q

pub length_empty : (n : ℕ) → length {A = List ℤ} (replicate n []) ≡ n
length_empty zero = refl
length_empty (suc n) = ap suc (length_empty n)

-- dealt out to as many empty lists
pub all_dealt_to : (bins nodes : ℕ) (xs : List (ℤ × ℤ)) (q : ℕ) → q < nodes
    → list_at (dealt_rows bins nodes (replicate nodes []) xs) q ≡ flat (of_owner bins nodes xs q)
all_dealt_to bins nodes xs q low =
    dealt_rows_at bins nodes (replicate nodes []) xs q (subst (λ n. q < n) (sym (length_empty nodes)) low)
    ∙ ap (λ l. l ++ flat (of_owner bins nodes xs q)) (none_at nodes q)
