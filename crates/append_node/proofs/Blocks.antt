-- A block of numbers, number by number.
use Rattle.std.specs.Prelude.{◌≡◌, ℕ, zero, suc, ◌+◌, ◌-◌, ◌==◌, ◌≤◌, ◌<◌, ℤ, pos, Bool, true, false, cond, filter, List, [], ◌∷◌}
use Rattle.std.specs.Prelude.{length, map}
use Rattle.std.specs.List.{AllByRecursion}
use Rattle.std.proofs.Common.{ap, sym, ◌∙◌, subst, arith, get_or}
use Rattle.chaos_dist.specs.Counting.{below, place_by, up_to}
use Rattle.chaos_dist.specs.Layout.{element_of, elements_of, length_of, owner_of}
use Rattle.chaos_dist.specs.LayoutLaws.{length-elements_of}
use Rattle.chaos_dist.specs.declared.shape.Shape.TheVariants.{Block}
use Rattle.chaos_bins.specs.Moving.{numbers}
use Rattle.chaos_bins.specs.Rows.{number_at}
use Rattle.append_node.specs.Jobs.{number_from}
use Rattle.append_node.proofs.Walks.{mapped_again}

pub block_by_place : (numbers : List ℤ) (extent nodes node : ℕ)
    → map (λ k. number_at numbers (element_of Block extent nodes node k - 1)) (below (length_of Block extent nodes node))
    ≡ map (λ g. number_at numbers (g - 1)) (elements_of Block extent nodes node)
block_by_place numbers extent nodes node =
    mapped_again (λ g. number_at numbers (g - 1)) (element_of Block extent nodes node) (below (length_of Block extent nodes node))
    ∙ ap (map (λ g. number_at numbers (g - 1)))
    (ap (λ n. map (element_of Block extent nodes node) (below n)) (sym (length-elements_of Block extent nodes node))
    ∙ place_by 0 (elements_of Block extent nodes node) 0 (element_of Block extent nodes node)
    (λ k. ap (element_of Block extent nodes node) (let z : 0 + k ≡ k = omega arith in z)))

-- ---- what holds of all holds of a block

kept_all : {X : Type 0} (P : X → Type 0) (p : X → Bool) (xs : List X) → AllByRecursion P xs → AllByRecursion P (filter p xs)
kept_all P p [] all = tt
kept_all {X} P p (x ∷ xs) all = by (p x) (kept_all P p xs all.1)
  where
    by : (b : Bool) → AllByRecursion P (filter p xs) → AllByRecursion P (cond b (x ∷ filter p xs) (filter p xs))
    by true rest = (all.0, rest)
    by false rest = rest

pub elements_within : (extent nodes node : ℕ) → AllByRecursion (λ g. (1 ≤ g) × (g ≤ extent)) (elements_of Block extent nodes node)
elements_within extent nodes node =
    kept_all (λ g. (1 ≤ g) × (g ≤ extent)) (λ g. owner_of Block extent nodes g == node) (up_to extent)
    (numbers (λ g. (1 ≤ g) × (g ≤ extent)) 1 extent (λ g l m. (l, omega (arith, m))))

pub all_of_block : (P : ℤ → Type 0) (xs : List ℤ) → ((k : ℕ) (d : ℤ) → k < length xs → P (get_or xs k d))
    → (gs : List ℕ) → AllByRecursion (λ g. (1 ≤ g) × (g ≤ length xs)) gs
    → (k : ℕ) (d : ℤ) → k < length (map (λ g. number_at xs (g - 1)) gs) → P (get_or (map (λ g. number_at xs (g - 1)) gs) k d)
all_of_block P xs all [] within k d low = absurd (omega (arith, low))
all_of_block P xs all (g ∷ gs) within zero d low =
    subst P (sym (number_from xs (g - 1))) (all (g - 1) (pos 0) (omega (arith, within.0.0, within.0.1)))
all_of_block P xs all (g ∷ gs) within (suc k) d low =
    all_of_block P xs all gs within.1 k d (less k (length (map (λ g. number_at xs (g - 1)) gs)) low)
  where
    less : (k n : ℕ) → suc k < suc n → k < n
    less k n h = omega arith
