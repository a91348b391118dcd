-- The regions of a level have each element once, and the parts one after another.
use Rattle.std.specs.Prelude.{◌≡◌, ℕ, zero, suc, ◌+◌, ◌-◌, ◌/◌, Bool, true, false, not, cond, List, [], ◌∷◌, ◌++◌, flat_map, nat_le}
use Rattle.std.specs.Prelude.{count_by}
use Rattle.std.proofs.Common.{ap, sym, ◌∙◌, subst, arith, refl}
use Rattle.std.proofs.lemmas.List.Sums.{sum_by-append}
use Rattle.std.proofs.lemmas.List.Filters.{sum_by-filter_both}
use Rattle.std.proofs.lemmas.List.{append-nil}
use Rattle.chaos_dist.specs.Counting.{up_to}
use Rattle.chaos_cut.specs.Bisection.{Axes, Region, goes_first, first_half, second_half, halves, regions_at}

abbrev pub elements_in : List Region → List ℕ
elements_in regions = flat_map (λ (region : Region). region.elements) regions

pub count-first : (test : ℕ → Bool) (region : Region) (regions : List Region)
    → count_by test (elements_in (region ∷ regions)) ≡ count_by test region.elements + count_by test (elements_in regions)
count-first test region regions = sum_by-append (λ g. cond (test g) 1 0) region.elements (elements_in regions)

-- ---- each element once

module _ (axes : Axes) (test : ℕ → Bool) where
  both : (region : Region) (b : Bool)
      → count_by test (elements_in (cond b (region ∷ []) (first_half axes region ∷ second_half axes region ∷ [])))
      ≡ count_by test region.elements
  both region true = ap (count_by test) (append-nil region.elements)
  both region false =
      ap (λ l. count_by test ((first_half axes region).elements ++ l)) (append-nil (second_half axes region).elements)
      ∙ sum_by-append (λ g. cond (test g) 1 0) (first_half axes region).elements (second_half axes region).elements
      ∙ sum_by-filter_both (goes_first axes region) (λ g. not (goes_first axes region g)) (λ g. refl)
      (λ g. cond (test g) 1 0) region.elements

  joined : (xs ys : List Region) → count_by test (elements_in (xs ++ ys)) ≡ count_by test (elements_in xs) + count_by test (elements_in ys)
  joined [] ys = omega arith
  joined (region ∷ xs) ys =
      count-first test region (xs ++ ys)
      ∙ ap (λ n. count_by test region.elements + n) (joined xs ys)
      ∙ omega (arith, count-first test region xs)

  next_same : (regions : List Region) → count_by test (elements_in (flat_map (halves axes) regions)) ≡ count_by test (elements_in regions)
  next_same [] = refl
  next_same (region ∷ regions) =
      joined (halves axes region) (flat_map (halves axes) regions)
      ∙ ap (λ n. n + count_by test (elements_in (flat_map (halves axes) regions))) (both region (nat_le region.parts 1))
      ∙ ap (λ n. count_by test region.elements + n) (next_same regions)
      ∙ sym (count-first test region regions)

-- whatever is asked of an element, as many pass in the regions of a level as of all
abbrev pub RegionsCover : Type 0
RegionsCover =
    (axes : Axes) (parts count level : ℕ) (test : ℕ → Bool)
    → count_by test (elements_in (regions_at axes parts count level)) ≡ count_by test (up_to count)

pub regions_cover : RegionsCover
regions_cover axes parts count zero test = ap (count_by test) (append-nil (up_to count))
regions_cover axes parts count (suc level) test =
    next_same axes test (regions_at axes parts count level) ∙ regions_cover axes parts count level test

-- ---- parts one after another

-- the regions have the parts from low on and below high, one after another
abbrev pub AreConsecutive : ℕ → ℕ → List Region → Type 0
AreConsecutive low high [] = low ≡ high
AreConsecutive low high (region ∷ regions) = (region.first ≡ low) × AreConsecutive (low + region.parts) high regions

module _ (axes : Axes) where
  consecutive_halves : (low high : ℕ) (region : Region) (b : Bool) (rest : List Region) → region.first ≡ low
      → AreConsecutive (low + region.parts) high rest
      → AreConsecutive low high (cond b (region ∷ []) (first_half axes region ∷ second_half axes region ∷ []) ++ rest)
  consecutive_halves low high region true rest e h = (e, h)
  consecutive_halves low high region false rest e h =
      let same : low + region.parts ≡ low + region.parts / 2 + (region.parts - region.parts / 2) = omega arith in
      (e, (ap (λ k. k + region.parts / 2) e, subst (λ k. AreConsecutive k high rest) same h))

  consecutive_next : (low high : ℕ) (regions : List Region) → AreConsecutive low high regions
      → AreConsecutive low high (flat_map (halves axes) regions)
  consecutive_next low high [] h = h
  consecutive_next low high (region ∷ regions) h =
      consecutive_halves low high region (nat_le region.parts 1) (flat_map (halves axes) regions) h.0
      (consecutive_next (low + region.parts) high regions h.1)

-- the regions of a level, in their order, have all parts
abbrev pub RegionsAreConsecutive : Type 0
RegionsAreConsecutive = (axes : Axes) (parts count level : ℕ) → AreConsecutive 0 parts (regions_at axes parts count level)

pub regions_are_consecutive : RegionsAreConsecutive
regions_are_consecutive axes parts count zero = (refl, (let e : 0 + parts ≡ parts = omega arith in e))
regions_are_consecutive axes parts count (suc level) =
    consecutive_next axes 0 parts (regions_at axes parts count level) (regions_are_consecutive axes parts count level)
