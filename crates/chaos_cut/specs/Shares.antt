-- The parts of the map have their sizes.
use Rattle.std.specs.Prelude.{◌≡◌, ℕ, zero, suc, ◌+◌, ◌-◌, ◌/◌, ◌%◌, ◌^◌, ◌≤◌, ◌<◌, ◌==◌, Bool, true, false, cond, List, [], ◌∷◌, length}
use Rattle.std.specs.Prelude.{flat_map, nat_lt, nat_le, count_by}
use Rattle.std.specs.List.{AllByRecursion}
use Rattle.std.proofs.Common.{ap, sym, ◌∙◌, subst, arith, refl, inl, inr}
use Rattle.std.proofs.lemmas.Bool.{cases_lt}
use Rattle.std.proofs.lemmas.Bool.Decides.{nat_tests}
use Rattle.std.proofs.Math.Nat.{div-one, mod-one}
use Rattle.chaos_dist.specs.Counting.{up_to}
use Rattle.chaos_cut.specs.Bisection.{Axes, Region, first_half, second_half, cut_size, halves, levels_of, map_of, part_in, part_of}
use Rattle.chaos_cut.specs.Bisection.{regions_at, whole}
use Rattle.list_laws.specs.Counts.{count_by-map, first_counted}
use Rattle.chaos_cut.specs.Cover.{AreConsecutive, elements_in, count-first, regions_cover, regions_are_consecutive}
use Rattle.chaos_cut.specs.Depth.{levels_are_enough}
use Rattle.chaos_cut.specs.Regions.{AreSigned, IsSound, all_append, first_length, second_length, length-range, sound_at}
use Rattle.chaos_cut.specs.Sizes.{share_of, cuts_are_fair, first_half_shares, second_half_shares}

-- each part of a region has the share that it has of all
abbrev HasShares : (ℕ → ℕ) → Region → Type 0
HasShares share region = (i : ℕ) → i < region.parts → share_of (length region.elements) region.parts i ≡ share (region.first + i)

module _ (axes : Axes) (count : ℕ) (few : count ≤ 2 ^ 20) (signed : AreSigned axes) where
  shares_halves : (share part : ℕ → ℕ) (d : ℕ) (region : Region) → IsSound axes count part (suc d) region → HasShares share region
      → AllByRecursion (HasShares share) (halves axes region)
  shares_halves share part d region h has = by (nat_le region.parts 1) refl
    where
      by : (b : Bool) → nat_le region.parts 1 ≡ b
          → AllByRecursion (HasShares share) (cond b (region ∷ []) (first_half axes region ∷ second_half axes region ∷ []))
      by true e = (has, tt)
      by false e =
          let p = region.parts in
          let m = length region.elements in
          let two : 2 ≤ p = grind (arith, nat_tests) in
          let is = cuts_are_fair m p two h.enough in
          let one = first_length axes count few signed region h.are is.some is.within in
          let left : length (second_half axes region).elements ≡ m - cut_size region = omega (arith, one, second_length axes region) in (
            (λ i l. ap (λ k. share_of k (p / 2) i) one ∙ first_half_shares m p i two l ∙ has i (omega (arith, l, two))),
            (
              (λ i l.
                  let same : region.first + (p / 2 + i) ≡ region.first + p / 2 + i = omega arith in
                  ap (λ k. share_of k (p - p / 2) i) left
                  ∙ second_half_shares m p i two l
                  ∙ has (p / 2 + i) (omega (arith, l))
                  ∙ ap share same),
              tt,
            ),
          )

  shares_next : (share part : ℕ → ℕ) (d : ℕ) (regions : List Region) → AllByRecursion (IsSound axes count part (suc d)) regions
      → AllByRecursion (HasShares share) regions → AllByRecursion (HasShares share) (flat_map (halves axes) regions)
  shares_next share part d [] all has = tt
  shares_next share part d (region ∷ regions) all has =
      all_append (HasShares share) (halves axes region) (flat_map (halves axes) regions)
      (shares_halves share part d region all.0 has.0) (shares_next share part d regions all.1 has.1)

  shares_at : (parts depth level : ℕ) → 1 ≤ parts → parts ≤ count → parts ≤ 2 ^ depth → level ≤ depth
      → AllByRecursion (HasShares (share_of count parts)) (regions_at axes parts count level)
  shares_at parts depth zero some enough small within = (
    (λ i l. ap (λ m. share_of m parts i) (length-range count 1) ∙ ap (share_of count parts) (let e : i ≡ 0 + i = omega arith in e)),
    tt,
  )
  shares_at parts depth (suc level) some enough small within =
      let one : depth - level ≡ suc (depth - suc level) = omega (arith, within) in
      let part = part_in axes depth (whole parts count) in
      let regions = regions_at axes parts count level in
      shares_next (share_of count parts) part (depth - suc level) regions
      (subst (λ d. AllByRecursion (IsSound axes count part d) regions) one
      (sound_at axes count few signed parts depth level some enough small (omega (arith, within))))
      (shares_at parts depth level some enough small (omega (arith, within)))

-- ---- the last level, where each region has one part

count_const : (part : ℕ → ℕ) (i a : ℕ) (elements : List ℕ) → AllByRecursion (λ g. a ≡ part g) elements
    → count_by (λ g. part g == i) elements ≡ cond (a == i) (length elements) 0
count_const part i a [] all = none (a == i)
  where
    none : (b : Bool) → ◌≡◌ {A = ℕ} 0 (cond b 0 0)
    none true = refl
    none false = refl
count_const part i a (g ∷ elements) all =
    first_counted (λ g. part g == i) g elements
    ∙ ap (λ n. cond (n == i) 1 0 + count_by (λ g. part g == i) elements) (sym all.0)
    ∙ ap (λ n. cond (a == i) 1 0 + n) (count_const part i a elements all.1)
    ∙ sum (a == i)
  where
    sum : (b : Bool) → cond b 1 0 + cond b (length elements) 0 ≡ cond b (suc (length elements)) 0
    sum true = omega arith
    sum false = omega arith

is_over : (a i : ℕ) → i < a → (a == i) ≡ false
is_over a i h = grind (arith, nat_tests)

is_under : (a i : ℕ) → a < i → (a == i) ≡ false
is_under a i h = grind (arith, nat_tests)

is_it : (a i : ℕ) → a ≡ i → (a == i) ≡ true
is_it a i h = grind (arith, nat_tests)

all_of_one : (m : ℕ) → share_of m 1 0 ≡ m
all_of_one m = ap (λ k. k + cond (nat_lt 0 (m % 1)) 1 0) (div-one m) ∙ ap (λ k. m + cond (nat_lt 0 k) 1 0) (mod-one m) ∙ omega arith

module _ (axes : Axes) (count : ℕ) (share part : ℕ → ℕ) (i : ℕ) where
  abbrev IsLast : Region → Type 0
  IsLast region = IsSound axes count part 0 region

  abbrev in_part : List ℕ → ℕ
  in_part elements = count_by (λ g. part g == i) elements

  one_part : (region : Region) → IsLast region → region.parts ≡ 1
  one_part region h = omega (arith, h.some, h.small)

  -- the first of some regions, by whether it has this part
  first_by : (region : Region) (regions : List Region) (b : Bool) → IsLast region → (region.first == i) ≡ b
      → in_part (elements_in (region ∷ regions)) ≡ cond b (length region.elements) 0 + in_part (elements_in regions)
  first_by region regions b last e =
      count-first (λ g. part g == i) region regions
      ∙ ap (λ n. n + in_part (elements_in regions))
      (count_const part i region.first region.elements last.told ∙ ap (λ t. cond t (length region.elements) 0) e)

  nothing_above : (low high : ℕ) (regions : List Region) → i < low → AllByRecursion IsLast regions → AreConsecutive low high regions
      → in_part (elements_in regions) ≡ 0
  nothing_above low high [] h all are = refl
  nothing_above low high (region ∷ regions) h all are =
      first_by region regions false all.0 (is_over region.first i (omega (arith, h, are.0)))
      ∙ omega (arith, nothing_above (low + region.parts) high regions (omega (arith, h)) all.1 are.1)

  counted : (low high : ℕ) (regions : List Region) → low ≤ i → i < high → AllByRecursion IsLast regions
      → AllByRecursion (HasShares share) regions
      → AreConsecutive low high regions → in_part (elements_in regions) ≡ share i
  counted low high [] l m all has are = absurd (omega (arith, l, m, are))
  counted low high (region ∷ regions) l m all has are =
      let single = one_part region all.0 in
      elim (cases_lt low i) [
        | inl less ↦
            let none : 0 + in_part (elements_in regions) ≡ in_part (elements_in regions) = omega arith in
            first_by region regions false all.0 (is_under region.first i (omega (arith, less, are.0)))
            ∙ none
            ∙ counted (low + region.parts) high regions (omega (arith, less, single)) m all.1 has.1 are.1
        | inr under ↦
            let here : region.first ≡ i = omega (arith, under, l, are.0) in
            let plain : length region.elements + 0 ≡ length region.elements = omega arith in
            let same : region.first + 0 ≡ i = omega (arith, here) in
            first_by region regions true all.0 (is_it region.first i here)
            ∙ ap (λ n. length region.elements + n)
            (nothing_above (low + region.parts) high regions (omega (arith, under, single, l)) all.1 are.1)
            ∙ plain
            ∙ sym (all_of_one (length region.elements))
            ∙ ap (λ p. share_of (length region.elements) p 0) (sym single)
            ∙ has.0 0 (omega (arith, single))
            ∙ ap share same
      ]

-- ---- what the law function says

-- each part of the map has its share: the first `count % parts` parts one element more than the others
abbrev pub PartsHaveShares : Type 0
PartsHaveShares =
    (axes : Axes) (parts count i : ℕ) → AreSigned axes → count ≤ 2 ^ 20 → 1 ≤ parts → parts ≤ 64 → parts ≤ count → i < parts
    → count_by (λ a. a == i) (map_of axes parts count) ≡ share_of count parts i

pub parts_have_shares : PartsHaveShares
parts_have_shares axes parts count i signed few some most enough within =
    let part = part_of axes (whole parts count) in
    let depth = levels_of parts in
    let small = levels_are_enough parts some most in
    let none : depth - depth ≡ 0 = omega arith in
    let regions = regions_at axes parts count depth in
    count_by-map part (λ a. a == i) (up_to count)
    ∙ sym (regions_cover axes parts count depth (λ g. part g == i))
    ∙ counted axes count (share_of count parts) part i 0 parts regions (omega arith) within
    (subst (λ d. AllByRecursion (IsSound axes count part d) regions) none
    (sound_at axes count few signed parts depth depth some enough small (omega arith)))
    (shares_at axes count few signed parts depth depth some enough small (omega arith))
    (regions_are_consecutive axes parts count depth)
