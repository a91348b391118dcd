-- From what all tell of their keys below the candidates each node has one bit more of each key.
use Rattle.std.specs.Prelude.{◌≡◌, ℕ, zero, suc, ◌+◌, ◌-◌, ◌^◌, ◌≤◌, ◌<◌, ℤ, pos, ◌+ℤ◌, Bool, true, false, cond, List, [], ◌∷◌, length, map}
use Rattle.std.specs.Prelude.{fold, nat_lt, Some, slice_get, unwrap_or, min, count_by}
use Rattle.std.specs.Int.{saturate_signed, w64}
use Rattle.std.specs.List.{AllByRecursion}
use Rattle.std.proofs.Common.{ap, sym, ◌∙◌, subst, arith, refl}
use Rattle.std.proofs.lemmas.Bool.{cond_both}
use Rattle.std.proofs.lemmas.Nat.{pow-add}
use Rattle.chaos_letter.specs.declared.wanted.Wanted.{Wanted}
use Rattle.bsp_desk.specs.Ways.{letter_as}
use Rattle.chaos_cut.specs.Bisection.{Region, cut_axis, cut_size}
use Rattle.chaos_cut.specs.Choices.{next_by, tried}
use Rattle.list_laws.specs.Counts.{count_by-map, first_counted}
use Rattle.chaos_cut.specs.Keys.{candidate_in, found_after, found_in, key_in, keys_below, next_found}
use Rattle.chaos_cut.specs.Told.{AreOwned, others, counts_add_up}
use Rattle.bisect_node.specs.ListLaws.{all-at, get-made, told_fold}
use Rattle.bisect_node.specs.Indexed.{map_from-made}
use Rattle.bisect_node.specs.Plans.{BisectPlan, owned, owner_by_block, rank_of}
use Rattle.bisect_node.specs.States.{cut_of}
use Rattle.bisect_node.specs.Steps.{count_under, counted, found_by, found_or_none, number_at, summed}
use Rattle.chaos_dist.specs.Counting.{one_at_most}

-- ---- numbers found are small

doubled : (n : ℕ) → 2 ^ (n + 1) ≡ 2 ^ n + 2 ^ n
doubled n = pow-add 2 n 1 ∙ omega arith

found_small : (f : ℕ → ℕ) (c bits k : ℕ) → k ≤ bits → found_after f c bits k + 2 ^ (bits - k) ≤ 2 ^ bits
found_small f c bits zero within =
    let all : bits - 0 ≡ bits = omega arith in
    subst (λ n. 0 + 2 ^ n ≤ 2 ^ bits) (sym all) (omega arith)
found_small f c bits (suc k) within =
    let before = found_small f c bits k (omega (arith, within)) in
    let one : bits - k ≡ bits - suc k + 1 = omega (arith, within) in
    let half : 2 ^ (bits - k) ≡ 2 ^ (bits - suc k) + 2 ^ (bits - suc k) = ap (λ j. 2 ^ j) one ∙ doubled (bits - suc k) in
    let found = found_after f c bits k in
    let power = 2 ^ (bits - suc k) in
    cond_both (nat_lt (f (found + power)) c) (found + power) found (λ v. v + power ≤ 2 ^ bits)
    (λ e. omega (arith, before, half)) (λ e. omega (arith, before, half))

pub candidate_small : (axes : List (List ℤ)) (region : Region) (k : ℕ) → k ≤ 83 → candidate_in axes region k ≤ 2 ^ 84
candidate_small axes region k within =
    let f = keys_below (cut_axis axes region) region.elements in
    let before = found_small f (cut_size region) 84 k (omega (arith, within)) in
    let one : 84 - k ≡ 83 - k + 1 = omega (arith, within) in
    let half : 2 ^ (84 - k) ≡ 2 ^ (83 - k) + 2 ^ (83 - k) = ap (λ j. 2 ^ j) one ∙ doubled (83 - k) in
    omega (arith, before, half)

tried_is : (found power : ℕ) → found + power ≤ 2 ^ 84 → tried power found ≡ found + power
tried_is found power small = omega (arith, small)

-- ---- sums

fold-grows : (a : ℕ) (xs : List ℕ) → a ≤ fold (λ b x. b + x) a xs
fold-grows a [] = omega arith
fold-grows a (x ∷ xs) = omega (arith, fold-grows (a + x) xs)

abbrev plus_kept : ℤ → ℤ → ℤ
plus_kept a x = saturate_signed w64 (a +ℤ x)

sum_kept : (f : ℕ → ℕ) (a : ℕ) (nodes : List ℕ) → fold (λ b x. b + x) a (map f nodes) < 2 ^ 63
    → fold plus_kept (pos a) (map (λ q. pos (f q)) nodes) ≡ pos (fold (λ b x. b + x) a (map f nodes))
sum_kept f a [] small = refl
sum_kept f a (q ∷ nodes) small =
    let more = fold-grows (a + f q) (map f nodes) in
    let here : min (a + f q) (2 ^ 63 - 1) ≡ a + f q = omega (arith, more, small) in
    ap (λ n. fold plus_kept (pos n) (map (λ r. pos (f r)) nodes)) here ∙ sum_kept f (a + f q) nodes small

counted-most : (test : ℕ → Bool) (elements : List ℕ) → count_by test elements ≤ length elements
counted-most test [] = omega arith
counted-most test (g ∷ elements) = omega (arith, first_counted test g elements, one_at_most (test g), counted-most test elements)

-- ---- one level

module _ (plan : BisectPlan) (p bits : ℕ) (less : p < plan.nodes) (few : bits ≤ 83) (regions : List Region) where
  abbrev told : ℕ → List ℤ
  told q = map (λ region. pos (rank_of plan q bits region)) regions

  abbrev founds : ℕ → List ℕ
  founds k = map (λ region. found_in plan.axes region k) regions

  told-at : (j : ℕ) (region : Region) → slice_get regions j ≡ Some region → (q : ℕ)
      → number_at (told q) j ≡ pos (rank_of plan q bits region)
  told-at j region e q = ap (λ o. unwrap_or o (pos 0)) (get-made (λ region. pos (rank_of plan q bits region)) regions j region e)

  found-at : (k j : ℕ) (region : Region) → slice_get regions j ≡ Some region → found_or_none (founds k) j ≡ found_in plan.axes region k
  found-at k j region e = ap (λ o. unwrap_or o 0) (get-made (λ region. found_in plan.axes region k) regions j region e)

  -- the sum of all is how many of the region's elements have a key below the candidate
  summed-is : (wanted : Wanted) (j : ℕ) (region : Region) → slice_get regions j ≡ Some region
      → AreOwned (owner_by_block plan) plan.nodes region.elements → length region.elements < 2 ^ 63
      → summed (told p) (map (λ q. letter_as wanted (told q)) (others plan.nodes p)) j
      ≡ pos (keys_below (cut_axis plan.axes region) region.elements (candidate_in plan.axes region bits))
  summed-is wanted j region e are small =
      let n = plan.nodes in
      let axis = cut_axis plan.axes region in
      let v = candidate_in plan.axes region bits in
      let all = counts_add_up (owner_by_block plan) (λ g. nat_lt (key_in axis g) v) n p region.elements less are in
      let most = counted-most (λ g. nat_lt (key_in axis g) v) region.elements in
      told_fold plus_kept wanted told (λ q. pos (rank_of plan q bits region)) j p (others n p) (told-at j region e)
      ∙ sum_kept (λ q. rank_of plan q bits region) (rank_of plan p bits region) (others n p) (omega (arith, all, most, small))
      ∙ ap pos all

  -- what is found next of each cut
  pub found-next : (wanted : Wanted) → AllByRecursion (λ region. AreOwned (owner_by_block plan) plan.nodes region.elements
      × (length region.elements < 2 ^ 63)) regions
      → found_by (2 ^ (83 - bits)) (told p) (map (λ q. letter_as wanted (told q)) (others plan.nodes p)) (map (cut_of plan p) regions)
      (founds bits)
      ≡ founds (bits + 1)
  found-next wanted all =
      let got = map (λ q. letter_as wanted (told q)) (others plan.nodes p) in
      map_from-made (λ at cut. next_by (found_or_none (founds bits) at) (2 ^ (83 - bits)) (summed (told p) got at) cut.goal) (cut_of plan p)
      (λ region. found_in plan.axes region (bits + 1)) 0 regions
      (λ j region e.
      let here : 0 + j ≡ j = omega arith in
      let f = keys_below (cut_axis plan.axes region) region.elements in
      let c = cut_size region in
      let found = found_in plan.axes region bits in
      let is = all-at (λ region. AreOwned (owner_by_block plan) plan.nodes region.elements × (length region.elements < 2 ^ 63))
      j region regions
      all e in
      let next : bits + 1 ≡ suc bits = omega arith in
      let power : 83 - bits ≡ 84 - suc bits = omega arith in
      ap (λ at. next_by (found_or_none (founds bits) at) (2 ^ (83 - bits)) (summed (told p) got at) c) here
      ∙ ap (λ z. next_by z (2 ^ (83 - bits)) (summed (told p) got j) c) (found-at bits j region e)
      ∙ ap (λ z. next_by found (2 ^ (83 - bits)) z c) (summed-is wanted j region e is.0 is.1)
      ∙ ap (λ z. cond (nat_lt (f (found + 2 ^ (83 - bits))) c) z found)
      (tried_is found (2 ^ (83 - bits)) (candidate_small plan.axes region bits few))
      ∙ ap (λ k. next_found f c (2 ^ k) found) power
      ∙ sym (ap (λ k. found_in plan.axes region k) next))

-- what a node tells of the candidates
pub counted-is : (plan : BisectPlan) (p bits : ℕ) (regions : List Region) → bits ≤ 83
    → counted (2 ^ (83 - bits)) (map (cut_of plan p) regions) (map (λ region. found_in plan.axes region bits) regions)
    ≡ map (λ region. pos (rank_of plan p bits region)) regions
counted-is plan p bits regions few =
    let found = map (λ region. found_in plan.axes region bits) regions in
    map_from-made (λ at cut. count_under cut.keys (tried (2 ^ (83 - bits)) (found_or_none found at))) (cut_of plan p)
    (λ region. pos (rank_of plan p bits region)) 0 regions
    (λ j region e.
    let here : 0 + j ≡ j = omega arith in
    let axis = cut_axis plan.axes region in
    let keys = map (key_in axis) (owned plan p region.elements) in
    ap (λ at. count_under keys (tried (2 ^ (83 - bits)) (found_or_none found at))) here
    ∙ ap (λ z. count_under keys (tried (2 ^ (83 - bits)) z))
    (ap (λ o. unwrap_or o 0) (get-made (λ region. found_in plan.axes region bits) regions j region e))
    ∙ ap (λ z. count_under keys z) (tried_is (found_in plan.axes region bits) (2 ^ (83 - bits)) (candidate_small plan.axes region bits few))
    ∙ ap pos (count_by-map (key_in axis) (λ key. nat_lt key (candidate_in plan.axes region bits)) (owned plan p region.elements)))
