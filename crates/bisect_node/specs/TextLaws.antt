-- The rows that each node tells are those of the plan, and what node 0 writes of them is the map.
use Rattle.std.specs.Prelude.{◌≡◌, ℕ, zero, suc, ◌+◌, ◌-◌, ◌/◌, ◌%◌, ◌≤◌, ◌<◌, ◌==◌, pos, Bool, true, false, cond, List, [], ◌∷◌, ◌++◌}
use Rattle.std.specs.Prelude.{length, map, filter, flat_map, Some, slice_get, unwrap_or}
use Rattle.std.specs.List.{range_with_len, AllByRecursion}
use Rattle.std.proofs.Common.{ap, sym, ◌∙◌, subst, arith, refl}
use Rattle.std.proofs.lemmas.Bool.{eqb-true}
use Rattle.std.proofs.lemmas.Bool.Decides.{nat_tests}
use Rattle.std.proofs.lemmas.List.{length-replicate}
use Rattle.std.proofs.lemmas.List.Folds.{flat_map-map}
use Rattle.std.proofs.lemmas.List.Concat.{flat_map-append}
use Rattle.std.proofs.lemmas.Nat.{le-div}
use Rattle.std.proofs.Math.Nat.{div-mul-le_self}
use Rattle.chaos_letter.specs.declared.letter.Letter.{Letter}
use Rattle.chaos_letter.specs.declared.wanted.Wanted.{Wanted}
use Rattle.bsp_desk.specs.Ways.{letter_as, sends}
use Rattle.bsp_desk.specs.declared.way.Way.TheVariants.{ToFirst}
use Rattle.chaos_dist.specs.Buckets.{Ascends, buckets-all}
use Rattle.chaos_dist.specs.Counting.{below, up_to}
use Rattle.chaos_dist.specs.Layout.{divided_up, element_of, length_of, local_of}
use Rattle.chaos_dist.specs.LayoutLaws.{length-elements_of, owner_of-below, place-element_of, width_of-some}
use Rattle.chaos_dist.specs.declared.shape.Shape.TheVariants.{Block}
use Rattle.chaos_cut.specs.Bisection.{Region, levels_of, part_in}
use Rattle.bisect_node.specs.Indexed.{filter_from}
use Rattle.bisect_node.specs.ListLaws.{all-at, all-both, all-kept, get-within}
use Rattle.bisect_node.specs.Plans.{BisectPlan, IsBisectPlan, own_elements, owner_by_block, part_in_plan, part_line, part_rows, regions_in}
use Rattle.bisect_node.specs.Plans.{text_of}
use Rattle.bisect_node.specs.PrintLaws.{ArePieces, IsOwn, parts-are}
use Rattle.bisect_node.specs.Printing.{lines_of, number_line, parts_on, rows_on, text_from}
use Rattle.bisect_node.specs.RegionFacts.{IsRegion, regions-are, within-are}
use Rattle.bisect_node.specs.States.{pieces_of}
use Rattle.bisect_node.specs.Steps.{number_at}

-- ---- lists

flat-below : {A B : Type 0} (f : ℕ → List B) (F : A → List B) (at : ℕ) (xs : List A)
    → ((k : ℕ) (x : A) → slice_get xs k ≡ Some x → f (at + k) ≡ F x) → flat_map f (range_with_len at (length xs)) ≡ flat_map F xs
flat-below f F at [] each = refl
flat-below {A} {B} f F at (x ∷ xs) each =
    let here : at ≡ at + 0 = omega arith in
    ap (λ l. l ++ flat_map f (range_with_len (at + 1) (length xs))) (ap f here ∙ each 0 x refl)
    ∙ ap (λ l. F x ++ l) (flat-below f F (at + 1) xs (λ k y e. let next : at + 1 + k ≡ at + suc k = omega arith in ap f next
    ∙ each (suc k) y e))

flat-flat : {A B C : Type 0} (f : B → List C) (g : A → List B) (xs : List A) → flat_map (λ x. flat_map f (g x)) xs
    ≡ flat_map f (flat_map g xs)
flat-flat f g [] = refl
flat-flat f g (x ∷ xs) = ap (λ l. flat_map f (g x) ++ l) (flat-flat f g xs) ∙ sym (flat_map-append f (g x) (flat_map g xs))

flat-same : {A B : Type 0} (f g : A → List B) (xs : List A) → ((x : A) → f x ≡ g x) → flat_map f xs ≡ flat_map g xs
flat-same f g [] is = refl
flat-same f g (x ∷ xs) is = ap (λ l. l ++ flat_map f xs) (is x) ∙ ap (λ l. g x ++ l) (flat-same f g xs is)

module _ (plan : BisectPlan) (h : IsBisectPlan plan) where
  -- ---- a node's elements

  abbrev IsWithin : ℕ → Type 0
  IsWithin x = (1 ≤ x) × (x < 1 + plan.count)

  some_elements : 1 ≤ plan.count
  some_elements = omega (arith, h.some_parts, h.enough)

  own-by : (p x : ℕ) → (owner_by_block plan x == p) ≡ true → IsWithin x → IsOwn plan p x
  own-by p x e is = record { some = is.0; within = omega (arith, is.1); owner = eqb-true (owner_by_block plan x) p e }

  owns-all : (p : ℕ) → AllByRecursion (IsOwn plan p) (own_elements plan p)
  owns-all p =
      all-kept IsWithin (IsOwn plan p) (λ g. owner_by_block plan g == p) (up_to plan.count) (own-by p) (within-are plan)

  -- ---- what a node tells

  pieces-have : (p : ℕ) (regions : List Region) → AllByRecursion (IsRegion plan 0) regions → ArePieces plan p regions
  pieces-have p [] all = tt
  pieces-have p (region ∷ regions) all = (
    all-kept (λ x. IsWithin x × (part_in plan.axes 0 region x ≡ part_in_plan plan x)) (λ x. IsOwn plan p x
        × (region.first ≡ part_in_plan plan x))
        (λ g. owner_by_block plan g == p) region.elements (λ x e is. (own-by p x e is.0, is.1))
        (all-both IsWithin (λ x. part_in plan.axes 0 region x ≡ part_in_plan plan x) region.elements all.0.within all.0.told),
    pieces-have p regions all.1,
  )

  regions-last : AllByRecursion (IsRegion plan 0) (regions_in plan (levels_of plan.parts))
  regions-last =
      let none : levels_of plan.parts - levels_of plan.parts ≡ 0 = omega arith in
      subst (λ d. AllByRecursion (IsRegion plan d) (regions_in plan (levels_of plan.parts))) none
      (regions-are plan h (levels_of plan.parts) (omega arith))

  pub rows-are : (p : ℕ) → p < plan.nodes
      → rows_on plan.count plan.nodes p (pieces_of plan (levels_of plan.parts) p) ≡ part_rows plan (own_elements plan p)
  rows-are p less =
      let n = plan.nodes in
      let parts = parts_on plan.count n p (pieces_of plan (levels_of plan.parts) p) in
      let of = λ (k : ℕ). pos (element_of Block plan.count n p k) ∷ number_at parts k ∷ [] in
      ap (λ k. flat_map of (below k)) (sym (length-elements_of Block plan.count n p))
      ∙ flat-below of (λ g. pos g ∷ pos (part_in_plan plan g) ∷ []) 0 (own_elements plan p)
      (λ k g e.
      let here : 0 + k ≡ k = omega arith in
      let within : k < length_of Block plan.count n p = omega (
        arith,
        get-within (own_elements plan p) k g e,
        length-elements_of Block plan.count n p,
      ) in
      let element : element_of Block plan.count n p k ≡ g = ap (λ o. unwrap_or o 0) e in
      let width = width_of-some Block plan.count n some_elements h.some_nodes (omega arith) in
      let place : local_of Block plan.count n g ≡ k =
      sym (ap (local_of Block plan.count n) element) ∙ (place-element_of Block plan.count n p k h.some_nodes width less within).1 in
      let right = parts-are plan p g (levels_of plan.parts) (all-at (IsOwn plan p) k g (own_elements plan p) (owns-all p) e)
      (pieces-have p (regions_in plan (levels_of plan.parts)) regions-last) (length-replicate (length_of Block plan.count n p) (pos 0)) in
      ap of here
      ∙ ap (λ j. pos j ∷ number_at parts k ∷ []) element
      ∙ ap (λ z. pos g ∷ z ∷ []) (ap (number_at parts) (sym place) ∙ ap (λ o. unwrap_or o (pos 0)) right))

  -- ---- what node 0 writes

  abbrev odd : ℕ → Bool
  odd k = k % 2 == 1

  odd-no : (k : ℕ) → k % 2 ≡ 0 → odd k ≡ false
  odd-no k e = grind (arith, nat_tests, e)

  odd-yes : (k : ℕ) → k % 2 ≡ 0 → odd (k + 1) ≡ true
  odd-yes k e = let next : (k + 1) % 2 ≡ 1 = omega (arith, e) in grind (arith, nat_tests, next)

  seconds : (at : ℕ) (elements : List ℕ) → at % 2 ≡ 0 → filter_from odd at (part_rows plan elements)
      ≡ map (λ g. pos (part_in_plan plan g)) elements
  seconds at [] even = refl
  seconds at (g ∷ elements) even =
      let rest = filter_from odd (at + 1 + 1) (part_rows plan elements) in
      let second = cond (odd (at + 1)) (pos (part_in_plan plan g) ∷ rest) rest in
      ap (λ b. cond b (pos g ∷ second) second) (odd-no at even)
      ∙ ap (λ b. cond b (pos (part_in_plan plan g) ∷ rest) rest) (odd-yes at even)
      ∙ ap (λ l. pos (part_in_plan plan g) ∷ l) (seconds (at + 1 + 1) elements (omega (arith, even)))

  abbrev line : ℕ → List ℕ
  line g = part_line (part_in_plan plan g)

  lines-are : (elements : List ℕ) → lines_of (part_rows plan elements) ≡ flat_map line elements
  lines-are elements =
      ap (flat_map number_line) (seconds 0 elements refl) ∙ flat_map-map number_line (λ g. pos (part_in_plan plan g)) elements

  passes : (q : ℕ) → 1 ≤ q → sends ToFirst q 0 ≡ true
  passes q some = grind (arith, nat_tests, some)

  senders : (a m : ℕ) → 1 ≤ a → filter (λ q. sends ToFirst q 0) (range_with_len a m) ≡ range_with_len a m
  senders a zero some = refl
  senders a (suc m) some =
      ap (λ b. cond b (a ∷ filter (λ q. sends ToFirst q 0) (range_with_len (a + 1) m))
      (filter (λ q. sends ToFirst q 0) (range_with_len (a + 1) m))) (passes a some)
      ∙ ap (λ l. a ∷ l) (senders (a + 1) m (omega arith))

  all-nodes : {B : Type 0} (f : ℕ → List B) (n : ℕ) → 1 ≤ n → f 0 ++ flat_map f (filter (λ q. sends ToFirst q 0) (below n))
      ≡ flat_map f (below n)
  all-nodes f zero some = absurd (omega (arith, some))
  all-nodes f (suc m) some = ap (λ l. f 0 ++ flat_map f l) (senders 1 m (omega arith))

  width_some : 1 ≤ divided_up plan.count plan.nodes
  width_some = width_of-some Block plan.count plan.nodes some_elements h.some_nodes (omega arith)

  grows : (a : ℕ) → owner_by_block plan a ≤ owner_by_block plan (a + 1)
  grows a =
      let w = divided_up plan.count plan.nodes in
      le-div ((a - 1) / w) (a + 1 - 1) w (omega (arith, width_some)) (omega (arith, div-mul-le_self (a - 1) w))

  ascend : (low a k : ℕ) → 1 ≤ a → low ≤ owner_by_block plan a → a + k ≤ plan.count + 1 → Ascends (owner_by_block plan) low (0 + plan.nodes)
      (range_with_len a k)
  ascend low a zero some up within = tt
  ascend low a (suc k) some up within =
      let less : owner_by_block plan a < plan.nodes
      = owner_of-below Block plan.count plan.nodes a h.some_nodes (omega (arith, within)) some in
      (up, omega (arith, less), ascend (owner_by_block plan a) (a + 1) k (omega arith) (grows a) (omega (arith, within)))

  all-elements : flat_map (own_elements plan) (below plan.nodes) ≡ up_to plan.count
  all-elements = buckets-all (owner_by_block plan) 0 plan.nodes (up_to plan.count) (ascend 0 1 plan.count (omega arith) (omega arith)
      (omega arith))

  pub text-is : (wanted : Wanted)
      → text_from (part_rows plan (own_elements plan 0))
      (map (λ q. letter_as wanted (part_rows plan (own_elements plan q))) (filter (λ q. sends ToFirst q 0) (below plan.nodes)))
      ≡ text_of plan
  text-is wanted =
      let told = λ (q : ℕ). part_rows plan (own_elements plan q) in
      let from = filter (λ q. sends ToFirst q 0) (below plan.nodes) in
      ap (λ l. lines_of (told 0) ++ l) (flat_map-map (λ (letter : Letter). lines_of letter.numbers) (λ q. letter_as wanted (told q)) from)
      ∙ all-nodes (λ q. lines_of (told q)) plan.nodes h.some_nodes
      ∙ flat-same (λ q. lines_of (told q)) (λ q. flat_map line (own_elements plan q)) (below plan.nodes)
      (λ q. lines-are (own_elements plan q))
      ∙ flat-flat line (own_elements plan) (below plan.nodes)
      ∙ ap (flat_map line) all-elements
      ∙ sym (flat_map-map part_line (part_in_plan plan) (up_to plan.count))
