-- At the end each node tells the parts of its elements, and node 0 writes the map.
use Rattle.std.specs.Prelude.{◌≡◌, ◌≢◌, ℕ, zero, suc, ◌+◌, ◌≤◌, ◌<◌, ◌==◌, ◌&&◌, ◌⊎◌, ℤ, pos, Bool, true, false, cond, List, [], ◌∷◌, ◌++◌}
use Rattle.std.specs.Prelude.{length, map, flat_map, nat_le, count_by, replicate, Some, slice_get, slice_set}
use Rattle.std.specs.List.{AllByRecursion}
use Rattle.std.proofs.Common.{ap, sym, ◌∙◌, subst, arith, refl, inl, inr, length-set}
use Rattle.std.proofs.lemmas.Bool.{cases_eq}
use Rattle.std.proofs.lemmas.Bool.Decides.{nat_tests}
use Rattle.std.proofs.lemmas.List.Sums.{sum_by-append}
use Rattle.chaos_dist.specs.Counting.{count_by-up_to, count_up_to-passes}
use Rattle.chaos_dist.specs.Layout.{length_of, local_of}
use Rattle.chaos_dist.specs.LayoutLaws.{local_of-below, same_place}
use Rattle.chaos_dist.specs.declared.shape.Shape.TheVariants.{Block}
use Rattle.chaos_cut.specs.Bisection.{Region}
use Rattle.list_laws.specs.Counts.{count_by-filter, first_counted}
use Rattle.chaos_cut.specs.Cover.{elements_in, count-first, regions_cover}
use Rattle.bisect_node.specs.Plans.{BisectPlan, owned, owner_by_block, part_in_plan, regions_in}
use Rattle.bisect_node.specs.Printing.{marked, marked_all, marked_pieces, parts_on}
use Rattle.bisect_node.specs.States.{piece_of, pieces_of}

-- ---- one place

get-set : {A : Type 0} (xs : List A) (i : ℕ) (x : A) → i < length xs → slice_get (slice_set xs i x) i ≡ Some x
get-set [] i x less = absurd (omega (arith, less))
get-set (y ∷ ys) zero x less = refl
get-set (y ∷ ys) (suc i) x less = get-set ys i x (omega (arith, less))

get-other : {A : Type 0} (xs : List A) (i j : ℕ) (x : A) → i ≢ j → slice_get (slice_set xs i x) j ≡ slice_get xs j
get-other [] i j x apart = refl
get-other (y ∷ ys) zero zero x apart = absurd (apart refl)
get-other (y ∷ ys) zero (suc j) x apart = refl
get-other (y ∷ ys) (suc i) zero x apart = refl
get-other (y ∷ ys) (suc i) (suc j) x apart = get-other ys i j x (λ e. apart (ap suc e))

-- ---- marks

module _ (plan : BisectPlan) (p : ℕ) where
  -- one of the node's elements
  pub record IsOwn (x : ℕ) : Type 0 where
    pub some : 1 ≤ x
    pub within : x ≤ plan.count
    pub owner : owner_by_block plan x ≡ p

  abbrev local : ℕ → ℕ
  local x = local_of Block plan.count plan.nodes x

  -- the part of g stands at its place
  abbrev Right : List ℤ → ℕ → Type 0
  Right parts g = slice_get parts (local g) ≡ Some (pos (part_in_plan plan g))

  abbrev own_count : ℕ
  own_count = length_of Block plan.count plan.nodes p

  marked-is : (part : ℕ) (parts : List ℤ) (x : ℕ) → IsOwn x → marked plan.count plan.nodes part parts (pos x) ≡ slice_set parts (local x)
      (pos part)
  marked-is part parts x own =
      let some = own.some in
      let within = own.within in
      let passes : (nat_le 1 x && nat_le x plan.count) ≡ true = grind (arith, nat_tests, some, within) in
      ap (λ b. cond b (slice_set parts (local x) (pos part)) parts) passes

  local-less : (g : ℕ) → IsOwn g → local g < own_count
  local-less g own = subst (λ q. local g < length_of Block plan.count plan.nodes q) own.owner
      (local_of-below Block plan.count plan.nodes g own.some own.within)

  marks-it : (part : ℕ) (parts : List ℤ) (g : ℕ) → IsOwn g → part ≡ part_in_plan plan g → length parts ≡ own_count
      → Right (marked plan.count plan.nodes part parts (pos g)) g
  marks-it part parts g own is long =
      ap (λ l. slice_get l (local g)) (marked-is part parts g own)
      ∙ get-set parts (local g) (pos part) (omega (arith, long, local-less g own))
      ∙ ap (λ k. Some (pos k)) is

  keeps-it : (part : ℕ) (parts : List ℤ) (x g : ℕ) → IsOwn x → IsOwn g → x ≢ g → Right parts g
      → Right (marked plan.count plan.nodes part parts (pos x)) g
  keeps-it part parts x g is own apart right =
      ap (λ l. slice_get l (local g)) (marked-is part parts x is)
      ∙ get-other parts (local x) (local g) (pos part)
      (λ e. apart (same_place Block plan.count plan.nodes x g is.some own.some (is.owner ∙ sym own.owner) e))
      ∙ right

  marked-long : (part : ℕ) (parts : List ℤ) (x : ℕ) → IsOwn x → length (marked plan.count plan.nodes part parts (pos x)) ≡ length parts
  marked-long part parts x own = ap length (marked-is part parts x own) ∙ length-set parts (local x) (pos part)

  one : (g x : ℕ) (xs : List ℕ) → count_by (λ y. y == g) (x ∷ xs) ≡ cond (x == g) 1 0 + count_by (λ y. y == g) xs
  one g x xs = first_counted (λ y. y == g) x xs

  differs : (x g : ℕ) → x ≢ g → (x == g) ≡ false
  differs x g h = grind (arith, nat_tests)

  skipped : (x g : ℕ) → x ≢ g → ◌≡◌ {A = ℕ} (cond (x == g) 1 0) 0
  skipped x g h = ap {B = ℕ} (λ (b : Bool). cond b 1 0) (differs x g h)

  -- elements that have this part
  abbrev pub HavePart : ℕ → List ℕ → Type 0
  HavePart part elements = AllByRecursion (λ x. IsOwn x × (part ≡ part_in_plan plan x)) elements

  -- the part of g stands there already, or g is to come
  abbrev WillBe : List ℤ → ℕ → List ℕ → Type 0
  WillBe parts g elements = Right parts g ⊎ (0 < count_by (λ y. y == g) elements)

  all-long : (part : ℕ) (elements : List ℕ) (parts : List ℤ) → HavePart part elements
      → length (marked_all plan.count plan.nodes part parts (map pos elements)) ≡ length parts
  all-long part [] parts have = refl
  all-long part (x ∷ elements) parts have =
      all-long part elements (marked plan.count plan.nodes part parts (pos x)) have.1 ∙ marked-long part parts x have.0.0

  marks-all : (part g : ℕ) (elements : List ℕ) (parts : List ℤ) → IsOwn g → HavePart part elements → length parts ≡ own_count
      → WillBe parts g elements → Right (marked_all plan.count plan.nodes part parts (map pos elements)) g
  marks-all part g [] parts own have long (inl right) = right
  marks-all part g [] parts own have long (inr some) = absurd (omega (arith, some))
  marks-all part g (x ∷ elements) parts own have long will =
      let next = marked plan.count plan.nodes part parts (pos x) in
      let same : length next ≡ own_count = marked-long part parts x have.0.0 ∙ long in
      marks-all part g elements next own have.1 same (elim (cases_eq x g) [
        | inl e ↦ inl (subst (λ y. Right (marked plan.count plan.nodes part parts (pos y)) g) (sym e)
            (marks-it part parts g own (have.0.1 ∙ ap (part_in_plan plan) e) long))
        | inr apart ↦ elim will [
          | inl right ↦ inl (keeps-it part parts x g have.0.0 own apart right)
          | inr some ↦ inr (omega (arith, some, one g x elements, skipped x g apart))
        ]
      ])

  -- of regions whose elements have their parts from them
  abbrev pub ArePieces : List Region → Type 0
  ArePieces regions = AllByRecursion (λ region. HavePart region.first (owned plan p region.elements)) regions

  abbrev all_owned : List Region → List ℕ
  all_owned regions = flat_map (λ region. owned plan p region.elements) regions

  marks-pieces : (g : ℕ) (regions : List Region) (parts : List ℤ) → IsOwn g → ArePieces regions → length parts ≡ own_count
      → WillBe parts g (all_owned regions) → Right (marked_pieces plan.count plan.nodes parts (map (piece_of plan p) regions)) g
  marks-pieces g [] parts own are long (inl right) = right
  marks-pieces g [] parts own are long (inr some) = absurd (omega (arith, some))
  marks-pieces g (region ∷ regions) parts own are long will =
      let elements = owned plan p region.elements in
      let next = marked_all plan.count plan.nodes region.first parts (map pos elements) in
      let same : length next ≡ own_count = all-long region.first elements parts are.0 ∙ long in
      let sum : count_by (λ y. y == g) (elements ++ all_owned regions) ≡ count_by (λ y. y == g) elements + count_by (λ y. y == g)
      (all_owned regions) =
      sum_by-append (λ y. cond (y == g) 1 0) elements (all_owned regions) in
      let here = λ (w : WillBe parts g elements). marks-all region.first g elements parts own are.0 long w in
      marks-pieces g regions next own are.1 same (elim will [
        | inl right ↦ inl (here (inl right))
        | inr some ↦ elim (cases_eq (count_by (λ y. y == g) elements) 0) [
          | inl none ↦ inr (omega (arith, some, sum, none))
          | inr more ↦ inl (here (inr (omega (arith, more))))
        ]
      ])

  -- ---- each of the node's elements is marked

  owned-count : (g : ℕ) (regions : List Region)
      → count_by (λ y. y == g) (all_owned regions) ≡ count_by (λ x. (owner_by_block plan x == p) && (x == g)) (elements_in regions)
  owned-count g [] = refl
  owned-count g (region ∷ regions) =
      sum_by-append (λ y. cond (y == g) 1 0) (owned plan p region.elements) (all_owned regions)
      ∙ ap (λ n. n + count_by (λ y. y == g) (all_owned regions))
      (count_by-filter (λ x. owner_by_block plan x == p) (λ y. y == g) region.elements)
      ∙ ap (λ n. count_by (λ x. (owner_by_block plan x == p) && (x == g)) region.elements + n) (owned-count g regions)
      ∙ sym (count-first (λ x. (owner_by_block plan x == p) && (x == g)) region regions)

  itself : (n : ℕ) → (n == n) ≡ true
  itself n = grind (arith, nat_tests)

  is-counted : (g level : ℕ) → IsOwn g → 0 < count_by (λ y. y == g) (all_owned (regions_in plan level))
  is-counted g level own =
      let test = λ (x : ℕ). (owner_by_block plan x == p) && (x == g) in
      let passes : test g ≡ true = ap (λ q. (q == p) && (g == g)) own.owner ∙ ap (λ b. b && (g == g)) (itself p) ∙ itself g in
      let more = count_up_to-passes test g plan.count own.some own.within passes in
      omega (
        arith,
        owned-count g (regions_in plan level),
        regions_cover plan.axes plan.parts plan.count level test,
        count_by-up_to test plan.count,
        more,
      )

  pub parts-are : (g level : ℕ) → IsOwn g → ArePieces (regions_in plan level) → (long : length (replicate own_count (pos 0)) ≡ own_count)
      → Right (parts_on plan.count plan.nodes p (pieces_of plan level p)) g
  parts-are g level own are long =
      marks-pieces g (regions_in plan level) (replicate own_count (pos 0)) own are long (inr (is-counted g level own))
