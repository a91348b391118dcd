-- What the laws of bisection say of the regions of a level, as a node needs it.
use Rattle.std.specs.Prelude.{◌≡◌, ℕ, zero, suc, ◌+◌, ◌-◌, ◌^◌, ◌≤◌, ◌<◌, Bool, true, false, cond, List, [], ◌∷◌, length, filter, nat_lt}
use Rattle.std.specs.List.{range_with_len, AllByRecursion}
use Rattle.std.proofs.Common.{sym, subst, arith}
use Rattle.chaos_dist.specs.Counting.{up_to}
use Rattle.chaos_dist.specs.LayoutLaws.{owner_of-below}
use Rattle.chaos_dist.specs.declared.shape.Shape.TheVariants.{Block}
use Rattle.chaos_cut.specs.Bisection.{Region, levels_of, part_in}
use Rattle.chaos_cut.specs.Cover.{AreConsecutive, regions_are_consecutive}
use Rattle.chaos_cut.specs.Depth.{levels_are_enough}
use Rattle.chaos_cut.specs.KeyLaws.{IsElement}
use Rattle.chaos_cut.specs.Regions.{AreSome, IsSound, regions_are_sound}
use Rattle.chaos_cut.specs.Told.{AreOwned}
use Rattle.bisect_node.specs.CutLaws.{IsCuttable}
use Rattle.bisect_node.specs.ListLaws.{all-filter, all-weaker, length-filter-le}
use Rattle.bisect_node.specs.Plans.{BisectPlan, IsBisectPlan, open_at, owner_by_block, part_in_plan, regions_in}
use Rattle.chaos_cut.specs.Regions.{all_range}

-- ---- lists

-- ---- parts one after another

consecutive-le : (low high : ℕ) (regions : List Region) → AreConsecutive low high regions → low ≤ high
consecutive-le low high [] are = omega (arith, are)
consecutive-le low high (region ∷ regions) are = omega (arith, consecutive-le (low + region.parts) high regions are.1)

consecutive-each : (low high : ℕ) (regions : List Region) → AreConsecutive low high regions
    → AllByRecursion (λ region. region.first + region.parts ≤ high) regions
consecutive-each low high [] are = tt
consecutive-each low high (region ∷ regions) are = (
  omega (arith, are.0, consecutive-le (low + region.parts) high regions are.1),
  consecutive-each (low + region.parts) high regions are.1,
)

consecutive-few : (low high : ℕ) (regions : List Region) → AllByRecursion (λ region. 1 ≤ region.parts) regions
    → AreConsecutive low high regions
    → low + length regions ≤ high
consecutive-few low high [] some are = omega (arith, are)
consecutive-few low high (region ∷ regions) some are =
    omega (arith, some.0, consecutive-few (low + region.parts) high regions some.1 are.1)

-- ---- the regions of a level

-- what holds of each
pub record IsRegion (plan : BisectPlan) (depth : ℕ) (region : Region) : Type 0 where
  pub cuttable : IsCuttable plan region
  pub owned : AreOwned (owner_by_block plan) plan.nodes region.elements
  pub long : length region.elements ≤ plan.count
  pub within : AllByRecursion (λ x. (1 ≤ x) × (x < 1 + plan.count)) region.elements
  pub some : 1 ≤ region.parts
  pub small : region.parts ≤ 2 ^ depth
  pub told : AllByRecursion (λ g. part_in plan.axes depth region g ≡ part_in_plan plan g) region.elements

some-long : (count : ℕ) (elements : List ℕ) → AreSome count elements → length elements ≤ count
some-long count elements are =
    subst (λ l. length l ≤ count) (sym are.1) (omega (arith, length-filter-le are.0 (up_to count), long count 1))
  where
    long : (n a : ℕ) → length (range_with_len a n) ≤ n
    long zero a = omega arith
    long (suc n) a = let rest : length (range_with_len (a + 1) n) ≤ n = long n (a + 1) in omega (arith, rest)

pub within-are : (plan : BisectPlan) → AllByRecursion (λ x. (1 ≤ x) × (x < 1 + plan.count)) (up_to plan.count)
within-are plan = all_range 1 plan.count

module _ (plan : BisectPlan) (h : IsBisectPlan plan) where
  within : (elements : List ℕ) → AreSome plan.count elements → AllByRecursion (λ x. (1 ≤ x) × (x < 1 + plan.count)) elements
  within elements are =
      subst (λ l. AllByRecursion (λ x. (1 ≤ x) × (x < 1 + plan.count)) l) (sym are.1)
      (all-filter (λ x. (1 ≤ x) × (x < 1 + plan.count)) are.0 (up_to plan.count) (all_range 1 plan.count))

  pub elements-are : (elements : List ℕ) → AreSome plan.count elements → AllByRecursion IsElement elements
  elements-are elements are =
      all-weaker (λ x. (1 ≤ x) × (x < 1 + plan.count)) IsElement elements (λ x is. (is.0, omega (arith, is.1, h.few_elements)))
      (within elements are)

  pub owners-are : (elements : List ℕ) → AreSome plan.count elements → AreOwned (owner_by_block plan) plan.nodes elements
  owners-are elements are =
      all-weaker (λ x. (1 ≤ x) × (x < 1 + plan.count)) (λ x. owner_by_block plan x < plan.nodes) elements
      (λ x is. owner_of-below Block plan.count plan.nodes x h.some_nodes (omega (arith, is.1)) is.0) (within elements are)

  both : (depth : ℕ) (regions : List Region)
      → AllByRecursion (IsSound plan.axes plan.count (part_in_plan plan) depth) regions
      → AllByRecursion (λ region. region.first + region.parts ≤ plan.parts) regions → AllByRecursion (IsRegion plan depth) regions
  both depth [] sound each = tt
  both depth (region ∷ regions) sound each = (
    record {
      cuttable = record {
        are = sound.0.are;
        all = elements-are region.elements sound.0.are;
        enough = sound.0.enough;
        first = omega (arith, each.0, h.few_parts);
      };
      owned = owners-are region.elements sound.0.are;
      long = some-long plan.count region.elements sound.0.are;
      within = within region.elements sound.0.are;
      some = sound.0.some;
      small = sound.0.small;
      told = sound.0.told;
    },
    both depth regions sound.1 each.1,
  )

  pub regions-are : (level : ℕ) → level ≤ levels_of plan.parts → AllByRecursion (IsRegion plan (levels_of plan.parts - level))
      (regions_in plan level)
  regions-are level le =
      both (levels_of plan.parts - level) (regions_in plan level)
      (regions_are_sound plan.axes plan.parts plan.count (levels_of plan.parts) level h.signed h.few_elements h.some_parts h.enough
      (levels_are_enough plan.parts h.some_parts h.few_parts) le)
      (consecutive-each 0 plan.parts (regions_in plan level) (regions_are_consecutive plan.axes plan.parts plan.count level))

  -- there are few of them
  pub regions-few : (level : ℕ) → level ≤ levels_of plan.parts → length (open_at plan level) ≤ 64
  regions-few level le =
      let regions = regions_in plan level in
      let some = all-weaker (IsRegion plan (levels_of plan.parts - level)) (λ region. 1 ≤ region.parts) regions (λ region is. is.some)
      (regions-are level le) in
      omega (
        arith,
        length-filter-le (λ (region : Region). nat_lt 1 region.parts) regions,
        consecutive-few 0 plan.parts regions some (regions_are_consecutive plan.axes plan.parts plan.count level),
        h.few_parts,
      )
