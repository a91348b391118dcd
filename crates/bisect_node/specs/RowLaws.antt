-- The phases of a bisection are rounds: what is told fits what is wanted.
use Rattle.std.specs.Prelude.{◌≡◌, ℕ, pos, ◌*◌, ◌≤◌, List, [], ◌∷◌, length}
use Rattle.std.specs.List.{flat_map}
use Rattle.std.proofs.Common.{◌∙◌, arith, refl}
use Rattle.std.proofs.lemmas.List.{length-append, length-map}
use Rattle.chaos_letter.specs.Fits.{Fits}
use Rattle.bsp_core.specs.Views.{Meets}
use Rattle.bsp_desk.specs.Rounds.{IsRound}
use Rattle.bsp_desk.specs.Uniform.{uniform_meets}
use Rattle.bsp_desk.specs.Ways.{letter_as, not_to_self}
use Rattle.chaos_dist.specs.LayoutLaws.{length-elements_of, length_of-le}
use Rattle.chaos_dist.specs.declared.shape.Shape.TheVariants.{Block}
use Rattle.chaos_cut.specs.Bisection.{Axes, Region}
use Rattle.bisect_node.specs.Plans.{BisectPlan, IsBisectPlan, bisect_rows, count_in_stage, own_elements, numbers_in, open_at, owned}
use Rattle.bisect_node.specs.Plans.{part_rows}
use Rattle.bisect_node.specs.Plans.{rank_of, round_at, spread_numbers, stage_in}
use Rattle.bisect_node.specs.Stages.{level_of, phases_of, wanted_in, way_of}
use Rattle.bisect_node.specs.declared.stage.Stage.{Stage}
use Rattle.bisect_node.specs.declared.stage.Stage.TheVariants.{Spread, Rank, Print}

-- ---- lengths

pub length-spread_numbers : (axes : Axes) (elements : List ℕ) → length (spread_numbers axes elements) ≡ 2 * length axes
length-spread_numbers [] elements = refl
length-spread_numbers (axis ∷ axes) elements = omega (arith, length-spread_numbers axes elements)

pub length-spreads : (axes : Axes) (of : Region → List ℕ) (regions : List Region)
    → length (flat_map (λ region. spread_numbers axes (of region)) regions) ≡ 2 * length axes * length regions
length-spreads axes of [] = omega arith
length-spreads axes of (region ∷ regions) =
    length-append (spread_numbers axes (of region)) (flat_map (λ region. spread_numbers axes (of region)) regions)
    ∙ omega (arith, length-spread_numbers axes (of region), length-spreads axes of regions)

length-part_rows : (plan : BisectPlan) (elements : List ℕ) → length (part_rows plan elements) ≡ 2 * length elements
length-part_rows plan [] = refl
length-part_rows plan (g ∷ elements) = omega (arith, length-part_rows plan elements)

-- ---- rounds

fits_in : (plan : BisectPlan) → IsBisectPlan plan → (level t p : ℕ) (stage : Stage)
    → let wanted = wanted_in (length plan.axes) (count_in_stage plan level stage) t stage in
    Fits wanted (letter_as wanted (numbers_in plan level p stage))
fits_in plan h level t p Spread =
    let e = length-spreads plan.axes (λ region. owned plan p region.elements) (open_at plan level) in
    record {
      kind = refl;
      execution = refl;
      site = refl;
      count = record { groups = (length (open_at plan level), e ∙ omega arith); least = omega (arith, e); most = omega (arith, e) };
    }
fits_in plan h level t p (Rank bits) =
    let e = length-map (open_at plan level) (λ region. pos (rank_of plan p bits region)) in
    record {
      kind = refl;
      execution = refl;
      site = refl;
      count = record { groups = (length (open_at plan level), e ∙ omega arith); least = omega (arith, e); most = omega (arith, e) };
    }
fits_in plan h level t p Print =
    let e = length-part_rows plan (own_elements plan p) in
    let few : length (own_elements plan p) ≤ plan.count = omega (
      arith,
      length-elements_of Block plan.count plan.nodes p,
      length_of-le Block plan.count plan.nodes p,
    ) in
    record {
      kind = refl;
      execution = refl;
      site = refl;
      count = record {
        groups = (length (own_elements plan p), e ∙ omega arith);
        least = omega arith;
        most = omega (arith, e, few, h.few_elements);
      };
    }

pub is_round : (plan : BisectPlan) → IsBisectPlan plan → (t : ℕ) → IsRound plan.nodes (round_at plan t)
is_round plan h t = record {
  self = not_to_self (way_of (stage_in plan t));
  fits = λ p q lp lq sent. fits_in plan h (level_of t) t p (stage_in plan t);
}

pub rows_meet_rounds : (plan : BisectPlan) → IsBisectPlan plan → (t : ℕ) → Meets plan.nodes (bisect_rows plan t)
rows_meet_rounds plan h t = uniform_meets plan.nodes (phases_of plan.parts) (round_at plan) (λ s less. is_round plan h s) t
