-- The plan of a bisection over nodes: what each node tells in each phase.
use Rattle.std.specs.Prelude.{◌≡◌, ℕ, ℤ, pos, ◌*◌, ◌^◌, ◌≤◌, nat_lt, List, [], ◌∷◌, ◌++◌, length, map, filter}
use Rattle.std.specs.List.{All, flat_map}
use Rattle.std.specs.Fmt.{signed_decimal}
use Rattle.chaos_letter.specs.declared.wanted.Wanted.{Wanted}
use Rattle.bsp_core.specs.Views.{Face}
use Rattle.bsp_desk.specs.Rounds.{Round}
use Rattle.bsp_desk.specs.Uniform.{rows_of}
use Rattle.bsp_desk.specs.Ways.{letter_as, sends}
use Rattle.chaos_dist.specs.Layout.{elements_of, owner_of}
use Rattle.chaos_dist.specs.declared.shape.Shape.TheVariants.{Block}
use Rattle.chaos_cut.specs.Bisection.{Axes, Region, coordinate, cut_axis, greatest_of, least_of, levels_of, map_of, part_of, regions_at}
use Rattle.chaos_cut.specs.Bisection.{whole}
use Rattle.chaos_cut.specs.Keys.{candidate_in, keys_below}
use Rattle.chaos_cut.specs.Regions.{AreSigned}
use Rattle.chaos_cut.specs.Told.{owned_by}
use Rattle.bisect_node.specs.Stages.{level_of, phases_of, stage_of, wanted_in, way_of}
use Rattle.bisect_node.specs.declared.job.Job.{Job}
use Rattle.bisect_node.specs.declared.stage.Stage.{Stage}
use Rattle.bisect_node.specs.declared.stage.Stage.TheVariants.{Spread, Rank, Print}

-- so many parts of so many elements with these coordinates, on so many nodes
pub record BisectPlan : Type 0 where
  pub parts : ℕ
  pub count : ℕ
  pub nodes : ℕ
  pub axes : Axes

pub record IsBisectPlan (plan : BisectPlan) : Type 0 where
  pub some_parts : 1 ≤ plan.parts
  pub few_parts : plan.parts ≤ 64
  pub enough : plan.parts ≤ plan.count
  pub few_elements : plan.count ≤ 2 ^ 20
  pub some_nodes : 1 ≤ plan.nodes
  pub few_nodes : plan.nodes ≤ 16
  pub some_axes : 1 ≤ length plan.axes
  pub few_axes : length plan.axes ≤ 3
  pub each : All (λ axis. length axis ≡ plan.count) plan.axes
  pub signed : AreSigned plan.axes

-- the plan's numbers are those of the job
pub record IsOfJob (job : Job) (plan : BisectPlan) : Type 0 where
  pub parts : job.parts ≡ plan.parts
  pub count : job.count ≡ plan.count
  pub nodes : job.nodes ≡ plan.nodes
  pub axes : job.axes ≡ length plan.axes

-- ---- elements of nodes

abbrev pub owner_by_block : BisectPlan → ℕ → ℕ
owner_by_block plan g = owner_of Block plan.count plan.nodes g

-- the elements of a node, and those of some elements that it has
abbrev pub own_elements : BisectPlan → ℕ → List ℕ
own_elements plan p = elements_of Block plan.count plan.nodes p

abbrev pub owned : BisectPlan → ℕ → List ℕ → List ℕ
owned plan p elements = owned_by (owner_by_block plan) elements p

-- for each axis the coordinates of these elements
abbrev pub coordinates_of : Axes → List ℕ → List (List ℤ)
coordinates_of axes elements = map (λ axis. map (coordinate axis) elements) axes

-- ---- what is told

abbrev pub regions_in : BisectPlan → ℕ → List Region
regions_in plan level = regions_at plan.axes plan.parts plan.count level

-- the regions that a level cuts
abbrev pub open_at : BisectPlan → ℕ → List Region
open_at plan level = filter (λ region. nat_lt 1 region.parts) (regions_in plan level)

-- the least and the greatest coordinate of some elements on each axis
abbrev pub spread_numbers : Axes → List ℕ → List ℤ
spread_numbers axes elements = flat_map (λ axis. least_of axis elements ∷ greatest_of axis elements ∷ []) axes

-- how many of a node's elements in a region have a key below the candidate, of which so many bits are found
abbrev pub rank_of : BisectPlan → ℕ → ℕ → Region → ℕ
rank_of plan p bits region = keys_below (cut_axis plan.axes region) (owned plan p region.elements) (candidate_in plan.axes region bits)

-- the part of an element
abbrev pub part_in_plan : BisectPlan → ℕ → ℕ
part_in_plan plan g = part_of plan.axes (whole plan.parts plan.count) g

-- elements, each with its part
abbrev pub part_rows : BisectPlan → List ℕ → List ℤ
part_rows plan elements = flat_map (λ g. pos g ∷ pos (part_in_plan plan g) ∷ []) elements

abbrev pub numbers_in : BisectPlan → ℕ → ℕ → Stage → List ℤ
numbers_in plan level p Spread = flat_map (λ region. spread_numbers plan.axes (owned plan p region.elements)) (open_at plan level)
numbers_in plan level p (Rank bits) = map (λ region. pos (rank_of plan p bits region)) (open_at plan level)
numbers_in plan level p Print = part_rows plan (own_elements plan p)

-- how many numbers these are, where that is fixed
abbrev pub count_in_stage : BisectPlan → ℕ → Stage → ℕ
count_in_stage plan level Spread = 2 * length plan.axes * length (open_at plan level)
count_in_stage plan level (Rank bits) = length (open_at plan level)
count_in_stage plan level Print = 0

abbrev pub stage_in : BisectPlan → ℕ → Stage
stage_in plan t = stage_of (levels_of plan.parts) t

-- what node p tells in phase t, and what is wanted of it
abbrev pub numbers_at : BisectPlan → ℕ → ℕ → List ℤ
numbers_at plan t p = numbers_in plan (level_of t) p (stage_in plan t)

abbrev pub wanted_at : BisectPlan → ℕ → Wanted
wanted_at plan t = wanted_in (length plan.axes) (count_in_stage plan (level_of t) (stage_in plan t)) t (stage_in plan t)

abbrev pub round_at : BisectPlan → ℕ → Round
round_at plan t = record {
  letter = λ p q. letter_as (wanted_at plan t) (numbers_at plan t p);
  sent = sends (way_of (stage_in plan t));
  wanted = λ p q. wanted_at plan t;
}

-- the faces of the nodes, phase by phase
abbrev pub bisect_rows : BisectPlan → ℕ → ℕ → Face
bisect_rows plan = rows_of plan.nodes (phases_of plan.parts) (round_at plan)

-- ---- what is written

-- a number of a part, on a line
abbrev pub part_line : ℕ → List ℕ
part_line part = signed_decimal (pos part) ++ 10 ∷ []

abbrev pub text_of : BisectPlan → List ℕ
text_of plan = flat_map part_line (map_of plan.axes plan.parts plan.count)
