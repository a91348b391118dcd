-- What each node knows as a phase begins.
use Rattle.std.specs.Prelude.{◌≡◌, ℕ, pos, ◌<◌, ◌==◌, if◌then◌else◌, List, [], length, map}
use Rattle.chaos_cut.specs.Bisection.{Region, cut_axis, cut_size}
use Rattle.chaos_cut.specs.Keys.{found_in, key_in}
use Rattle.bisect_node.specs.Plans.{BisectPlan, IsOfJob, coordinates_of, numbers_at, open_at, owned, regions_in, stage_in, text_of}
use Rattle.bisect_node.specs.Stages.{level_of, phases_of}
use Rattle.bisect_node.specs.declared.cuts.Cut.{Cut}
use Rattle.bisect_node.specs.declared.job.Job.{Job}
use Rattle.bisect_node.specs.declared.pieces.Piece.{Piece}
use Rattle.bisect_node.specs.declared.stage.Stage.{Stage}
use Rattle.bisect_node.specs.declared.stage.Stage.TheVariants.{Spread, Rank, Print}
use Rattle.bisect_node.specs.declared.work.Work.{Work}

-- what a node knows: its job, and its work
pub record BisectState : Type 0 where
  pub job : Job
  pub work : Work

-- what node p has of a region
abbrev pub piece_of : BisectPlan → ℕ → Region → Piece
piece_of plan p region = record {
  first = region.first;
  parts = region.parts;
  size = length region.elements;
  elements = map pos (owned plan p region.elements);
  coordinates = coordinates_of plan.axes (owned plan p region.elements);
}

abbrev pub pieces_of : BisectPlan → ℕ → ℕ → List Piece
pieces_of plan level p = map (piece_of plan p) (regions_in plan level)

-- what it has of a region that is cut, once its axis is known
abbrev pub cut_of : BisectPlan → ℕ → Region → Cut
cut_of plan p region = record {
  goal = cut_size region;
  keys = map (key_in (cut_axis plan.axes region)) (owned plan p region.elements);
}

abbrev pub cuts_in : BisectPlan → ℕ → ℕ → Stage → List Cut
cuts_in plan level p Spread = []
cuts_in plan level p (Rank bits) = map (cut_of plan p) (open_at plan level)
cuts_in plan level p Print = []

abbrev pub found_at : BisectPlan → ℕ → Stage → List ℕ
found_at plan level Spread = []
found_at plan level (Rank bits) = map (λ region. found_in plan.axes region bits) (open_at plan level)
found_at plan level Print = []

-- what it knows as phase t begins, before all phases are over
abbrev pub work_at : BisectPlan → ℕ → ℕ → Work
work_at plan t p = record {
  pieces = pieces_of plan (level_of t) p;
  cuts = cuts_in plan (level_of t) p (stage_in plan t);
  found = found_at plan (level_of t) (stage_in plan t);
  told = numbers_at plan t p;
  text = [];
}

-- what it has written when all phases are over: node 0 the map, the others nothing
abbrev pub text_on : BisectPlan → ℕ → List ℕ
text_on plan p = if p == 0 then text_of plan else []

pub record Holds (plan : BisectPlan) (t p : ℕ) (state : BisectState) : Type 0 where
  pub job : IsOfJob state.job plan
  pub work : t < phases_of plan.parts → state.work ≡ work_at plan t p
  pub text : t ≡ phases_of plan.parts → state.work.text ≡ text_on plan p

abbrev pub bisect_holds : BisectPlan → ℕ → ℕ → BisectState → Type 0
bisect_holds plan t p state = Holds plan t p state
