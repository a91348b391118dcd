-- The plan of a job.
use Rattle.std.specs.Prelude.{◌≡◌, refl, ℤ, ◌≤◌, List, length}
use Rattle.std.proofs.Common.{subst}
use Rattle.std.specs.List.{All}
use Rattle.chaos_cut.specs.Regions.{AreSigned}
use Rattle.bisect_node.specs.Plans.{BisectPlan, IsBisectPlan, IsOfJob}
use Rattle.bisect_node.specs.declared.job.Job.{Job}

-- with these coordinates, a list for each axis
abbrev pub plan_of : Job → List (List ℤ) → BisectPlan
plan_of job columns = record { parts = job.parts; count = job.count; nodes = job.nodes; axes = columns }

pub is_plan : (job : Job) (columns : List (List ℤ)) → job.axes ≡ length columns → All (λ column. length column ≡ job.count) columns
    → AreSigned columns → IsBisectPlan (plan_of job columns)
is_plan job columns axes each signed = record {
  some_parts = job.some_parts;
  few_parts = job.few_parts;
  enough = job.enough;
  few_elements = job.few_elements;
  some_nodes = job.some_nodes;
  few_nodes = job.few_nodes;
  some_axes = subst (λ n. 1 ≤ n) axes job.some_axes;
  few_axes = subst (λ n. n ≤ 3) axes job.few_axes;
  each = each;
  signed = signed;
}

pub is_of_job : (job : Job) (columns : List (List ℤ)) → job.axes ≡ length columns → IsOfJob job (plan_of job columns)
is_of_job job columns axes = record { parts = refl; count = refl; nodes = refl; axes = axes }
