-- Where the elements stand that references reach, and the layouts of their arrays, at an execution of a FORALL.
use Rattle.std.specs.Prelude.{ℕ, ℤ, Bool, true, false, not, List, filter, slice_get, unwrap_or}
use Rattle.std.specs.List.{flat_map}
use Rattle.fd_words.specs.Roles.{is_index}
use Rattle.chaos_dist.specs.declared.shape.Shape.TheVariants.{Block}
use Rattle.chaos_dist.specs.declared.step_form.StepForm.{StepForm}
use Rattle.chaos_dist.specs.declared.step_form.StepForm.TheVariants.{Regular, Map}
use Rattle.fd_program.specs.Homes.{uses_at}
use Rattle.fd_program.specs.Places.{decomposition_of, stands_at, local_for}
use Rattle.fd_program.specs.declared.loop_facts.Layout.{Layout}
use Rattle.fd_program.specs.declared.loop_facts.LoopFacts.{LoopFacts}
use Rattle.fd_program.specs.declared.loop_use.Use.{Use}

abbrev pub no_layout : Layout
no_layout = record { extent = 0; form = Regular Block }

-- the decomposition of an array, as it is at this execution
abbrev pub layout_for : LoopFacts → ℕ → Layout
layout_for f array = unwrap_or (slice_get f.layouts (decomposition_of f.arrays array)) no_layout

abbrev pub is_map : StepForm → Bool
is_map (Regular shape) = false
is_map (Map array) = true

-- the decomposition of a reference's array, and the element of it that the reference reaches
abbrev pub decomposition_met : LoopFacts → Use → ℕ
decomposition_met f u = decomposition_of f.arrays u.array

abbrev pub stands_met : LoopFacts → Use → ℕ
stands_met f u = stands_at f.arrays u.array u.subscript

abbrev pub local_met : LoopFacts → List (List ℕ) → Use → ℕ
local_met f owners u = local_for f.arrays owners u.array u.subscript

-- the references of some iterations, index references left out
abbrev pub kept_uses : LoopFacts → List (List ℤ) → List ℤ → List Use
kept_uses f store iterations = filter (λ u. not (is_index u.role)) (flat_map (uses_at f store) iterations)
