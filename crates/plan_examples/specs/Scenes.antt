-- Worked programs on several nodes, at a step.
use Rattle.std.specs.Prelude.{ℕ, ℤ, pos, List, [], ◌∷◌, map, codes}
use Rattle.chaos_dist.specs.Counting.{up_to}
use Rattle.chaos_dist.specs.declared.shape.Shape.TheVariants.{Cyclic}
use Rattle.chaos_dist.specs.declared.step_form.StepForm.TheVariants.{Regular, Map}
use Rattle.fd_program.specs.Layouts.{Scene, scene_of, owners_at, store_at}
use Rattle.fd_program.specs.Places.{local_for, parts_of}
use Rattle.fd_program.specs.Runs.{run_of}
use Rattle.fd_program.specs.declared.checked.Checked.{Checked}
use Rattle.fd_program.specs.declared.checked.CheckedStatement.TheVariants.{Distribute}
use Rattle.fd_program.specs.declared.loop_facts.HomeRule.TheVariants.{Owner}
use Rattle.fd_program.specs.declared.trace.Step.{Step}
use Rattle.fd_program.specs.declared.trace.Step.TheVariants as step
use Rattle.plan_examples.specs.Programs.{mapping, mapping_data}
use Rattle.plan_examples.specs.Words.{line, layout, output}

-- ---- owners by a map, on four nodes

abbrev pub mapped_scene : Scene
mapped_scene = scene_of mapping 4 Owner (run_of mapping mapping_data)

-- the steps before the loop, the latest first
abbrev pub mapped_past : List Step
mapped_past = step.Distribute 0 (Map 2) ∷ []

-- the local addresses of an array's elements 1 to 4
abbrev pub locals_of : Scene → List Step → ℕ → List ℕ
locals_of s past array = map (λ g. local_for s.checked.arrays (owners_at s past) array (pos g)) (up_to 4)

-- ---- an array of three elements, whose element g stands where element g + 2 of a decomposition of five stands, on two nodes

abbrev pub aligned : Checked
aligned = record {
  arrays = record { name = codes "X"; extent = 3; decomposition = 0; offset = pos 2 } ∷ [];
  layouts = layout (codes "D") 5 ∷ [];
  reads = pos 0 ∷ [];
  outputs = output 0 ∷ [];
  sites = [];
  statements = Distribute (line 7) 0 (Regular Cyclic) ∷ [];
}

abbrev pub aligned_data : List (List ℤ)
aligned_data = (pos 7 ∷ pos 8 ∷ pos 9 ∷ []) ∷ []

abbrev pub aligned_scene : Scene
aligned_scene = scene_of aligned 2 Owner (run_of aligned aligned_data)

abbrev pub moved_past : List Step
moved_past = step.Distribute 0 (Regular Cyclic) ∷ []

-- the local parts of all arrays on a node after these steps
abbrev pub parts_at : Scene → List Step → ℕ → List (List ℤ)
parts_at s past node = parts_of s.checked.arrays (owners_at s past) (store_at s past) node
