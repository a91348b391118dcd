-- The plan of a run, and each node's face as a phase begins.
use Rattle.std.specs.Prelude.{◌≡◌, ℕ, ◌<◌, ◌≤◌, ℤ, true, List, [], ◌∷◌, length, drop}
use Rattle.chaos_letter.specs.Fits.{IsMultiple}
use Rattle.bsp_core.specs.Views.{Face}
use Rattle.fd_program.specs.Checks.{IsChecked}
use Rattle.fd_program.specs.Layouts.{Scene, scene_of}
use Rattle.fd_program.specs.Runs.{Run, run_of}
use Rattle.fd_program.specs.Stores.{FitsStore}
use Rattle.fd_program.specs.declared.checked.Checked.{Checked}
use Rattle.fd_program.specs.declared.loop_facts.HomeRule.{HomeRule}
use Rattle.plan_run.specs.Limits.{IsWithin}
use Rattle.plan_run.specs.Phases.{Phase, phases_of, letter_of, sends_at, takes_at, group_of, is_free, most_in}

-- ---- the plan

-- a checked program, the number of nodes, the rule for homes, and the values before the run
pub record RunPlan : Type 0 where
  pub checked : Checked
  pub nodes : ℕ
  pub rule : HomeRule
  pub store : List (List ℤ)

abbrev pub run_in : RunPlan → Run
run_in plan = run_of plan.checked plan.store

abbrev pub scene_in : RunPlan → Scene
scene_in plan = scene_of plan.checked plan.nodes plan.rule (run_in plan)

abbrev pub phases_in : RunPlan → List Phase
phases_in plan = phases_of plan.checked plan.nodes plan.rule (run_in plan)

-- ---- rows

-- the face of p where these phases are left
abbrev pub face_left : Scene → List Phase → ℕ → Face
face_left s [] p = record { me = p; count = s.nodes; left = 0; out = []; due = []; got = [] }
face_left s (f ∷ rest) p = record { me = p; count = s.nodes; left = f.left; out = sends_at s f p; due = takes_at s f p; got = [] }

abbrev pub node_row : RunPlan → ℕ → ℕ → Face
node_row plan t p = face_left (scene_in plan) (drop t (phases_in plan)) p

-- ---- lengths

-- the letter comes in whole groups, and isn't longer than what is taken
pub record IsMeasured (s : Scene) (f : Phase) (p q : ℕ) : Type 0 where
  pub groups : IsMultiple (group_of s.checked f.step f.stage) (length (letter_of s f p q).numbers)
  pub most : is_free f.stage ≡ true → length (letter_of s f p q).numbers ≤ most_in f.stage

abbrev pub AreMeasured : Scene → List Phase → Type 0
AreMeasured s [] = Unit {0}
AreMeasured s (f ∷ rest) = ((p q : ℕ) → IsMeasured s f p q) × AreMeasured s rest

-- ---- what a plan is

-- one to sixteen nodes, a checked program within its limits, and a store that fits it
pub record IsRunPlan (plan : RunPlan) : Type 0 where
  pub some : 0 < plan.nodes
  pub few : plan.nodes ≤ 16
  pub checked : IsChecked plan.checked
  pub within : IsWithin plan.checked
  pub store : FitsStore plan.checked.arrays plan.store
