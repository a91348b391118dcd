-- The records that are kept are those of the latest executions, and what is begun has the stages of its step.
use Rattle.std.specs.Prelude.{◌≡◌, ℕ, List, Option}
use Rattle.chaos_hash.specs.Stamps.{Stamps}
use Rattle.plan_run.specs.Held.{EachLoop, KeepsLoop}
use Rattle.plan_run.specs.declared.kept.Kept.{Kept}
use Rattle.plan_run.specs.Phases.{stages_of}
use Rattle.fd_program.specs.Layouts.{Scene}
use Rattle.fd_program.specs.declared.trace.Step.{Step}
use Rattle.chaos_begin.specs.Begins.{IsBegun, LatestAreKept, stages_begun}
use Rattle.chaos_begin.specs.declared.begun.Begun.{Begun}

abbrev pub KeptAreLatest : Type 0
KeptAreLatest =
    (s : Scene) (past : List Step) (p : ℕ) (tables : List Stamps) (kept : List (Option Kept))
    → EachLoop s.checked (λ k x. KeepsLoop s past k p tables x) kept → LatestAreKept s.checked past kept

abbrev pub StagesAreBegun : Type 0
StagesAreBegun =
    (s : Scene) (past : List Step) (step : Step) (p : ℕ) (x : Begun) → IsBegun s past step p x
    → stages_of s.checked s.nodes s.rule past step ≡ stages_begun x
