-- What an accepted program keeps to, beside being checked, and what follows for its plans.
use Rattle.std.specs.Prelude.{ℕ, ◌*◌, ◌≤◌, length}
use Rattle.std.specs.List.{AllByRecursion}
use Rattle.fd_program.specs.Loops.{iterations_of}
use Rattle.fd_program.specs.Trace.{trace_of, site_at}
use Rattle.fd_program.specs.declared.checked.Checked.{Checked}
use Rattle.fd_program.specs.declared.trace.Step.{Step}
use Rattle.fd_program.specs.declared.trace.Step.TheVariants.{Distribute, Print, Forall}

-- how many iterations, and how many references at each
pub record IsWork (iterations references : ℕ) : Type 0 where
  pub some : 1 ≤ references
  pub most : iterations * references ≤ 16777216

abbrev pub IsStepWithin : Checked → Step → Type 0
IsStepWithin c (Distribute decomposition form) = Unit {0}
IsStepWithin c (Print array) = Unit {0}
IsStepWithin c (Forall site turn) = IsWork (length (iterations_of turn)) (length (site_at c.sites site).references)

-- so many steps, so much work in each, and not too many arrays to write after the run
pub record IsWithin (c : Checked) : Type 0 where
  pub steps : length (trace_of c) ≤ 20000
  pub work : AllByRecursion (IsStepWithin c) (trace_of c)
  pub outputs : length c.outputs ≤ 16777216
