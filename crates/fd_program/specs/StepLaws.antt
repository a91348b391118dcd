-- Each step of a checked program is one that it can take.
use Rattle.std.specs.Prelude.{ℕ, zero, suc, ◌-◌, ◌<◌, ℤ, List, [], ◌∷◌, ◌++◌, length}
use Rattle.std.specs.List.{AllByRecursion}
use Rattle.std.proofs.lemmas.List.Elements.{recursion_from_All}
use Rattle.fd_program.specs.Checks.{IsChecked, IsFormOf, IsStatementOf}
use Rattle.fd_program.specs.ListLaws.{all_append, all_flat_map, all_weaker, among_all}
use Rattle.fd_program.specs.Loops.{range_of}
use Rattle.fd_program.specs.Scalars.{scalar_value}
use Rattle.fd_program.specs.Trace.{trace_of, steps_of, steps_of_statement, inside_of}
use Rattle.fd_program.specs.declared.checked.Checked.{Checked}
use Rattle.fd_program.specs.declared.checked.CheckedStatement.{CheckedStatement}
use Rattle.fd_program.specs.declared.checked.CheckedStatement.TheVariants as statement
use Rattle.fd_program.specs.declared.trace.Step.{Step}
use Rattle.fd_program.specs.declared.trace.Step.TheVariants.{Distribute, Print, Forall}

-- a step that the program can take
abbrev pub IsStepIn : Checked → Step → Type 0
IsStepIn c (Distribute d form) = (d < length c.layouts) × IsFormOf c.arrays c.layouts d form
IsStepIn c (Print array) = array < length c.arrays
IsStepIn c (Forall site turn) = site < length c.sites

-- the same, without the number of a decomposition
abbrev pub IsStepOf : Checked → Step → Type 0
IsStepOf c (Distribute d form) = IsFormOf c.arrays c.layouts d form
IsStepOf c (Print array) = array < length c.arrays
IsStepOf c (Forall site turn) = site < length c.sites

abbrev pub StepsAreIn : Type 0
StepsAreIn = (c : Checked) → IsChecked c → AllByRecursion (IsStepIn c) (trace_of c)

pub step_of : (c : Checked) (step : Step) → IsStepIn c step → IsStepOf c step
step_of c (Distribute d form) h = h.1
step_of c (Print array) h = h
step_of c (Forall site turn) h = h

pub steps_of_in : (c : Checked) (steps : List Step) → AllByRecursion (IsStepIn c) steps → AllByRecursion (IsStepOf c) steps
steps_of_in c steps h = all_weaker (IsStepIn c) (IsStepOf c) (step_of c) steps h

statement_steps : (c : Checked) (body : List ℤ → ℕ → List Step)
    → ((variables : List ℤ) (inside : ℕ) → AllByRecursion (IsStepIn c) (body variables inside))
    → (variables : List ℤ) (s : CheckedStatement) → IsStatementOf c s
    → AllByRecursion (IsStepIn c) (steps_of_statement c.sites body variables s)
statement_steps c body known variables (statement.Distribute at d form) h = (h, tt)
statement_steps c body known variables (statement.Print at array) h = (h, tt)
statement_steps c body known variables (statement.Do at low high inside) h =
    let turns = range_of (scalar_value variables low) (scalar_value variables high) in
    all_flat_map (IsStepIn c) (λ k. body (variables ++ k ∷ []) inside) turns
    (among_all (λ k. AllByRecursion (IsStepIn c) (body (variables ++ k ∷ []) inside)) turns (λ k a. known (variables ++ k ∷ []) inside))
statement_steps c body known variables (statement.Forall site) h = (h, tt)

all_steps : (c : Checked) (statements : List CheckedStatement) → AllByRecursion (IsStatementOf c) statements
    → (variables : List ℤ) (skip count : ℕ) → AllByRecursion (IsStepIn c) (steps_of c.sites variables skip count statements)
all_steps c [] known variables skip count = tt
all_steps c (s ∷ rest) known variables (suc skip) count = all_steps c rest known.1 variables skip count
all_steps c (s ∷ rest) known variables zero zero = tt
all_steps c (s ∷ rest) known variables zero (suc count) =
    let behind : List Step = steps_of c.sites variables (inside_of s) (count - inside_of s) rest in
    all_append (IsStepIn c) (steps_of_statement c.sites (λ inner inside. steps_of c.sites inner 0 inside rest) variables s) behind
    (statement_steps c (λ inner inside. steps_of c.sites inner 0 inside rest) (λ inner inside. all_steps c rest known.1 inner 0 inside)
    variables s known.0)
    (all_steps c rest known.1 variables (inside_of s) (count - inside_of s))

pub steps_are_in : StepsAreIn
steps_are_in c known =
    all_steps c c.statements (recursion_from_All (IsStatementOf c) c.statements known.statements) [] 0 (length c.statements)
