-- Rows as they are read, one after another.
use Rattle.std.specs.Prelude.{◌≡◌, ℤ, true, List, [], ◌∷◌, filter}
use Rattle.std.specs.List.{AllByRecursion}
use Rattle.inspect_enter.specs.Placed.{is_kept}
use Rattle.inspect_uses.specs.Reached.{uses_with}
use Rattle.fd_program.specs.Homes.{uses_at}
use Rattle.fd_program.specs.Uses.{is_met}
use Rattle.fd_program.specs.declared.loop_facts.LoopFacts.{LoopFacts}
use Rattle.fd_program.specs.declared.loop_use.Use.{Use}

-- each reference of these iterations reaches an element
abbrev pub AreMet : LoopFacts → List (List ℤ) → List ℤ → Type 0
AreMet f store iterations = AllByRecursion (λ i. AllByRecursion (λ u. is_met f.arrays u ≡ true) (uses_at f store i)) iterations

-- the iteration of the first row, and its references
abbrev pub first_iteration : List ℤ → List ℤ
first_iteration [] = []
first_iteration (i ∷ values) = i ∷ []

abbrev pub first_uses : LoopFacts → List ℤ → List Use
first_uses f [] = []
first_uses f (i ∷ values) = filter (is_kept f) (uses_with f i values)
