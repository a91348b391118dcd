-- Words for the letters of worked programs.
use Rattle.std.specs.Prelude.{ℕ, ℤ, pos, List, [], ◌∷◌, map, codes}
use Rattle.plan_letters.specs.Carried.{needed_at, places_of_cells}
use Rattle.chaos_letter.specs.declared.kind.Kind.{Kind}
use Rattle.chaos_letter.specs.declared.letter.Letter.{Letter}
use Rattle.fd_program.specs.Layouts.{scene_of}
use Rattle.fd_program.specs.Reports.{completed_of}
use Rattle.fd_program.specs.Runs.{run_of}
use Rattle.fd_program.specs.declared.checked.Checked.{Checked}
use Rattle.fd_program.specs.declared.loop_facts.HomeRule.TheVariants.{Owner}
use Rattle.plan_examples.specs.Programs.{first}
use Rattle.plan_examples.specs.Words.{array, layout}

-- a letter of a kind, an execution and a site, with numbers that aren't negative
abbrev pub letter : Kind → ℕ → ℕ → List ℕ → Letter
letter kind execution site numbers = record { kind = kind; execution = execution; site = site; numbers = map pos numbers }

abbrev pub empty : Kind → ℕ → ℕ → Letter
empty kind execution site = letter kind execution site []

-- a program that only writes Y, which has four elements
abbrev pub bare : Checked
bare = record first { arrays = array (codes "Y") 4 0 ∷ []; layouts = layout (codes "Y") 4 ∷ []; sites = []; statements = [] }

-- the arrays and elements that node p needs of q for execution k, by the owner rule
abbrev pub needed_places : Checked → ℕ → List (List ℤ) → ℕ → ℕ → ℕ → List (ℤ × ℤ)
needed_places c nodes store k p q = places_of_cells
    (needed_at (scene_of c nodes Owner (run_of c store)) (completed_of (run_of c store)) k p q)
