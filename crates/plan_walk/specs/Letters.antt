-- The letters of a phase, by what they name.
use Rattle.std.specs.Prelude.{ℕ, ℤ, if◌then◌else◌, List, ◌∷◌, ◌++◌, take, drop, slice_get, unwrap_or}
use Rattle.chaos_letter.specs.declared.letter.Letter.{Letter}
use Rattle.chaos_letter.specs.declared.wanted.Wanted.{Wanted}
use Rattle.plan_run.specs.Phases.{is_free, kind_of, most_in}
use Rattle.plan_walk.specs.declared.stages.Naming.{Naming}

abbrev pub letter_in : Naming → List ℤ → Letter
letter_in n numbers = record { kind = kind_of n.stage; execution = n.execution; site = n.site; numbers = numbers }

-- what is wanted of a letter with so many numbers
abbrev pub wanted_in : Naming → ℕ → Wanted
wanted_in n count = record {
  kind = kind_of n.stage;
  execution = n.execution;
  site = n.site;
  group = n.group;
  least = if is_free n.stage then 0 else count;
  most = if is_free n.stage then most_in n.stage else count;
}

-- the number at a place, 0 from the end on
abbrev pub number_in : List ℕ → ℕ → ℕ
number_in counts at = unwrap_or (slice_get counts at) 0

abbrev pub numbers_of : Letter → List ℤ
numbers_of letter = letter.numbers

-- the lists of the other nodes by ascending number, with a node's own put in at its place
abbrev pub put_in : ℕ → List ℤ → List (List ℤ) → List (List ℤ)
put_in me own lists = take me lists ++ own ∷ drop me lists
