-- The parts of all arrays, where some of them are new.
use Rattle.std.specs.Prelude.{ℕ, ◌==◌, ℤ, if◌then◌else◌, List, [], ◌∷◌, drop}
use Rattle.fd_words.specs.Lists.{list_at}
use Rattle.fd_program.specs.declared.array.ArrayFacts.{ArrayFacts}

-- the lists of all arrays, where those of a decomposition's arrays are these, in array order
abbrev pub parts_with : List ArrayFacts → ℕ → List (List ℤ) → List (List ℤ) → List (List ℤ)
parts_with [] d parts pieces = []
parts_with (a ∷ arrays) d parts pieces =
    if a.decomposition == d then list_at pieces 0 ∷ parts_with arrays d (drop 1 parts) (drop 1 pieces) else list_at parts 0
    ∷ parts_with arrays d (drop 1 parts) pieces
