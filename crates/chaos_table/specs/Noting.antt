-- Pairs that are noted in a list of owners, one after another.
use Rattle.std.specs.Prelude.{ℕ, ◌-◌, ℤ, pos, negsuc, if◌then◌else◌, List, [], ◌∷◌, slice_set, Option, Some, None, nat_le}
use Rattle.chaos_table.specs.Pages.{node_named}

-- where in a list that begins with element `first` an element stands, or would stand behind its end
abbrev pub place_named : ℕ → ℤ → Option ℕ
place_named first (negsuc g) = None
place_named first (pos g) = if nat_le first g then Some (g - first) else None

abbrev pub set_at : Option ℕ → Option ℕ → List ℕ → List ℕ
set_at None owner owners = owners
set_at (Some at) None owners = owners
set_at (Some at) (Some owner) owners = slice_set owners at owner

abbrev pub noted : ℕ → ℕ → ℤ × ℤ → List ℕ → List ℕ
noted first nodes pair owners = set_at (place_named first pair.0) (node_named nodes pair.1) owners

abbrev pub noted_all : ℕ → ℕ → List (ℤ × ℤ) → List ℕ → List ℕ
noted_all first nodes [] owners = owners
noted_all first nodes (pair ∷ pairs) owners = noted_all first nodes pairs (noted first nodes pair owners)
