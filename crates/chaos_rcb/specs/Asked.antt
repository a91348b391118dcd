-- What the words of the program that bisects ask for.
use Rattle.std.specs.Prelude.{ℕ, ◌&&◌, Bool, List, ◌∷◌, length, nat_le, Option, Some, None, if◌then◌else◌, map, string_bytes}
use Rattle.std.specs.List.{list_all}
use Rattle.fd_spell.specs.Spelled.{number_in, is_name}
use Rattle.chaos_rcb.specs.declared.asked.Asked.{Asked}

-- so many parts of so many elements, on so many nodes, with a file of coordinates for each axis
pub record AskedToBisect : Type 0 where
  pub parts : ℕ
  pub count : ℕ
  pub nodes : ℕ
  pub files : List (List ℕ)

-- one to three names of files
abbrev pub are_files : List (List ℕ) → Bool
are_files words = nat_le 1 (length words) && (nat_le (length words) 3 && list_all is_name words)

abbrev pub asked_by : Option ℕ → Option ℕ → Option ℕ → List (List ℕ) → Option AskedToBisect
asked_by (Some parts) (Some count) (Some nodes) words =
    if nat_le parts count && are_files words
    then Some (record { parts = parts; count = count; nodes = nodes; files = words }) else None
asked_by (Some parts) (Some count) None words = None
asked_by (Some parts) None nodes words = None
asked_by None count nodes words = None

-- PARTS COUNT NODES FILE [FILE [FILE]]
abbrev pub asked_to_bisect : List (List ℕ) → Option AskedToBisect
asked_to_bisect (parts ∷ count ∷ nodes ∷ words) = asked_by (number_in 1 64 parts) (number_in 1 1048576 count) (number_in 1 16 nodes) words
asked_to_bisect other = None

abbrev pub shown_asked : Asked → AskedToBisect
shown_asked asked = record { parts = asked.parts; count = asked.count; nodes = asked.nodes; files = map string_bytes asked.files.now }
