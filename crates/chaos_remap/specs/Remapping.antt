-- Which elements go where, and the letters that take them.
use Rattle.std.specs.Prelude.{ℕ, ℤ, pos, negsuc, List, ◌∷◌, Option, Some, None, length, map, slice_get, unwrap_or}
use Rattle.std.specs.List.{flat_map, range_with_len}
use Rattle.fd_words.specs.declared.place.Place.{Place}
use Rattle.list_laws.specs.Dealt.{dealt}

-- the number at a place, 0 outside
abbrev pub number_at : List ℤ → ℕ → ℤ
number_at numbers at = unwrap_or (slice_get numbers at) (pos 0)

abbrev pub number_at_address : List ℤ → ℤ → ℤ
number_at_address numbers (pos at) = number_at numbers at
number_at_address numbers (negsuc at) = pos 0

abbrev pub owner_or_first : Option Place → ℕ
owner_or_first None = 0
owner_or_first (Some place) = place.owner

-- the new owner of the element at an old local address
abbrev pub new_owner : List Place → ℕ → ℕ
new_owner places at = owner_or_first (slice_get places at)

-- list q has the old local addresses of the elements whose new owner is q
abbrev pub planned : ℕ → List Place → List (List ℤ)
planned nodes places = dealt (new_owner places) pos nodes (range_with_len 0 (length places))

-- the row of the element at an old local address: its number and the value of each array
abbrev pub packed_row : List ℤ → List (List ℤ) → ℤ → List ℤ
packed_row mine pieces address = number_at_address mine address ∷ map (λ piece. number_at_address piece address) pieces

abbrev pub packed_rows : List ℤ → List (List ℤ) → List ℤ → List ℤ
packed_rows mine pieces goes = flat_map (packed_row mine pieces) goes
