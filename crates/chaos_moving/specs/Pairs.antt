-- The pairs of an element of a map array and its new owner, by page.
use Rattle.std.specs.Prelude.{ℕ, ℤ, pos, negsuc, ◌-◌, ◌&&◌, if◌then◌else◌, List, [], ◌∷◌, length, flat_map, Option, Some, None, nat_lt}
use Rattle.std.specs.Prelude.{nat_le}
use Rattle.std.specs.List.{slice_index_or}
use Rattle.fd_words.specs.Lists.{pushed_at}
use Rattle.fd_words.specs.Value.{remainder_of}
use Rattle.chaos_dist.specs.Counting.{below}
use Rattle.chaos_dist.specs.Owners.{page_of}
use Rattle.list_laws.specs.Dealt.{dealt}
use Rattle.fd_program.specs.Stores.{number_at}

-- the array's element that stands at the element that a number names, if there is one
abbrev pub element_within : ℕ → ℕ → ℤ → Option ℕ
element_within extent offset (pos e) = if nat_lt offset e && nat_le (e - offset) extent then Some (e - offset) else None
element_within extent offset (negsuc e) = None

-- its page, with the element and then with its owner
abbrev pub pairs_to_page : ℕ → ℕ → Option ℕ → ℤ → List (ℕ × ℤ)
pairs_to_page extent nodes None value = []
pairs_to_page extent nodes (Some g) value = (page_of extent nodes g, pos g) ∷ (page_of extent nodes g, pos (remainder_of value nodes)) ∷ []

-- each number goes to the end of the list of its page
abbrev pub with_pairs : List (List ℤ) → List (ℕ × ℤ) → List (List ℤ)
with_pairs lists [] = lists
with_pairs lists (pair ∷ rest) = with_pairs (pushed_at lists pair.0 pair.1) rest

-- of the element at a place of the array's part
abbrev pub pairs_at : ℕ → ℕ → ℕ → List ℤ → List ℤ → ℕ → List (ℕ × ℤ)
pairs_at extent nodes offset elements values at =
    pairs_to_page extent nodes (element_within extent offset (slice_index_or elements at (pos 0))) (number_at values at)

abbrev pub map_pairs : ℕ → ℕ → ℕ → List ℤ → List ℤ → List (List ℤ)
map_pairs extent nodes offset elements values =
    dealt (λ (pair : ℕ × ℤ). pair.0) (λ (pair : ℕ × ℤ). pair.1) nodes (flat_map (pairs_at extent nodes offset elements values)
    (below (length elements)))
