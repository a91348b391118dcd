-- A page of a translation table: the places of the elements that it covers.
use Rattle.std.specs.Prelude.{ℕ, ◌+◌, ◌-◌, ◌*◌, ℤ, pos, negsuc, Bool, false, ◌==◌, min, if◌then◌else◌, List, [], ◌∷◌, map, flat_map, sum_by}
use Rattle.std.specs.Prelude.{length, slice_get, unwrap_or, Option, Some, None, nat_lt, nat_le}
use Rattle.std.specs.List.{range_with_len}
use Rattle.chaos_dist.specs.Layout.{divided_up}
use Rattle.chaos_dist.specs.Counting.{below, up_to}
use Rattle.chaos_dist.specs.Owners.{owner_in, local_in, length_in}
use Rattle.fd_words.specs.Lists.{list_at}
use Rattle.fd_words.specs.declared.place.Place.{Place}
use Rattle.chaos_table.specs.declared.pages.Pages.{Pages}

-- ---- the elements of a page

abbrev pub first_on : ℕ → ℕ → ℕ → ℕ
first_on extent nodes page = page * divided_up extent nodes + 1

abbrev pub size_on : ℕ → ℕ → ℕ → ℕ
size_on extent nodes page = min (divided_up extent nodes) (extent - page * divided_up extent nodes)

-- the elements that a page covers, ascending
abbrev pub covered : ℕ → ℕ → ℕ → List ℕ
covered extent nodes page = range_with_len (first_on extent nodes page) (size_on extent nodes page)

-- ---- pairs of an element and its owner

-- two numbers each
abbrev pub pairs_in : List ℤ → List (ℤ × ℤ)
pairs_in [] = []
pairs_in (g ∷ []) = []
pairs_in (g ∷ owner ∷ rest) = (g, owner) ∷ pairs_in rest

abbrev pub all_pairs : List (List ℤ) → List (ℤ × ℤ)
all_pairs lists = flat_map pairs_in lists

-- the node that a number names, if it names one
abbrev pub node_named : ℕ → ℤ → Option ℕ
node_named nodes (pos owner) = if nat_lt owner nodes then Some owner else None
node_named nodes (negsuc owner) = None

-- the number is that of element g
abbrev pub is_element : ℤ → ℕ → Bool
is_element (pos n) g = n == g
is_element (negsuc n) g = false

-- the owner of element g once a pair is taken: the pair's, if it is of g and names a node
abbrev pub after_pair : ℕ → ℕ → ℕ → ℤ × ℤ → ℕ
after_pair nodes g before pair = if is_element pair.0 g then unwrap_or (node_named nodes pair.1) before else before

abbrev pub last_owner : ℕ → ℕ → ℕ → List (ℤ × ℤ) → ℕ
last_owner nodes g before [] = before
last_owner nodes g before (pair ∷ pairs) = last_owner nodes g (after_pair nodes g before pair) pairs

-- the owner of element g: that of its last pair, and node 0 where it has none
abbrev pub owner_by : ℕ → List (ℤ × ℤ) → ℕ → ℕ
owner_by nodes pairs g = last_owner nodes g 0 pairs

-- the owners of a page's elements
abbrev pub owners_on : ℕ → ℕ → ℕ → List (List ℤ) → List ℕ
owners_on extent nodes page pairs = map (owner_by nodes (all_pairs pairs)) (covered extent nodes page)

-- for each node how many of the owners it is
abbrev pub counts_of : ℕ → List ℕ → List ℤ
counts_of nodes owners = map (λ node. pos (length_in owners node)) (below nodes)

-- ---- places

-- the place of element g under a layout
abbrev pub place_in : List ℕ → ℕ → Place
place_in owners g = record { owner = owner_in owners g; local = local_in owners g }

-- a count as it was sent: 0 where it is missing, below 0 or over the extent
abbrev pub sound_count : ℕ → Option ℤ → ℕ
sound_count extent None = 0
sound_count extent (Some (negsuc n)) = 0
sound_count extent (Some (pos n)) = if nat_le n extent then n else 0

-- how many elements of the pages before a node owns
abbrev pub earlier : ℕ → List (List ℤ) → ℕ → ℕ → ℕ
earlier extent counts page node = sum_by (λ before. sound_count extent (slice_get (list_at counts before) node)) (below page)

-- the place of the element at h on the page, from 1: behind those of its owner on the pages before, and on the page
abbrev pub place_on : (ℕ → ℕ) → List ℕ → ℕ → Place
place_on before owners h = record { owner = owner_in owners h; local = before (owner_in owners h) + local_in owners h }

abbrev pub places_of : (ℕ → ℕ) → List ℕ → List Place
places_of before owners = map (place_on before owners) (up_to (length owners))

abbrev pub page_given : ℕ → ℕ → ℕ → List (List ℤ) → List (List ℤ) → Pages
page_given extent nodes page pairs counts = record {
  first = first_on extent nodes page;
  places = places_of (earlier extent counts page) (owners_on extent nodes page pairs);
}

-- the place of element g, if it is on the page
abbrev pub look_in : Pages → ℕ → Option Place
look_in page g = if nat_le page.first g then slice_get page.places (g - page.first) else None
