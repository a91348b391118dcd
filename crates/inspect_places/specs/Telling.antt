-- What is asked, told and answered, over lists of pairs of numbers.
use Rattle.std.specs.Prelude.{ℕ, ◌+◌, ℤ, pos, negsuc, List, [], ◌∷◌, map, Option, Some, None}
use Rattle.std.specs.Int.{w64, cast_signed}
use Rattle.std.specs.List.{flat_map}
use Rattle.fd_words.specs.declared.place.Place.{Place}
use Rattle.chaos_deref.specs.Asking.{nowhere, numbers_of, owner_read, local_read, place_looked_up}
use Rattle.chaos_dist.specs.Homes.{natural}
use Rattle.chaos_table.specs.Pages.{pairs_in}
use Rattle.chaos_table.specs.declared.pages.Pages.{Pages}
use Rattle.inspect_places.specs.Asks.{page_at}
use Rattle.inspect_places.specs.Dealing.{draws, drawn_after}
use Rattle.list_laws.specs.Rows.{dealt_onto}

-- ---- asks

-- the page of a wanted element
abbrev pub page_in : ℤ × ℤ → ℕ
page_in pair = natural pair.1

-- the ask for it
abbrev pub ask_row : ℕ → ℤ × ℤ → List ℤ
ask_row d pair = cast_signed w64 d ∷ pair.0 ∷ []

-- the asks for the wanted elements of decompositions d, d + 1 and so on
abbrev pub asks_onto : ℕ → List (List ℤ) → List (List ℤ) → List (List ℤ)
asks_onto d lists [] = lists
asks_onto d lists (wanted ∷ more) = asks_onto (d + 1) (dealt_onto page_in (ask_row d) lists (pairs_in wanted)) more

-- ---- places

-- both numbers of a pair
abbrev pub pair_row : ℤ × ℤ → List ℤ
pair_row pair = pair.0 ∷ pair.1 ∷ []

-- the places of the wanted elements, as the pages tell them
abbrev pub told_of : List (List ℤ) → List ℕ → List ℤ → List ℤ
told_of answers drawn wanted = flat_map pair_row (draws answers drawn (map page_in (pairs_in wanted)))

-- those of each decomposition
abbrev pub told_all : List (List ℤ) → List ℕ → List (List ℤ) → List (List ℤ)
told_all answers drawn [] = []
told_all answers drawn (wanted ∷ more) =
    told_of answers drawn wanted ∷ told_all answers (drawn_after answers drawn (map page_in (pairs_in wanted))) more

-- owner and local address as they were sent
abbrev pub place_told : ℤ × ℤ → Place
place_told pair = record { owner = owner_read (Some pair.0); local = local_read (Some pair.1) }

-- ---- answers

-- the place that a page tells of an element, owner 0 and local address 0 where it tells none
abbrev pub place_on_page : Option Pages → ℤ → Place
place_on_page None g = nowhere
place_on_page (Some page) g = place_looked_up page g

abbrev pub place_asked : List (Option Pages) → ℤ × ℤ → Place
place_asked pages (pos d, g) = place_on_page (page_at pages d) g
place_asked pages (negsuc d, g) = nowhere

abbrev pub answer_row : List (Option Pages) → ℤ × ℤ → List ℤ
answer_row pages pair = numbers_of (place_asked pages pair)

abbrev pub told_by : List (Option Pages) → List ℤ → List ℤ
told_by pages asked = flat_map (answer_row pages) (pairs_in asked)
