-- Elements asked of the pages that cover them, and the answers.
use Rattle.std.specs.Prelude.{ℕ, ◌+◌, ◌*◌, ℤ, pos, negsuc, ◌≤ℤ◌, ◌==◌, if◌then◌else◌, List, [], ◌∷◌, map, filter, flat_map, length, take}
use Rattle.std.specs.Prelude.{slice_get, count_by, unwrap_or, unsigned_abs, Option, Some, None, nat_lt}
use Rattle.std.specs.List.{slice_index_or}
use Rattle.std.specs.Int.{w64, cast_signed}
use Rattle.chaos_dist.specs.Counting.{below}
use Rattle.chaos_dist.specs.Owners.{page_of}
use Rattle.fd_words.specs.Lists.{list_at}
use Rattle.fd_words.specs.declared.place.Place.{Place}
use Rattle.chaos_table.specs.declared.pages.Pages.{Pages}
use Rattle.chaos_table.specs.Pages.{look_in}

-- the number is that of an element
abbrev pub IsElement : ℕ → ℤ → Type 0
IsElement extent v = (pos 1 ≤ℤ v) × (v ≤ℤ pos extent)

-- the page of the element that a number names
abbrev pub page_for : ℕ → ℕ → ℤ → ℕ
page_for extent nodes v = page_of extent nodes (unsigned_abs v)

-- list p has the wanted elements of page p in order, repeats kept
abbrev pub asks_for : ℕ → ℕ → List ℤ → List (List ℤ)
asks_for extent nodes wanted = map (λ p. filter (λ v. page_for extent nodes v == p) wanted) (below nodes)

-- ---- answers

abbrev pub nowhere : Place
nowhere = record { owner = 0; local = 0 }

-- the place of the element that a number names, owner 0 and local address 0 where it isn't on the page
abbrev pub place_looked_up : Pages → ℤ → Place
place_looked_up page (pos g) = unwrap_or (look_in page g) nowhere
place_looked_up page (negsuc g) = nowhere

abbrev pub numbers_of : Place → List ℤ
numbers_of place = pos place.owner ∷ cast_signed w64 place.local ∷ []

-- owner and local address of each
abbrev pub answers_to : Pages → List ℤ → List ℤ
answers_to page asked = flat_map (λ v. numbers_of (place_looked_up page v)) asked

-- ---- joined

-- an owner and a local address as they were sent: 0 where one is missing or can't be right
abbrev pub owner_read : Option ℤ → ℕ
owner_read None = 0
owner_read (Some (negsuc n)) = 0
owner_read (Some (pos n)) = if nat_lt n 4294967296 then n else 0

abbrev pub local_read : Option ℤ → ℕ
local_read None = 0
local_read (Some (negsuc n)) = 0
local_read (Some (pos n)) = n

-- the answer at a place of a list of answers, from 0
abbrev pub place_read : List ℤ → ℕ → Place
place_read answers rank = record {
  owner = owner_read (slice_get answers (2 * rank));
  local = local_read (slice_get answers (2 * rank + 1));
}

-- the place of the wanted element at k, from 0: behind the answers to those of its page before it
abbrev pub joined_at : ℕ → ℕ → List ℤ → List (List ℤ) → ℕ → Place
joined_at extent nodes wanted answers k =
    let page = page_for extent nodes (slice_index_or wanted k (pos 0)) in
    place_read (list_at answers page) (count_by (λ v. page_for extent nodes v == page) (take k wanted))

abbrev pub joined : ℕ → ℕ → List ℤ → List (List ℤ) → List Place
joined extent nodes wanted answers = map (joined_at extent nodes wanted answers) (below (length wanted))
