-- Asking all pages, and putting the answers together.
use Rattle.std.specs.Prelude.{◌≡◌, ℕ, ◌≤◌, ◌<◌, ℤ, List, length, map, unsigned_abs, All}
use Rattle.chaos_dist.specs.Counting.{below}
use Rattle.fd_words.specs.Lists.{list_at}
use Rattle.fd_words.specs.declared.place.Place.{Place}
use Rattle.chaos_table.specs.declared.pages.Pages.{Pages}
use Rattle.chaos_table.specs.Pages.{owners_on, counts_of, page_given, place_in}
use Rattle.chaos_table.specs.Laws.{IsCovered}
use Rattle.chaos_deref.specs.Asking.{IsElement, page_for, asks_for, place_looked_up, answers_to, joined}

-- a place that a list of numbers can hold
abbrev pub IsSent : Place → Type 0
IsSent place = (place.owner < 4294967296) × (place.local < 9223372036854775808)

-- what the pages answer to their asks
abbrev pub all_answers : ℕ → ℕ → (ℕ → Pages) → List ℤ → List (List ℤ)
all_answers extent nodes pages wanted = map (λ p. answers_to (pages p) (list_at (asks_for extent nodes wanted) p)) (below nodes)

-- it gives each wanted element's place on its page, in the order of asking
abbrev pub AskingGivesPlaces : Type 0
AskingGivesPlaces = (extent nodes : ℕ) (pages : ℕ → Pages) (wanted : List ℤ) → All (λ v. page_for extent nodes v < nodes) wanted
    → All (λ v. IsSent (place_looked_up (pages (page_for extent nodes v)) v)) wanted
    → joined extent nodes wanted (all_answers extent nodes pages wanted)
    ≡ map (λ v. place_looked_up (pages (page_for extent nodes v)) v) wanted

-- ---- all pages of a layout

-- a layout spread over its pages: the pairs of each page cover it once, and the counts are those of the pages
pub record IsSpread (nodes : ℕ) (owners : List ℕ) (pairs : ℕ → List (List ℤ)) (counts : List (List ℤ)) : Type 0 where
  pub some : 1 ≤ nodes
  pub few : nodes ≤ 4294967296
  pub short : length owners ≤ 4294967296
  pub covered : (page : ℕ) → page < nodes → IsCovered nodes page owners (pairs page)
  pub counted : (page : ℕ) → page < nodes → list_at counts page ≡ counts_of nodes (owners_on (length owners) nodes page (pairs page))

-- then asking gives each wanted element's place under the layout
abbrev pub AskingGivesLayout : Type 0
AskingGivesLayout = (nodes : ℕ) (owners : List ℕ) (pairs : ℕ → List (List ℤ)) (counts : List (List ℤ)) (wanted : List ℤ)
    → IsSpread nodes owners pairs counts
    → All (IsElement (length owners)) wanted
    → joined (length owners) nodes wanted (all_answers (length owners) nodes (λ page. page_given (length owners) nodes page
    (pairs page) counts) wanted)
    ≡ map (λ v. place_in owners (unsigned_abs v)) wanted
