-- What a page holds.
use Rattle.std.specs.Prelude.{◌≡◌, ℕ, ◌+◌, ◌-◌, ◌≤◌, ◌<◌, ◌==◌, ◌⊎◌, ℤ, pos, List, [], ◌∷◌, length, filter, take, count_by, Some, None, All}
use Rattle.chaos_dist.specs.Owners.{owner_in, local_in, page_of, page_owners}
use Rattle.fd_words.specs.Lists.{list_at}
use Rattle.chaos_table.specs.Pages.{first_on, size_on, is_element, all_pairs, owner_by, owners_on, counts_of, earlier, page_given, look_in}

-- an element of the page stands behind the smaller ones with its owner: those of the pages before, and of the page
abbrev pub LookTells : Type 0
LookTells = (extent nodes page : ℕ) (pairs counts : List (List ℤ)) (g : ℕ) → first_on extent nodes page ≤ g
    → g < first_on extent nodes page + size_on extent nodes page
    → look_in (page_given extent nodes page pairs counts) g ≡ Some (record {
      owner = owner_by nodes (all_pairs pairs) g;
      local = earlier extent counts page (owner_by nodes (all_pairs pairs) g)
          + count_by (λ o. o == owner_by nodes (all_pairs pairs) g)
          (take (g - first_on extent nodes page) (owners_on extent nodes page pairs));
    })

-- of any other element the page tells nothing
abbrev pub LookTellsNone : Type 0
LookTellsNone = (extent nodes page : ℕ) (pairs counts : List (List ℤ)) (g : ℕ) → (g < first_on extent nodes page)
    ⊎ (first_on extent nodes page + size_on extent nodes page ≤ g)
    → look_in (page_given extent nodes page pairs counts) g ≡ None

-- each element of the page has one pair, which names its owner
abbrev pub CoversOnce : ℕ → ℕ → List ℕ → List (List ℤ) → Type 0
CoversOnce nodes page owners pairs = (g : ℕ) → 1 ≤ g → g ≤ length owners → page_of (length owners) nodes g ≡ page
    → filter (λ pair. is_element pair.0 g) (all_pairs pairs) ≡ (pos g, pos (owner_in owners g)) ∷ []

-- the counts of each page before are those of its elements' owners
abbrev pub CountsBefore : ℕ → ℕ → List ℕ → List (List ℤ) → Type 0
CountsBefore nodes page owners counts = (before : ℕ) → before < page
    → list_at counts before ≡ counts_of nodes (page_owners nodes before owners)

-- a layout, and the pairs of one page
pub record IsCovered (nodes page : ℕ) (owners : List ℕ) (pairs : List (List ℤ)) : Type 0 where
  pub some : 1 ≤ nodes
  pub elements : 1 ≤ length owners
  pub below : All (λ o. o < nodes) owners
  pub once : CoversOnce nodes page owners pairs

-- then the page's counts are the layout's
abbrev pub CountsAreOfLayout : Type 0
CountsAreOfLayout = (nodes page : ℕ) (owners : List ℕ) (pairs : List (List ℤ)) → IsCovered nodes page owners pairs
    → counts_of nodes (owners_on (length owners) nodes page pairs) ≡ counts_of nodes (page_owners nodes page owners)

-- and where the pages before have theirs, the page tells the layout's places
abbrev pub PageIsOfLayout : Type 0
PageIsOfLayout = (nodes page : ℕ) (owners : List ℕ) (pairs counts : List (List ℤ)) → IsCovered nodes page owners pairs
    → CountsBefore nodes page owners counts
    → (g : ℕ) → 1 ≤ g → g ≤ length owners → page_of (length owners) nodes g ≡ page
    → look_in (page_given (length owners) nodes page pairs counts) g
    ≡ Some (record { owner = owner_in owners g; local = local_in owners g })
