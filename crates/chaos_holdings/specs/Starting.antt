-- What a node has at its start: every decomposition is in blocks.
use Rattle.std.specs.Prelude.{◌≡◌, ℕ, ℤ, pos, List, length, map, replicate, Option, None}
use Rattle.chaos_dist.specs.Owners.{elements_on, regular_owners}
use Rattle.chaos_dist.specs.declared.shape.Shape.TheVariants.{Block}
use Rattle.fd_program.specs.declared.array.LayoutName.{LayoutName}
use Rattle.plan_tables.specs.Tables.{no_table}
use Rattle.chaos_records.specs.Keeping.{no_records}
use Rattle.chaos_table.specs.declared.pages.Pages.{Pages}
use Rattle.chaos_holdings.specs.Keeping.{no_kept}
use Rattle.chaos_holdings.specs.declared.holdings.Holdings.{Holdings}
use Rattle.chaos_holdings.specs.declared.session.Session.{Session}

-- for each decomposition the owners of its elements
abbrev pub block_owners : ℕ → List LayoutName → List (List ℕ)
block_owners nodes layouts = map (λ (l : LayoutName). regular_owners Block l.extent nodes) layouts

-- for each decomposition its elements on a node
abbrev pub block_elements : ℕ → List LayoutName → ℕ → List (List ℤ)
block_elements nodes layouts node = map (λ (l : LayoutName). map pos (elements_on (regular_owners Block l.extent nodes) node)) layouts

abbrev pub no_pages : ℕ → List (Option Pages)
no_pages layouts = replicate layouts None

-- the parts are given, and nothing was moved, inspected or executed
pub record HoldsFirst (s : Session) (p : ℕ) (own : List (List ℤ)) (h : Holdings) : Type 0 where
  pub elements : h.elements ≡ block_elements s.nodes s.checked.layouts p
  pub parts : h.parts ≡ own
  pub records : h.records ≡ no_records (length s.checked.arrays) (length s.checked.layouts)
  pub pages : h.pages ≡ no_pages (length s.checked.layouts)
  pub kept : h.kept ≡ replicate (length s.checked.sites) no_kept
  pub tables : h.tables ≡ replicate (length s.checked.layouts) no_table
