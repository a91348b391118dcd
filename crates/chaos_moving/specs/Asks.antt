-- What is asked of the new pages, and answered.
use Rattle.std.specs.Prelude.{ℕ, ◌+◌, ◌*◌, ◌/◌, ℤ, pos, List, [], ◌∷◌, length, map, flat_map, Option, Some, None}
use Rattle.std.specs.List.{slice_index_or}
use Rattle.chaos_dist.specs.Counting.{below}
use Rattle.chaos_deref.specs.Asking.{answers_to}
use Rattle.chaos_table.specs.declared.pages.Pages.{Pages}

-- each element behind its decomposition
abbrev pub asks_named : ℕ → List ℤ → List ℤ
asks_named d elements = flat_map (λ v. pos d ∷ v ∷ []) elements

-- the elements alone
abbrev pub asked_in : List ℤ → List ℤ
asked_in numbers = map (λ k. slice_index_or numbers (2 * k + 1) (pos 0)) (below (length numbers / 2))

abbrev pub answers_by : Option Pages → List (List ℤ) → List (List ℤ)
answers_by None asked = []
answers_by (Some page) asked = map (answers_to page) asked
