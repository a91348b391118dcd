-- The references whose places are asked for, in the order in which they are asked, and what is asked of and answered by each page.
use Rattle.std.specs.Prelude.{◌≡◌, ℕ, ◌≤◌, ◌<◌, ◌==◌, true, ℤ, pos, List, [], ◌∷◌, length, map, filter, slice_get, unwrap_or, Option, Some}
use Rattle.std.specs.Prelude.{None, IsSomeAnd}
use Rattle.std.specs.List.{AllByRecursion, flat_map}
use Rattle.fd_words.specs.Lists.{list_at}
use Rattle.chaos_table.specs.Pages.{place_in, look_in}
use Rattle.chaos_dist.specs.Counting.{below}
use Rattle.chaos_dist.specs.Owners.{page_of}
use Rattle.chaos_dist.specs.declared.step_form.StepForm.{StepForm}
use Rattle.chaos_dist.specs.declared.step_form.StepForm.TheVariants.{Regular, Map}
use Rattle.plan_loop.specs.LoopLetters.{page_met, place_answer_of, place_ask_of}
use Rattle.fd_program.specs.Met.{decomposition_met, no_layout, stands_met}
use Rattle.chaos_table.specs.declared.pages.Pages.{Pages}
use Rattle.fd_program.specs.Uses.{is_met}
use Rattle.fd_program.specs.declared.loop_facts.LoopFacts.{LoopFacts}
use Rattle.fd_program.specs.declared.loop_use.Use.{Use}
use Rattle.inspect_places.specs.declared.asked.Asked.{Asked}

-- ---- the order of asking

-- by decomposition, within one as they are given
abbrev pub by_decomposition : LoopFacts → List Use → List Use
by_decomposition f uses = flat_map (λ d. filter (λ u. decomposition_met f u == d) uses) (below (length f.layouts))

-- those whose element's page q keeps, in that order
abbrev pub asked_on : LoopFacts → List Use → ℕ → List Use
asked_on f uses q = filter (λ u. page_met f u == q) (by_decomposition f uses)

-- element and page
abbrev pub wanted_row : LoopFacts → Use → List ℤ
wanted_row f u = pos (stands_met f u) ∷ pos (page_met f u) ∷ []

-- these references, given by iteration and number, are asked for, whatever the forms of their decompositions
pub record IsAsked (f : LoopFacts) (uses : List Use) (asked : Asked) : Type 0 where
  pub few_layouts : length f.layouts ≤ 128
  pub met : AllByRecursion (λ u. is_met f.arrays u ≡ true) uses
  pub decompositions : asked.decompositions ≡ map (decomposition_met f) uses
  pub wanted : asked.wanted ≡ map (λ d. flat_map (wanted_row f) (filter (λ u. decomposition_met f u == d) uses)) (below (length f.layouts))

-- ---- one list of numbers for each node

-- what each page is asked
abbrev pub asks_of : LoopFacts → List Use → List (List ℤ)
asks_of f uses = map (λ q. flat_map (place_ask_of f) (asked_on f uses q)) (below f.nodes)

-- what each page answers
abbrev pub answers_of : LoopFacts → List (List ℕ) → List Use → List (List ℤ)
answers_of f owners uses = map (λ q. flat_map (place_answer_of f owners) (asked_on f uses q)) (below f.nodes)

-- ---- pages

-- the page of node `me` tells the places of the elements that it covers
abbrev pub IsPageOf : ℕ → ℕ → ℕ → List ℕ → Pages → Type 0
IsPageOf nodes me extent owners page =
    (g : ℕ) → 1 ≤ g → g ≤ length owners → page_of extent nodes g ≡ me → look_in page g ≡ Some (place_in owners g)

-- what is asked for only where the form is a map
abbrev pub IsPageFor : StepForm → ℕ → ℕ → ℕ → List ℕ → Option Pages → Type 0
IsPageFor (Regular shape) nodes me extent owners page = Unit {0}
IsPageFor (Map array) nodes me extent owners page = IsSomeAnd page (IsPageOf nodes me extent owners)

-- the page of a decomposition, if there is one
abbrev pub page_at : List (Option Pages) → ℕ → Option Pages
page_at pages d = unwrap_or (slice_get pages d) None

-- there is one of each decomposition whose form is a map
abbrev pub ArePages : LoopFacts → ℕ → List (List ℕ) → List (Option Pages) → Type 0
ArePages f me owners pages =
    (d : ℕ) → d < length f.layouts
    → IsPageFor (unwrap_or (slice_get f.layouts d) no_layout).form f.nodes me (unwrap_or (slice_get f.layouts d) no_layout).extent
    (list_at owners d) (page_at pages d)
