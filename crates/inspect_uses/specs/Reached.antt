-- The references of an iteration as a node evaluates them, from the values that its index references give, and where their elements stand.
use Rattle.std.specs.Prelude.{ℕ, ℤ, Bool, ◌&&◌, List, Option, Some, None}
use Rattle.chaos_dist.specs.Owners.{owner_in, local_in, regular_owners}
use Rattle.chaos_dist.specs.declared.step_form.StepForm.{StepForm}
use Rattle.chaos_dist.specs.declared.step_form.StepForm.TheVariants.{Regular, Map}
use Rattle.fd_words.specs.declared.place.Place.{Place}
use Rattle.fd_program.specs.Homes.{owner_met}
use Rattle.fd_program.specs.Uses.{gives_index, uses_told, uses_known}
use Rattle.fd_program.specs.declared.array.ArrayFacts.{ArrayFacts}
use Rattle.fd_program.specs.declared.loop_facts.LoopFacts.{LoopFacts}
use Rattle.fd_program.specs.declared.loop_use.Use.{Use}
use Rattle.fd_program.specs.Met.{layout_for, local_met, stands_met}

-- the references at iteration i, where its index references give these values
abbrev pub uses_with : LoopFacts → ℤ → List ℤ → List Use
uses_with f i values = uses_told f.arrays f.turn.adds i 0 None f.site.references values

-- and where those of its index references that have a plain subscript give these, and the others give nothing
abbrev pub known_with : LoopFacts → ℤ → List ℤ → List Use
known_with f i firsts = uses_known f.arrays f.turn.adds i 0 None f.site.references firsts

-- an index reference with a plain subscript gives the reference behind it an element
abbrev pub gives_first : List ArrayFacts → Use → Bool
gives_first arrays u = gives_index arrays u && u.plain

-- the place of an element by formula; a map array has none
abbrev pub place_by_form : StepForm → ℕ → ℕ → ℕ → Option Place
place_by_form (Regular shape) extent nodes g =
    Some (record { owner = owner_in (regular_owners shape extent nodes) g; local = local_in (regular_owners shape extent nodes) g })
place_by_form (Map array) extent nodes g = None

-- the place of the element that a reference reaches
abbrev pub place_reached : LoopFacts → Use → Option Place
place_reached f u = place_by_form (layout_for f u.array).form (layout_for f u.array).extent f.nodes (stands_met f u)

-- its place under the whole layout
abbrev pub place_met : LoopFacts → List (List ℕ) → Use → Place
place_met f owners u = record { owner = owner_met f owners u; local = local_met f owners u }
