-- What the definitions say of what a node walks through.
use Rattle.std.specs.Prelude.{ℕ, ℤ, List, map}
use Rattle.std.specs.List.{flat_map}
use Rattle.fd_words.specs.declared.place.Place.{Place}
use Rattle.fd_program.specs.Homes.{executed_by, inspected_by, owner_met}
use Rattle.fd_program.specs.declared.loop_facts.LoopFacts.{LoopFacts}
use Rattle.fd_program.specs.declared.loop_use.Use.{Use}
use Rattle.inspect_places.specs.Laws.{uses_wanted}
use Rattle.plan_loop.specs.LoopLetters.{iteration_row}
use Rattle.fd_program.specs.Met.{local_met}
use Rattle.plan_loop.specs.declared.loop_phase.Asking.{Asking}
use Rattle.inspect_uses.specs.Reached.{place_met}
use Rattle.inspect_uses.specs.KnownLaws.{firsts_at}
use Rattle.inspect_uses.specs.ReachedLaws.{values_at}
use Rattle.chaos_inspect.specs.declared.spot.Spot.{Spot}

-- where the element stands that a reference reaches
abbrev pub spot_met : LoopFacts → List (List ℕ) → Use → Spot
spot_met f owners u = record { owner = owner_met f owners u; array = u.array; local = local_met f owners u }

-- the values that the index references give of the iterations that a node inspects
abbrev pub values_of : LoopFacts → List (List ℤ) → ℕ → List ℤ
values_of f store p = flat_map (values_at f store) (inspected_by f p)

-- and those that the index references with a plain subscript give
abbrev pub firsts_of : LoopFacts → List (List ℤ) → ℕ → List ℤ
firsts_of f store p = flat_map (firsts_at f store) (inspected_by f p)

-- the rows of the iterations whose home a node is
abbrev pub rows_of : LoopFacts → List (List ℕ) → List (List ℤ) → ℕ → List ℤ
rows_of f owners store p = flat_map (iteration_row f store) (executed_by f owners store p)

-- the places that p asks for, by iteration and number
abbrev pub places_asked : LoopFacts → List (List ℕ) → List (List ℤ) → Asking → ℕ → List Place
places_asked f owners store asking p = map (place_met f owners) (uses_wanted f owners store asking p)
