-- What a node tells of iterations by itself: without the store, from the values that index references give and the places that it was told.
use Rattle.std.specs.Prelude.{ℕ, ℤ, pos, negsuc, Bool, ◌&&◌, if◌then◌else◌, List, [], ◌∷◌, ◌++◌, map, drop, take, count_by, slice_get}
use Rattle.std.specs.Prelude.{unwrap_or}
use Rattle.std.specs.Int.{w64, cast_signed}
use Rattle.fd_words.specs.Lists.{list_at}
use Rattle.fd_words.specs.declared.place.Place.{Place}
use Rattle.plan_loop.specs.LoopLetters.{is_for}
use Rattle.fd_program.specs.Met.{is_map, layout_for}
use Rattle.plan_loop.specs.declared.loop_phase.Asking.{Asking}
use Rattle.plan_loop.specs.declared.loop_phase.Asking.TheVariants.{Homes}
use Rattle.fd_program.specs.Homes.{home_by}
use Rattle.fd_program.specs.Stores.{number_at}
use Rattle.fd_program.specs.Uses.{gives_index, is_met}
use Rattle.fd_program.specs.declared.loop_facts.LoopFacts.{LoopFacts}
use Rattle.fd_program.specs.declared.loop_use.Use.{Use}
use Rattle.inspect_uses.specs.Reached.{gives_first, known_with, uses_with, place_reached}
use Rattle.chaos_inspect.specs.declared.spot.Spot.{Spot}

-- ---- the references of several iterations

-- where their index references give these values, one after another
abbrev pub uses_through : LoopFacts → List ℤ → List ℤ → List Use
uses_through f [] values = []
uses_through f (i ∷ is) values =
    uses_with f i values ++ uses_through f is (drop (count_by (gives_index f.arrays) (uses_with f i values)) values)

-- where those of their index references that have a plain subscript give these values, and the others give nothing
abbrev pub known_through : LoopFacts → List ℤ → List ℤ → List Use
known_through f [] firsts = []
known_through f (i ∷ is) firsts =
    known_with f i firsts ++ known_through f is (drop (count_by (gives_first f.arrays) (known_with f i firsts)) firsts)

-- the values of both levels, in the order of these index references
abbrev pub woven : List Use → List ℤ → List ℤ → List ℤ
woven [] firsts seconds = []
woven (u ∷ us) firsts seconds =
    if u.plain then number_at firsts 0 ∷ woven us (drop 1 firsts) seconds else number_at seconds 0 ∷ woven us firsts (drop 1 seconds)

-- ---- places

abbrev pub nowhere : Place
nowhere = record { owner = 0; local = 0 }

-- the asking is for the reference, and its array has the element
abbrev pub is_reached : LoopFacts → Asking → Use → Bool
is_reached f asking u = is_for f asking u.number u.role u.plain && is_met f.arrays u

-- and no formula tells its place
abbrev pub is_asked : LoopFacts → Asking → Use → Bool
is_asked f asking u = is_for f asking u.number u.role u.plain && is_met f.arrays u && is_map (layout_for f u.array).form

-- the place by formula, else the first of those told
abbrev pub place_or_told : LoopFacts → List Place → Use → Place
place_or_told f told u = unwrap_or (place_reached f u) (unwrap_or (slice_get told 0) nowhere)

-- where the element stands that a reference reaches
abbrev pub spot_of : LoopFacts → List Place → Use → Spot
spot_of f told u = record { owner = (place_or_told f told u).owner; array = u.array; local = (place_or_told f told u).local }

-- of one reference, if the asking is for it
abbrev pub spots_one : LoopFacts → Asking → List Place → Use → List Spot
spots_one f asking told u = if is_reached f asking u then spot_of f told u ∷ [] else []

-- a place that is asked for is the first of those told
abbrev pub told_behind : LoopFacts → Asking → List Place → Use → List Place
told_behind f asking told u = if is_asked f asking u then drop 1 told else told

-- of several references, one after another
abbrev pub spots_told : LoopFacts → Asking → List Place → List Use → List Spot
spots_told f asking told [] = []
spots_told f asking told (u ∷ us) = spots_one f asking told u ++ spots_told f asking (told_behind f asking told u) us

-- the ask for an index array's element
abbrev pub spot_ask : Spot → List ℤ
spot_ask s = pos s.array ∷ cast_signed w64 s.local ∷ []

-- ---- answers

-- the number of a node's own part of an array, by its number and the local address
abbrev pub piece_value : List (List ℤ) → ℤ → ℤ → ℤ
piece_value pieces (pos array) (pos local) = number_at (list_at pieces array) local
piece_value pieces (pos array) (negsuc local) = pos 0
piece_value pieces (negsuc array) local = pos 0

-- one for each pair of numbers
abbrev pub piece_values : List (List ℤ) → List ℤ → List ℤ
piece_values pieces [] = []
piece_values pieces (array ∷ []) = []
piece_values pieces (array ∷ local ∷ rest) = piece_value pieces array local ∷ piece_values pieces rest

-- ---- homes

-- the home of an iteration with these references
abbrev pub home_told : LoopFacts → List Place → List Use → ℕ
home_told f told uses = home_by f.rule f.nodes (map (λ (s : Spot). s.owner) (spots_told f Homes told uses))

-- an iteration with its home and its row
pub record Homed : Type 0 where
  pub home : ℕ
  pub row : List ℤ

-- with the values of their index references, and the places told of those that tell homes
abbrev pub homed_through : LoopFacts → List ℤ → List ℤ → List Place → List Homed
homed_through f [] values told = []
homed_through f (i ∷ is) values told =
    let count = count_by (gives_index f.arrays) (uses_with f i values) in
    record { home = home_told f told (uses_with f i values); row = i ∷ take count values }
    ∷ homed_through f is (drop count values) (drop (count_by (is_asked f Homes) (uses_with f i values)) told)
