-- Writes to one element, joined into one on the node whose iterations make them.
use Rattle.std.specs.Prelude.{ℕ, ℤ, List, [], ◌∷◌, fold, filter_map, Option, Some, None}
use Rattle.fd_program.specs.Homes.{executed_by}
use Rattle.fd_program.specs.LoopLaws.{applied, writes_to}
use Rattle.fd_program.specs.Loops.{Write, writes_in}
use Rattle.fd_program.specs.declared.loop_facts.LoopFacts.{LoopFacts}

-- the first write with another value
abbrev pub with_value : Write → ℤ → Write
with_value w value = record { array = w.array; subscript = w.subscript; operator = w.operator; value = value }

-- the assigned value, or all values combined
abbrev pub joined : List Write → Option Write
joined [] = None
joined (w ∷ ws) = Some (with_value w (fold applied w.value ws))

-- the writes of a node's iterations
abbrev pub writes_by : LoopFacts → List (List ℕ) → List (List ℤ) → ℕ → List Write
writes_by f owners store node = writes_in f.arrays f.site f.turn store (executed_by f owners store node)

-- what a node contributes to an element, if it writes to it
abbrev pub contribution_of : LoopFacts → List (List ℕ) → List (List ℤ) → ℕ → ℕ → ℕ → Option Write
contribution_of f owners store array place node = joined (writes_to array place (writes_by f owners store node))

-- what some nodes contribute to an element, in the order of the nodes
abbrev pub contributions_of : LoopFacts → List (List ℕ) → List (List ℤ) → ℕ → ℕ → List ℕ → List Write
contributions_of f owners store array place nodes = filter_map (contribution_of f owners store array place) nodes
