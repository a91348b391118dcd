-- One execution of a FORALL on several nodes: the homes of its iterations, and the elements that nodes need of each other and give
-- each other. `f` has the facts of the loop, `owners` the owners of each decomposition's elements, `store` the values before the loop.
use Rattle.std.specs.Prelude.{ℕ, ℤ, Bool, ◌&&◌, ◌==◌, if◌then◌else◌, List, [], ◌∷◌, map, filter, flat_map, slice_get, unwrap_or, Option}
use Rattle.chaos_dist.specs.Homes.{natural, provisional_of, most_of}
use Rattle.fd_words.specs.declared.place.Offence.{Offence}
use Rattle.fd_words.specs.declared.place.Role.{Role}
use Rattle.fd_program.specs.Cells.{Cell, ascending}
use Rattle.fd_program.specs.Loops.{first_of, iterations_of, offences_in, target_of}
use Rattle.fd_program.specs.Places.{owner_for}
use Rattle.fd_program.specs.Uses.{uses_of, use_at}
use Rattle.fd_words.specs.Roles.{is_read, is_target}
use Rattle.fd_program.specs.declared.body.CheckedBody.{CheckedBody}
use Rattle.fd_program.specs.declared.loop_facts.HomeRule.{HomeRule}
use Rattle.fd_program.specs.declared.loop_facts.HomeRule.TheVariants.{Owner, Most}
use Rattle.fd_program.specs.declared.loop_facts.LoopFacts.{LoopFacts}
use Rattle.fd_program.specs.declared.loop_use.Use.{Use}

abbrev pub uses_at : LoopFacts → List (List ℤ) → ℤ → List Use
uses_at f store i = uses_of f.arrays f.site f.turn store i

-- the node that owns the element that a reference reaches
abbrev pub owner_met : LoopFacts → List (List ℕ) → Use → ℕ
owner_met f owners u = owner_for f.arrays owners u.array u.subscript

-- ---- homes

-- the iteration's provisional home, which inspects it: the range in blocks
abbrev pub provisional_home : LoopFacts → ℤ → ℕ
provisional_home f i = provisional_of f.turn.low f.turn.high f.nodes i

-- the reference number of the first statement's target
abbrev pub first_target : List CheckedBody → ℕ
first_target [] = 0
first_target (s ∷ rest) = target_of s

-- the references that the rule looks at: the first statement's target, or all
abbrev pub looked_at : HomeRule → List CheckedBody → List Use → List Use
looked_at Owner body uses = use_at uses (first_target body) ∷ []
looked_at Most body uses = uses

-- the home, where these nodes own the references that the rule looks at: the first of them, or the lowest that owns most
abbrev pub home_by : HomeRule → ℕ → List ℕ → ℕ
home_by Owner nodes owners = unwrap_or (slice_get owners 0) 0
home_by Most nodes owners = most_of nodes owners

-- the home of an iteration
abbrev pub home_of : LoopFacts → List (List ℕ) → List (List ℤ) → ℤ → ℕ
home_of f owners store i = home_by f.rule f.nodes (map (owner_met f owners) (looked_at f.rule f.site.body (uses_at f store i)))

-- the iterations that a node inspects
abbrev pub inspected_by : LoopFacts → ℕ → List ℤ
inspected_by f node = filter (λ i. provisional_home f i == node) (iterations_of f.turn)

-- the offence that a node finds in them: the least
abbrev pub vote_of : LoopFacts → List (List ℤ) → ℕ → Option Offence
vote_of f store node = first_of (offences_in f.arrays f.site f.turn store (inspected_by f node))

-- the iterations whose home a node is
abbrev pub executed_by : LoopFacts → List (List ℕ) → List (List ℤ) → ℕ → List ℤ
executed_by f owners store node = filter (λ i. home_of f owners store i == node) (iterations_of f.turn)

-- ---- needed and given elements

abbrev pub cell_of : Use → Cell
cell_of u = record { array = u.array; element = natural u.subscript }

-- the elements that q owns and that references with such a role reach at p's iterations, ascending, each once
abbrev pub cells_of : LoopFacts → List (List ℕ) → List (List ℤ) → (Role → Bool) → ℕ → ℕ → List Cell
cells_of f owners store is_wanted p q =
    ascending
    (map cell_of
    (filter (λ u. is_wanted u.role && owner_met f owners u == q)
    (flat_map (uses_at f store) (executed_by f owners store p))))

-- only between two different nodes
abbrev pub between_nodes : ℕ → ℕ → List Cell → List Cell
between_nodes p q cells = if p == q then [] else cells

-- the elements that p reads and q owns
abbrev pub needed_of : LoopFacts → List (List ℕ) → List (List ℤ) → ℕ → ℕ → List Cell
needed_of f owners store p q = between_nodes p q (cells_of f owners store is_read p q)

-- the elements that p assigns or reduces into and q owns
abbrev pub given_of : LoopFacts → List (List ℕ) → List (List ℤ) → ℕ → ℕ → List Cell
given_of f owners store p q = between_nodes p q (cells_of f owners store is_target p q)
