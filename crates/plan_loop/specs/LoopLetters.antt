-- The phases of one execution of a FORALL, and the numbers from node p to node q in each. `f` has the facts of the loop, `owners` the
-- owners of each decomposition's elements, `store` the values before the loop.
use Rattle.std.specs.Prelude.{ℕ, ℤ, pos, Bool, true, false, not, ◌&&◌, ◌==◌, if◌then◌else◌, List, [], ◌∷◌, ◌++◌, length, map, filter}
use Rattle.std.specs.Prelude.{Option, Some, None}
use Rattle.std.specs.List.{flat_map, list_any, enumerate_from}
use Rattle.fd_words.specs.declared.place.Role.{Role}
use Rattle.chaos_dist.specs.Counting.{below}
use Rattle.chaos_dist.specs.Owners.{page_of}
use Rattle.chaos_letter.specs.declared.kind.Kind.{Kind}
use Rattle.chaos_letter.specs.declared.kind.Kind.TheVariants as kind
use Rattle.chaos_vote.specs.Votes.{vote_numbers}
use Rattle.fd_program.specs.Cells.{Cell}
use Rattle.fd_program.specs.Contributions.{contribution_of}
use Rattle.fd_program.specs.Homes.{uses_at, owner_met, first_target, home_of, inspected_by, executed_by, vote_of, needed_of, given_of}
use Rattle.fd_program.specs.Loops.{Write}
use Rattle.fd_program.specs.Met.{decomposition_met, is_map, layout_for, local_met, stands_met}
use Rattle.fd_program.specs.Places.{local_for}
use Rattle.fd_program.specs.Stores.{element, place_of}
use Rattle.fd_program.specs.Uses.{is_met, is_plain, read_of}
use Rattle.fd_words.specs.Roles.{is_index}
use Rattle.fd_program.specs.declared.body.CheckedBody.{CheckedBody}
use Rattle.fd_program.specs.declared.loop_facts.HomeRule.{HomeRule}
use Rattle.fd_program.specs.declared.loop_facts.HomeRule.TheVariants.{Owner, Most}
use Rattle.fd_program.specs.declared.loop_facts.LoopFacts.{LoopFacts}
use Rattle.fd_program.specs.declared.loop_use.Use.{Use}
use Rattle.fd_program.specs.declared.reference.Reference.{Reference}
use Rattle.plan_loop.specs.declared.loop_phase.Asking.{Asking}
use Rattle.plan_loop.specs.declared.loop_phase.Asking.TheVariants.{Indexes, Homes, References}
use Rattle.plan_loop.specs.declared.loop_phase.Level.{Level}
use Rattle.plan_loop.specs.declared.loop_phase.Level.TheVariants.{First, Second}
use Rattle.plan_loop.specs.declared.loop_phase.LoopPhase.{LoopPhase}
use Rattle.plan_loop.specs.declared.loop_phase.LoopPhase.TheVariants.{DerefAsk, DerefAnswer, IndexAsk, IndexValues, Vote, Iterations}
use Rattle.plan_loop.specs.declared.loop_phase.LoopPhase.TheVariants.{ScheduleAsk, Gather, Scatter}

-- ---- phases

abbrev pub kind_in_loop : LoopPhase → Kind
kind_in_loop (DerefAsk asking) = kind.DerefAsk
kind_in_loop (DerefAnswer asking) = kind.DerefAnswer
kind_in_loop (IndexAsk level) = kind.IndexAsk
kind_in_loop (IndexValues level) = kind.IndexValues
kind_in_loop Vote = kind.Vote
kind_in_loop Iterations = kind.Iterations
kind_in_loop ScheduleAsk = kind.ScheduleAsk
kind_in_loop Gather = kind.Gather
kind_in_loop Scatter = kind.Scatter

-- the rule looks at the reference with this number
abbrev pub is_looked_at : HomeRule → List CheckedBody → ℕ → Bool
is_looked_at Owner body number = number == first_target body
is_looked_at Most body number = true

-- an index reference whose subscript is plain, or isn't, is of this level
abbrev pub is_at : Level → Bool → Bool
is_at First plain = plain
is_at Second plain = not plain

-- the asking is for the reference with this number, role and subscript
abbrev pub is_for : LoopFacts → Asking → ℕ → Role → Bool → Bool
is_for f (Indexes level) number role plain = is_index role && is_at level plain
is_for f Homes number role plain = is_looked_at f.rule f.site.body number
is_for f References number role plain = not (is_index role)

-- places are asked for, since one of these references has a map layout
abbrev pub asks_places : LoopFacts → Asking → Bool
asks_places f asking =
    list_any (λ (number, r). is_for f asking number r.role (is_plain r.subscript) && is_map (layout_for f r.array).form)
    (enumerate_from 1 f.site.references)

abbrev pub asking_phases : LoopFacts → Asking → List LoopPhase
asking_phases f asking = if asks_places f asking then DerefAsk asking ∷ DerefAnswer asking ∷ [] else []

-- the loop has index references of this level
abbrev pub has_level : LoopFacts → Level → Bool
has_level f level = list_any (λ (r : Reference). is_index r.role && is_at level (is_plain r.subscript)) f.site.references

abbrev pub fetching_phases : LoopFacts → Level → List LoopPhase
fetching_phases f level = if has_level f level then IndexAsk level ∷ IndexValues level ∷ [] else []

-- a round of fetching the values of index arrays
abbrev pub round_phases : LoopFacts → Level → List LoopPhase
round_phases f level = asking_phases f (Indexes level) ++ fetching_phases f level

-- an inspection up to its vote, and what follows where no node has an offence
abbrev pub phases_to_vote : LoopFacts → List LoopPhase
phases_to_vote f = (round_phases f First ++ round_phases f Second) ++ Vote ∷ []

abbrev pub phases_from_vote : LoopFacts → List LoopPhase
phases_from_vote f = asking_phases f Homes ++ Iterations ∷ [] ++ asking_phases f References ++ ScheduleAsk ∷ []

abbrev pub executor_phases : List LoopPhase
executor_phases = Gather ∷ Scatter ∷ []

-- ---- inspection letters

-- at whose iterations p asks
abbrev pub asking_iterations : LoopFacts → List (List ℕ) → List (List ℤ) → Asking → ℕ → List ℤ
asking_iterations f owners store (Indexes level) p = inspected_by f p
asking_iterations f owners store Homes p = inspected_by f p
asking_iterations f owners store References p = executed_by f owners store p

-- the asking is for this reference, its array has the element, and its decomposition is d, which has a map
abbrev pub is_wanted_in : LoopFacts → Asking → ℕ → Use → Bool
is_wanted_in f asking d u =
    is_for f asking u.number u.role u.plain && is_met f.arrays u && (decomposition_met f u == d) && is_map (layout_for f u.array).form

-- the references whose places p asks for, by decomposition, iteration and number
abbrev pub wanted_of : LoopFacts → List (List ℕ) → List (List ℤ) → Asking → ℕ → List Use
wanted_of f owners store asking p =
    flat_map (λ d. filter (is_wanted_in f asking d) (flat_map (uses_at f store) (asking_iterations f owners store asking p)))
    (below (length f.layouts))

-- the page of the element that a reference reaches
abbrev pub page_met : LoopFacts → Use → ℕ
page_met f u = page_of (layout_for f u.array).extent f.nodes (stands_met f u)

-- those whose element's page q keeps
abbrev pub asked_of : LoopFacts → List (List ℕ) → List (List ℤ) → Asking → ℕ → ℕ → List Use
asked_of f owners store asking p q = filter (λ u. page_met f u == q) (wanted_of f owners store asking p)

-- the index references of p's iterations that reach an element, those of a level, and those of them whose elements q owns
abbrev pub index_uses_of : LoopFacts → List (List ℤ) → ℕ → List Use
index_uses_of f store p = filter (λ u. is_index u.role && is_met f.arrays u) (flat_map (uses_at f store) (inspected_by f p))

abbrev pub indexes_of : LoopFacts → List (List ℤ) → Level → ℕ → List Use
indexes_of f store level p = filter (λ u. is_at level u.plain) (index_uses_of f store p)

abbrev pub fetched_of : LoopFacts → List (List ℕ) → List (List ℤ) → Level → ℕ → ℕ → List Use
fetched_of f owners store level p q = filter (λ u. owner_met f owners u == q) (indexes_of f store level p)

-- an iteration, and the values of its index references
abbrev pub iteration_row : LoopFacts → List (List ℤ) → ℤ → List ℤ
iteration_row f store i = i ∷ map (read_of store) (filter (λ u. is_index u.role) (uses_at f store i))

-- an element asked for: 0 for a read or 1 for a target, array, element, local address
abbrev pub ask_row_of : LoopFacts → List (List ℕ) → ℤ → Cell → List ℤ
ask_row_of f owners first x = first ∷ pos x.array ∷ pos x.element ∷ pos (local_for f.arrays owners x.array (pos x.element)) ∷ []

-- decomposition and element; owner and local address; array and local address
abbrev pub place_ask_of : LoopFacts → Use → List ℤ
place_ask_of f u = pos (decomposition_met f u) ∷ pos (stands_met f u) ∷ []

abbrev pub place_answer_of : LoopFacts → List (List ℕ) → Use → List ℤ
place_answer_of f owners u = pos (owner_met f owners u) ∷ pos (local_met f owners u) ∷ []

abbrev pub index_ask_of : LoopFacts → List (List ℕ) → Use → List ℤ
index_ask_of f owners u = pos u.array ∷ pos (local_met f owners u) ∷ []

-- ---- data letters

-- array, element and a value
abbrev pub row_for : (Cell → ℤ) → Cell → List ℤ
row_for value x = pos x.array ∷ pos x.element ∷ value x ∷ []

abbrev pub value_before : List (List ℤ) → Cell → ℤ
value_before store x = element store x.array (pos x.element)

abbrev pub value_written : Option Write → ℤ
value_written None = pos 0
value_written (Some w) = w.value

-- what p's own iterations contribute to an element
abbrev pub value_given : LoopFacts → List (List ℕ) → List (List ℤ) → ℕ → Cell → ℤ
value_given f owners store p x = value_written (contribution_of f owners store x.array (place_of (pos x.element)) p)

-- ---- the numbers from p to q

abbrev pub numbers_in_loop : LoopFacts → List (List ℕ) → List (List ℤ) → LoopPhase → ℕ → ℕ → List ℤ
numbers_in_loop f owners store (DerefAsk asking) p q = flat_map (place_ask_of f) (asked_of f owners store asking p q)
numbers_in_loop f owners store (DerefAnswer asking) p q = flat_map (place_answer_of f owners) (asked_of f owners store asking q p)
numbers_in_loop f owners store (IndexAsk level) p q = flat_map (index_ask_of f owners) (fetched_of f owners store level p q)
numbers_in_loop f owners store (IndexValues level) p q = map (read_of store) (fetched_of f owners store level q p)
numbers_in_loop f owners store Vote p q = vote_numbers (vote_of f store p)
numbers_in_loop f owners store Iterations p q = flat_map (iteration_row f store) (filter (λ i. home_of f owners store i == q)
    (inspected_by f p))
numbers_in_loop f owners store ScheduleAsk p q =
    flat_map (ask_row_of f owners (pos 0)) (needed_of f owners store p q) ++ flat_map (ask_row_of f owners (pos 1))
    (given_of f owners store p q)
numbers_in_loop f owners store Gather p q = flat_map (row_for (value_before store)) (needed_of f owners store q p)
numbers_in_loop f owners store Scatter p q = flat_map (row_for (value_given f owners store p)) (given_of f owners store p q)

-- the lists that p sends in a phase, by receiver, and those that it is owed, by sender; the one at its own place it carries over
abbrev pub sent_in : LoopFacts → List (List ℕ) → List (List ℤ) → LoopPhase → ℕ → List (List ℤ)
sent_in f owners store l p = map (λ q. numbers_in_loop f owners store l p q) (below f.nodes)

abbrev pub owed_in : LoopFacts → List (List ℕ) → List (List ℤ) → LoopPhase → ℕ → List (List ℤ)
owed_in f owners store l p = map (λ q. numbers_in_loop f owners store l q p) (below f.nodes)
