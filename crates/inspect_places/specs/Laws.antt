-- What a node asks and is answered are the letters of the loop.
use Rattle.std.specs.Prelude.{◌≡◌, ℕ, ℤ, true, ◌&&◌, List, filter}
use Rattle.std.specs.List.{AllByRecursion, flat_map}
use Rattle.fd_program.specs.Met.{kept_uses, is_map, layout_for}
use Rattle.plan_loop.specs.LoopLetters.{asking_iterations, is_for, owed_in, sent_in, wanted_of}
use Rattle.plan_loop.specs.declared.loop_phase.Asking.{Asking}
use Rattle.plan_loop.specs.declared.loop_phase.Asking.TheVariants.{References}
use Rattle.plan_loop.specs.declared.loop_phase.LoopPhase.TheVariants.{DerefAsk, DerefAnswer}
use Rattle.fd_program.specs.Homes.{executed_by, uses_at}
use Rattle.fd_program.specs.Uses.{is_met}
use Rattle.fd_program.specs.declared.loop_facts.LoopFacts.{LoopFacts}
use Rattle.fd_program.specs.declared.loop_use.Use.{Use}
use Rattle.inspect_places.specs.Asks.{answers_of, asks_of, by_decomposition}

-- the references whose places p asks for, by iteration and number
abbrev pub uses_wanted : LoopFacts → List (List ℕ) → List (List ℤ) → Asking → ℕ → List Use
uses_wanted f owners store asking p =
    filter (λ u. is_for f asking u.number u.role u.plain && is_met f.arrays u && is_map (layout_for f u.array).form)
    (flat_map (uses_at f store) (asking_iterations f owners store asking p))

abbrev pub WantedAreAsked : Type 0
WantedAreAsked = (f : LoopFacts) (owners : List (List ℕ)) (store : List (List ℤ)) (asking : Asking) (p : ℕ)
    → wanted_of f owners store asking p ≡ by_decomposition f (uses_wanted f owners store asking p)

-- their asks are what p sends
abbrev pub AsksAreSent : Type 0
AsksAreSent = (f : LoopFacts) (owners : List (List ℕ)) (store : List (List ℤ)) (asking : Asking) (p : ℕ)
    → asks_of f (uses_wanted f owners store asking p) ≡ sent_in f owners store (DerefAsk asking) p

-- and the answers to them what p is owed
abbrev pub AnswersAreOwed : Type 0
AnswersAreOwed = (f : LoopFacts) (owners : List (List ℕ)) (store : List (List ℤ)) (asking : Asking) (p : ℕ)
    → answers_of f owners (uses_wanted f owners store asking p) ≡ owed_in f owners store (DerefAnswer asking) p

-- after a vote without an offence every reference is met, and those wanted are the ones that p keeps and no formula places
abbrev pub KeptAreWanted : Type 0
KeptAreWanted = (f : LoopFacts) (owners : List (List ℕ)) (store : List (List ℤ)) (p : ℕ)
    → AllByRecursion (λ u. is_met f.arrays u ≡ true) (kept_uses f store (executed_by f owners store p))
    → uses_wanted f owners store References p ≡ filter (λ u. is_map (layout_for f u.array).form)
    (kept_uses f store (executed_by f owners store p))
