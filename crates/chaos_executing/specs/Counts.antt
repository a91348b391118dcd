-- How many numbers letters have, and how many elements are gathered and scattered.
use Rattle.std.specs.Prelude.{◌≡◌, ℕ, ◌*◌, ℤ, List, length, map, sum_by, Option}
use Rattle.chaos_dist.specs.Counting.{below}
use Rattle.fd_program.specs.Homes.{needed_of, given_of}
use Rattle.fd_program.specs.Reports.{total_of}
use Rattle.fd_program.specs.declared.loop_facts.LoopFacts.{LoopFacts}
use Rattle.chaos_sched.specs.declared.prepared.Prepared.{Prepared}
use Rattle.plan_tables.specs.Fits.{Fits}
use Rattle.plan_loop.specs.LoopLetters.{numbers_in_loop}
use Rattle.plan_loop.specs.declared.loop_phase.LoopPhase.{LoopPhase}
use Rattle.plan_loop.specs.declared.loop_phase.LoopPhase.TheVariants.{Gather, Scatter}

-- how many numbers p is owed in a phase, by sender
abbrev pub lengths_owed : LoopFacts → List (List ℕ) → List (List ℤ) → LoopPhase → ℕ → List ℕ
lengths_owed f owners store l p = map (λ q. length (numbers_in_loop f owners store l q p)) (below f.nodes)

-- three numbers for each item that is fetched
abbrev pub GatherHasCounts : Type 0
GatherHasCounts =
    (f : LoopFacts) (owners : List (List ℕ)) (store : List (List ℤ)) (slots : ℕ → ℕ → Option ℕ) (p : ℕ) (kept : Prepared)
    → Fits f owners store slots p kept
    → map (λ items. 3 * length items) kept.schedule.gather_fetch ≡ lengths_owed f owners store Gather p

-- three numbers for each item that is taken
abbrev pub ScatterHasCounts : Type 0
ScatterHasCounts =
    (f : LoopFacts) (owners : List (List ℕ)) (store : List (List ℤ)) (slots : ℕ → ℕ → Option ℕ) (p : ℕ) (kept : Prepared)
    → Fits f owners store slots p kept
    → map (λ items. 3 * length items) kept.schedule.scatter_take ≡ lengths_owed f owners store Scatter p

-- the elements that are fetched and those that are sent are the reported ones
abbrev pub CountsAreReported : Type 0
CountsAreReported =
    (f : LoopFacts) (owners : List (List ℕ)) (store : List (List ℤ)) (slots : ℕ → ℕ → Option ℕ) (p : ℕ) (kept : Prepared)
    → Fits f owners store slots p kept
    → (sum_by (λ items. length items) kept.schedule.gather_fetch ≡ total_of f.nodes (needed_of f owners store p))
    × (sum_by (λ items. length items) kept.schedule.scatter_send ≡ total_of f.nodes (given_of f owners store p))
