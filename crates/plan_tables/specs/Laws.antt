-- What is kept of a loop while other loops are prepared.
use Rattle.std.specs.Prelude.{◌≡◌, ℕ, ℤ, List}
use Rattle.chaos_hash.specs.Stamps.{Stamps}
use Rattle.chaos_sched.specs.declared.prepared.Prepared.{Prepared}
use Rattle.fd_program.specs.Checks.{IsSite, HaveOwnStamps}
use Rattle.fd_program.specs.declared.loop_facts.LoopFacts.{LoopFacts}
use Rattle.plan_tables.specs.Fits.{Fits}
use Rattle.plan_tables.specs.Tables.{slots_entered, IsEntered, KeepsOtherStamps}

-- another loop of the program, with stamps of its own, changed the tables
pub record IsPreparedBeside (f other : LoopFacts) (before after : List Stamps) : Type 0 where
  pub site : IsSite f.arrays f.site
  pub arrays : other.arrays ≡ f.arrays
  pub stamps : HaveOwnStamps f.arrays f.site other.site
  pub keeps : KeepsOtherStamps other before after

-- then an inspection that fits goes on fitting
abbrev pub GoesOnFitting : Type 0
GoesOnFitting =
    (f other : LoopFacts) (owners : List (List ℕ)) (store : List (List ℤ)) (p : ℕ) (before after : List Stamps) (kept : Prepared)
    → IsPreparedBeside f other before after
    → Fits f owners store (slots_entered f before) p kept → Fits f owners store (slots_entered f after) p kept

-- and the entries with the loop's stamps are still just the elements that its references reach
abbrev pub StaysEntered : Type 0
StaysEntered =
    (f other : LoopFacts) (owners : List (List ℕ)) (store : List (List ℤ)) (p : ℕ) (before after : List Stamps)
    → IsPreparedBeside f other before after
    → IsEntered f owners store p before → IsEntered f owners store p after
