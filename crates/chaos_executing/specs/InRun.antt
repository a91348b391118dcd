-- One execution of a FORALL in a run, after the steps `past`, on node p.
use Rattle.std.specs.Prelude.{◌≡◌, ◌<◌, ◌≤◌, ℕ, ℤ, List, [], length, map, None}
use Rattle.std.specs.List.{AllByRecursion}
use Rattle.chaos_dist.specs.Counting.{below}
use Rattle.fd_program.specs.Checks.{IsChecked}
use Rattle.fd_program.specs.Layouts.{Scene, loop_at, owners_at, store_at}
use Rattle.fd_program.specs.Loops.{offence_of}
use Rattle.fd_program.specs.Places.{parts_of}
use Rattle.fd_program.specs.RunLaws.{IsHistory}
use Rattle.fd_program.specs.Stores.{FitsStore}
use Rattle.fd_program.specs.Trace.{site_at}
use Rattle.fd_program.specs.declared.trace.LoopTurn.{LoopTurn}
use Rattle.fd_program.specs.declared.trace.Step.{Step}
use Rattle.fd_program.specs.declared.trace.Step.TheVariants.{Forall}
use Rattle.chaos_hash.specs.Stamps.{Stamps}
use Rattle.chaos_sched.specs.declared.prepared.Prepared.{Prepared}
use Rattle.plan_loop.specs.declared.loop_phase.LoopPhase.{LoopPhase}
use Rattle.chaos_execute.specs.Executed.{ghosts_gathered}
use Rattle.chaos_execute.specs.Pending.{pending_of}
use Rattle.fd_program.specs.StepLaws.{IsStepOf}
use Rattle.plan_run.specs.Held.{IsInspected, HasGhosts, no_hand, owed_at}
use Rattle.plan_run.specs.Phases.{numbers_at}
use Rattle.plan_run.specs.declared.stage.Stage.TheVariants.{InLoop}
use Rattle.chaos_executing.specs.Ghosts.{AreStamped, no_ghosts}
use Rattle.chaos_executing.specs.declared.executing.Executing.{Executing}

-- the lists that p sends in a phase, by receiver, and those that it is owed, by sender, its own one included
abbrev pub sent_at_loop : Scene → List Step → ℕ → LoopTurn → LoopPhase → ℕ → List (List ℤ)
sent_at_loop s past site turn l p = map (λ q. numbers_at s past (Forall site turn) (InLoop l) p q) (below s.nodes)

abbrev pub owed_at_loop : Scene → List Step → ℕ → LoopTurn → LoopPhase → ℕ → List (List ℤ)
owed_at_loop s past site turn l p = owed_at s past (Forall site turn) (InLoop l) p

-- The program is checked, the steps before are a run's and the program's, the FORALL is one of the program's and has no offence, and the
-- inspection that is kept of it is that of this execution.
pub record CanExecute (s : Scene) (past : List Step) (site : ℕ) (turn : LoopTurn) (p : ℕ) (tables : List Stamps) (kept : Prepared) : Type
    0 where
  pub some_nodes : 1 ≤ s.nodes
  pub checked : IsChecked s.checked
  pub start : FitsStore s.checked.arrays (store_at s [])
  pub history : IsHistory s past
  pub steps : AllByRecursion (IsStepOf s.checked) past
  pub known : site < length s.checked.sites
  pub sound : offence_of s.checked.arrays (site_at s.checked.sites site) turn (store_at s past) ≡ None
  pub inspected : IsInspected (loop_at s past site turn) (owners_at s past) (store_at s past) p tables kept

-- Between the two phases: the ghosts have the gathered values, those before the loop, and the node's iterations are run over them.
pub record IsExecuting (s : Scene) (past : List Step) (site : ℕ) (turn : LoopTurn) (p : ℕ) (tables : List Stamps) (kept : Prepared)
    (x : Executing) : Type 0 where
  pub can : CanExecute s past site turn p tables kept
  pub stamped : AreStamped tables
  pub gathered : x.ghosts ≡ ghosts_gathered (loop_at s past site turn) (owners_at s past) (store_at s past) p kept
      (no_ghosts (loop_at s past site turn) tables)
  pub pending : x.pending ≡ pending_of (loop_at s past site turn) kept (parts_of s.checked.arrays (owners_at s past) (store_at s past) p)
      x.ghosts
  pub values : HasGhosts (loop_at s past site turn) (owners_at s past) (store_at s past) p tables (record no_hand { ghosts = x.ghosts })
