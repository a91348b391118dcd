-- Facts by the records are those of the run, and those of a checked program.
use Rattle.std.specs.Prelude.{◌≡◌, ◌<◌, ◌≤◌, ◌≤ℤ◌, ℕ, List, [], length}
use Rattle.std.specs.List.{AllByRecursion}
use Rattle.inspect_uses.specs.Accepted.{AreOwners, IsAccepted}
use Rattle.chaos_records.specs.Keeping.{Keeps}
use Rattle.chaos_records.specs.declared.records.Records.{Records}
use Rattle.fd_program.specs.Checks.{IsChecked, layout_extent}
use Rattle.fd_words.specs.Lists.{list_at}
use Rattle.fd_program.specs.Layouts.{Scene, facts_at, loop_at, owners_at, store_at}
use Rattle.fd_program.specs.RunLaws.{IsHistory}
use Rattle.fd_program.specs.Stores.{FitsStore}
use Rattle.fd_program.specs.StepLaws.{IsStepIn}
use Rattle.fd_program.specs.declared.checked.Checked.{Checked}
use Rattle.fd_program.specs.declared.loop_facts.HomeRule.{HomeRule}
use Rattle.fd_program.specs.declared.trace.LoopTurn.{LoopTurn}
use Rattle.fd_program.specs.declared.trace.Step.{Step}
use Rattle.chaos_facts.specs.Facts.{facts_in}

abbrev pub FactsAreExact : Type 0
FactsAreExact =
    (c : Checked) (nodes : ℕ) (rule : HomeRule) (past : List Step) (r : Records) (site : ℕ) (turn : LoopTurn)
    → AllByRecursion (IsStepIn c) past → Keeps c past r → facts_in c nodes rule r site turn ≡ facts_at c nodes rule past site turn

abbrev pub FactsAreAccepted : Type 0
FactsAreAccepted =
    (c : Checked) (nodes : ℕ) (rule : HomeRule) (r : Records) (site : ℕ) (turn : LoopTurn)
    → IsChecked c → 1 ≤ nodes → nodes ≤ 16 → site < length c.sites → turn.low ≤ℤ turn.high → IsAccepted (facts_in c nodes rule r site turn)

-- after these steps of a program, from a store that has a list of its extent for each array
pub record IsRun (s : Scene) (past : List Step) : Type 0 where
  pub some_nodes : 1 ≤ s.nodes
  pub fits : FitsStore s.checked.arrays (store_at s [])
  pub history : IsHistory s past
  pub steps : AllByRecursion (IsStepIn s.checked) past

abbrev pub RunHasOwners : Type 0
RunHasOwners = (s : Scene) (past : List Step) (site : ℕ) (turn : LoopTurn) → IsRun s past
    → AreOwners (loop_at s past site turn) (owners_at s past)

abbrev pub RunKeepsExtents : Type 0
RunKeepsExtents = (s : Scene) (past : List Step) (d : ℕ) → IsRun s past → d < length s.checked.layouts
    → length (list_at (owners_at s past) d) ≡ layout_extent s.checked.layouts d
