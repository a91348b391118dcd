-- The number of phases of a run without a refusal.
use Rattle.std.specs.Prelude.{◌≡◌, ℕ, ◌+◌, ◌^◌, ◌<◌, List, [], length}
use Rattle.fd_program.specs.Checks.{IsChecked}
use Rattle.fd_program.specs.Trace.{trace_of}
use Rattle.fd_program.specs.declared.checked.Checked.{Checked}
use Rattle.fd_program.specs.declared.loop_facts.HomeRule.{HomeRule}
use Rattle.fd_program.specs.declared.trace.Step.{Step}
use Rattle.plan_run.specs.Phases.{phases_from}
use Rattle.chaos_count.specs.Counting.{count_from, nothing_known}

-- n is the number of the phases, if these steps are the program's and there are fewer than 2^31 steps and OUTPUT arrays
abbrev pub IsCount : Checked → ℕ → HomeRule → List Step → ℕ → Type 0
IsCount c nodes rule steps n =
    steps ≡ trace_of c → length steps + length c.outputs < 2 ^ 31 → n ≡ length (phases_from c nodes rule [] steps)

abbrev pub CountsAreRight : Type 0
CountsAreRight =
    (c : Checked) (nodes : ℕ) (rule : HomeRule) (steps : List Step)
    → IsChecked c → IsCount c nodes rule steps (count_from 0 (nothing_known c) c rule steps + length c.outputs)
