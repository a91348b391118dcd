-- What the executions of FORALLs look up and count.
use Rattle.std.specs.Prelude.{ℕ, ◌-◌, ℤ, pos, Bool, if◌then◌else◌, false, List, length, slice_get, sum_by, Option, Some, None}
use Rattle.std.specs.Option.{option_and_then, option_map_or}
use Rattle.std.specs.Ordering.{int_eq}
use Rattle.fd_program.specs.declared.count.SiteCount.{SiteCount}
use Rattle.fd_program.specs.declared.trace.LoopTurn.{LoopTurn}
use Rattle.fd_program.specs.declared.trace.Step.{Step}
use Rattle.fd_program.specs.declared.trace.Step.TheVariants.{Distribute, Print, Forall}
use Rattle.chaos_sched.specs.declared.prepared.Prepared.{Prepared}

-- the turn of a step, if it executes a FORALL, and that of the step with a number
abbrev pub turn_by : Step → Option LoopTurn
turn_by (Distribute decomposition form) = None
turn_by (Print array) = None
turn_by (Forall site turn) = Some turn

abbrev pub turn_in : List Step → ℕ → Option LoopTurn
turn_in steps n = option_and_then turn_by (slice_get steps n)

-- this execution is the last of a list
abbrev pub is_last : List ℤ → ℕ → Bool
is_last inspected execution = option_map_or (λ (x : ℤ). int_eq x (pos execution)) (slice_get inspected (length inspected - 1)) false

-- what one execution counts
abbrev pub counted_with : Prepared → Bool → SiteCount
counted_with prepared inspects = record {
  executed = 1;
  inspected = if inspects then 1 else 0;
  gathered = sum_by (λ items. length items) prepared.schedule.gather_fetch;
  scattered = sum_by (λ items. length items) prepared.schedule.scatter_send;
}
