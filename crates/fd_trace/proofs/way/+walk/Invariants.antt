use Rattle.std.proofs.Common.{◌≡◌, ◌≤◌, ◌++◌, ◌+◌, ◌*◌, length, ◌≤ℤ◌, ◌-ℤ◌, ◌+ℤ◌, pos}
use Rattle.chaos_dist.specs.Homes.{natural}
use Rattle.fd_program.specs.Trace.{steps_of, steps_of_turns}
use Rattle.fd_trace.specs.Events.{along}
use Rattle.fd_trace.specs.Way.{way_of, turns_way}
use Rattle.fd_trace.proofs.way.+walk.Given as goal

abbrev pub decreases-turn : goal.decreases-turn
decreases-turn l = 5 * length l.rest.now + 1

abbrev pub decreases-all_turns : goal.decreases-all_turns
decreases-all_turns l = 5 * length l.rest.now + 2

abbrev pub decreases-run_do : goal.decreases-run_do
decreases-run_do l = 5 * length l.rest.now + 3

abbrev pub decreases-statement : goal.decreases-statement
decreases-statement l = 5 * length l.rest.now + 4

abbrev pub decreases-walk : goal.decreases-walk
decreases-walk l = 5 * length l.statements.now

abbrev pub invariant-all_turns-loop-number : goal.invariant-all_turns-loop-number
invariant-all_turns-loop-number l = record {
  low : l.low ≤ℤ l.number;
  way : along l.left (turns_way (λ inner count. way_of l.checked inner 0 count l.rest) l.variables l.at l.inside l.number l.high)
      ≡ along l.fn.left (turns_way (λ inner count. way_of l.checked inner 0 count l.rest) l.variables l.at l.inside l.low l.high);
  steps : l.steps ++ steps_of_turns (λ inner count. steps_of l.checked.sites inner 0 count l.rest) l.variables l.inside l.number l.high
      ≡ l.fn.steps ++ steps_of_turns (λ inner count. steps_of l.checked.sites inner 0 count l.rest) l.variables l.inside l.low l.high;
}

abbrev pub decreases-all_turns-loop-number : goal.decreases-all_turns-loop-number
decreases-all_turns-loop-number l = natural (l.high -ℤ l.number +ℤ pos 1)

abbrev pub invariant-walk-loop-behind : goal.invariant-walk-loop-behind
invariant-walk-loop-behind l = record {
  shorter : length l.behind ≤ length l.statements;
  way : along l.left (way_of l.checked l.variables 0 l.more l.behind) ≡ along l.fn.left
      (way_of l.checked l.variables 0 l.count l.statements);
  steps : l.steps ++ steps_of l.checked.sites l.variables 0 l.more l.behind ≡ l.fn.steps ++ steps_of l.checked.sites l.variables 0 l.count
      l.statements;
}

abbrev pub decreases-walk-loop-behind : goal.decreases-walk-loop-behind
decreases-walk-loop-behind l = length l.behind
