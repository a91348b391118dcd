use Rattle.std.proofs.Common.{◌≡◌, ◌+◌, ◌*◌, ◌≤◌, drop}
use Rattle.chaos_count.specs.Counting.{count_from}
use Rattle.chaos_count.proofs.count.count.Given as goal

abbrev pub invariant-loop-execution : goal.invariant-loop-execution
invariant-loop-execution l = record {
  told : l.count + count_from l.execution l.known l.checked l.rule (drop l.execution l.steps)
      ≡ count_from 0 l.initial.known l.checked l.rule l.steps;
  few : l.count ≤ 17 * l.execution;
}
