use Rattle.std.proofs.Common.{◌≡◌, ◌≤◌, ◌-◌, ℤ, List, length}
use Rattle.std.specs.List.{AllByRecursion, flat_map}
use Rattle.plan_loop.specs.LoopLetters.{iteration_row}
use Rattle.inspect_enter.specs.Placed.{MayBeStamped}
use Rattle.inspect_enter.specs.Rows.{AreMet}
use Rattle.inspect_enter.proofs.Reading.{IsReadTo}
use Rattle.inspect_enter.proofs.rows.read_rows.Given as goal

abbrev pub invariant-loop-at : goal.invariant-loop-at
invariant-loop-at l = record {
  within : l.at ≤ length l.rows;
  kept : AllByRecursion (MayBeStamped l.facts) l.own.uses;
  read : (store : List (List ℤ)) (its : List ℤ) → AreMet l.facts store its → l.rows ≡ flat_map (iteration_row l.facts store) its
      → IsReadTo l.facts store l.rows its l.at l.own.iterations l.own.uses;
}

abbrev pub decreases-loop-at : goal.decreases-loop-at
decreases-loop-at l = length l.rows - l.at
