use Rattle.std.proofs.Common.{◌≡◌, fold, take}
use Rattle.bsp_core.specs.Turns.{AreDone}
use Rattle.bsp_core.specs.Views.{View}
use Rattle.chaos_entering.specs.State.{NodeState}
use Rattle.chaos_engine.specs.Counts.{first_count, more_count}
use Rattle.chaos_engine.proofs.Totals.{counts_for}
use Rattle.chaos_engine.proofs.counts.total.Given as goal

abbrev pub invariant-loop-at : goal.invariant-loop-at
invariant-loop-at l = AreDone (λ (s : View NodeState). s) l.nodes → l.count ≡ fold more_count (first_count (counts_for l.site l.nodes))
    (take l.at (counts_for l.site l.nodes))
