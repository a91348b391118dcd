use Rattle.std.proofs.Common.{◌≡◌, length, map}
use Rattle.bsp_core.specs.Turns.{AreDone}
use Rattle.bsp_core.specs.Views.{View}
use Rattle.chaos_entering.specs.State.{NodeState}
use Rattle.chaos_engine.specs.Counts.{total_counts}
use Rattle.chaos_engine.proofs.counts.totals.Given as goal

abbrev pub invariant-loop-site : goal.invariant-loop-site
invariant-loop-site l =
    (length l.counts ≡ l.site)
    × (AreDone (λ (s : View NodeState). s) l.nodes
    → l.counts ≡ total_counts l.site (map (λ (v : View NodeState). v.state.end.counts) l.nodes))
