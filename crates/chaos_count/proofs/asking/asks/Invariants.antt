use Rattle.std.proofs.Common.{◌≡◌, ◌||◌, drop}
use Rattle.chaos_count.specs.Counting.{asks_from}
use Rattle.chaos_count.proofs.asking.asks.Given as goal

abbrev pub invariant-loop-place : goal.invariant-loop-place
invariant-loop-place l =
    (l.asks || asks_from l.records l.arrays l.rule l.target l.asking l.place (drop l.place l.site.references))
    ≡ asks_from l.records l.arrays l.rule l.target l.asking 0 l.site.references
