use Rattle.std.proofs.Common.{◌≡◌, ◌++◌, ◌<◌, ◌^◌, length, drop, map}
use Rattle.std.specs.List.{enumerate_from}
use Rattle.chaos_facts.specs.Facts.{layout_in}
use Rattle.chaos_facts.proofs.facts.layouts_of.Given as goal

abbrev pub invariant-loop-d : goal.invariant-loop-d
invariant-loop-d l = record {
  few : length l.names < 2 ^ 32;
  layouts : l.layouts ++ map (layout_in l.records) (enumerate_from l.d (drop l.d l.names)) ≡ map (layout_in l.records)
      (enumerate_from 0 l.names);
}
