use Rattle.std.proofs.Common.{◌≡◌, false, drop, replicate}
use Rattle.chaos_records.specs.Keeping.{marked, named_decomposition}
use Rattle.chaos_records.proofs.record.decompositions.Given as goal

abbrev pub invariant-loop-reference : goal.invariant-loop-reference
invariant-loop-reference l =
    marked (named_decomposition l.arrays) l.marks.items (drop l.reference-index l.references)
    ≡ marked (named_decomposition l.arrays) (replicate l.count false) l.references
