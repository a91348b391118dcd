use Rattle.std.proofs.Common.{◌≡◌, false, drop, replicate}
use Rattle.chaos_records.specs.Keeping.{marked, named_index}
use Rattle.chaos_records.proofs.record.index_arrays.Given as goal

abbrev pub invariant-loop-reference : goal.invariant-loop-reference
invariant-loop-reference l =
    marked named_index l.marks.items (drop l.reference-index l.references) ≡ marked named_index (replicate l.count false) l.references
