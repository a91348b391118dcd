use Rattle.std.proofs.Common.{◌≡◌, fold, drop}
use Rattle.chaos_count.specs.Counting.{noted_reference}
use Rattle.chaos_count.proofs.noting.note_writes.Given as goal

abbrev pub invariant-loop-reference : goal.invariant-loop-reference
invariant-loop-reference l =
    fold (noted_reference l.execution) l.records (drop l.reference-index l.references)
    ≡ fold (noted_reference l.execution) l.initial.records l.references
