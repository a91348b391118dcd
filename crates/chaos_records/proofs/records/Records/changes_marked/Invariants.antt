use Rattle.std.proofs.Common.{◌≡◌, ◌-◌, ◌++◌, map}
use Rattle.std.specs.Prelude.{filter}
use Rattle.std.specs.List.{range_with_len}
use Rattle.fd_program.specs.Stores.{number_at}
use Rattle.chaos_records.specs.Keeping.{is_marked, marked_below}
use Rattle.chaos_records.proofs.records.Records.changes_marked.Given as goal

abbrev pub invariant-loop-array : goal.invariant-loop-array
invariant-loop-array l =
    l.changes ++ map (number_at l.self.changes) (filter (is_marked l.marks) (range_with_len l.array (l.count - l.array)))
    ≡ map (number_at l.self.changes) (marked_below l.marks l.count)
