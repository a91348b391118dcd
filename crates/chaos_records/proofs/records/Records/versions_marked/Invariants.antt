use Rattle.std.proofs.Common.{◌≡◌, ◌-◌, ◌++◌, map}
use Rattle.std.specs.Prelude.{filter}
use Rattle.std.specs.List.{range_with_len}
use Rattle.chaos_records.specs.Keeping.{is_marked, marked_below, setting_in}
use Rattle.chaos_records.proofs.records.Records.versions_marked.Given as goal

abbrev pub invariant-loop-d : goal.invariant-loop-d
invariant-loop-d l =
    l.versions ++ map (λ d. (setting_in l.self d).version) (filter (is_marked l.marks) (range_with_len l.d (l.count - l.d)))
    ≡ map (λ d. (setting_in l.self d).version) (marked_below l.marks l.count)
