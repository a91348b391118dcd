use Rattle.std.proofs.Common.{◌≡◌, ◌-◌, ◌++◌, ◌==◌, map, filter}
use Rattle.std.specs.List.{range_with_len}
use Rattle.fd_words.specs.Lists.{list_at}
use Rattle.fd_program.specs.Places.{decomposition_of}
use Rattle.chaos_begin.specs.Begins.{lists_of}
use Rattle.chaos_begin.proofs.share.pieces.Given as goal

abbrev pub invariant-loop-array : goal.invariant-loop-array
invariant-loop-array l =
    l.pieces ++ map (λ array. list_at l.lists array) (filter (λ array. decomposition_of l.arrays array == l.d)
    (range_with_len l.array (l.count - l.array)))
    ≡ lists_of l.arrays l.count l.lists l.d
