use Rattle.std.proofs.Common.{◌≡◌}
use Rattle.std.specs.List.{flat_map, range_with_len}
use Rattle.fd_words.specs.Lists.{list_at}
use Rattle.chaos_remap.specs.Rows.{rows_of}
use Rattle.chaos_remap.proofs.rows.read_rows.Given as goal

abbrev pub invariant-loop-sender : goal.invariant-loop-sender
invariant-loop-sender l = l.rows.items ≡ flat_map (λ sender. rows_of l.width sender (list_at l.taken sender)) (range_with_len 0 l.sender)
