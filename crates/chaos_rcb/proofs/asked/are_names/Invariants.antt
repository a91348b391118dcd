use Rattle.std.proofs.Common.{◌≡◌, length, map, string_bytes}
use Rattle.std.specs.List.{list_all}
use Rattle.fd_spell.specs.Spelled.{is_name}
use Rattle.chaos_rcb.proofs.asked.are_names.Given as goal

abbrev pub invariant-loop-first : goal.invariant-loop-first
invariant-loop-first l = list_all is_name (map string_bytes l.rest) ≡ list_all is_name (map string_bytes l.fn.words)

abbrev pub decreases-loop-first : goal.decreases-loop-first
decreases-loop-first l = length l.rest
