use Rattle.std.proofs.Common.{◌≡◌, drop, length, replicate, []}
use Rattle.fd_program.specs.Met.{decomposition_met}
use Rattle.inspect_places.specs.Asks.{wanted_row}
use Rattle.list_laws.specs.Rows.{dealt_onto}
use Rattle.inspect_places.proofs.asked.wanted_lists.Given as goal

abbrev pub invariant-loop-used : goal.invariant-loop-used
invariant-loop-used l =
    dealt_onto (decomposition_met l.facts) (wanted_row l.facts) l.lists (drop l.used-index l.uses)
    ≡ dealt_onto (decomposition_met l.facts) (wanted_row l.facts) (replicate (length l.facts.layouts) []) l.uses
