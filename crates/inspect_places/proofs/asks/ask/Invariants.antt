use Rattle.std.proofs.Common.{◌≡◌, ◌*◌, drop}
use Rattle.chaos_table.specs.Pages.{pairs_in}
use Rattle.list_laws.specs.Rows.{dealt_onto}
use Rattle.inspect_places.specs.Telling.{ask_row, page_in}
use Rattle.inspect_places.proofs.asks.ask.Given as goal

abbrev pub invariant-loop-i : goal.invariant-loop-i
invariant-loop-i l =
    dealt_onto page_in (ask_row l.decomposition) l.lists (pairs_in (drop (2 * l.i) l.wanted)) ≡ dealt_onto page_in
    (ask_row l.decomposition) l.fn.lists (pairs_in l.wanted)
