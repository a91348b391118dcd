use Rattle.std.proofs.Common.{◌≡◌, ◌*◌, drop}
use Rattle.chaos_table.specs.Pages.{pairs_in}
use Rattle.chaos_table.specs.Noting.{noted_all}
use Rattle.chaos_table.proofs.owners.note_pairs.Given as goal

abbrev pub invariant-loop-i : goal.invariant-loop-i
invariant-loop-i l = noted_all l.first l.nodes (pairs_in (drop (2 * l.i) l.list)) l.owners.items ≡ noted_all l.first l.nodes
    (pairs_in l.list) l.fn.owners.items
