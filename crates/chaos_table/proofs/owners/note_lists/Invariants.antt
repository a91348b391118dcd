use Rattle.std.proofs.Common.{◌≡◌, drop}
use Rattle.chaos_table.specs.Pages.{all_pairs}
use Rattle.chaos_table.specs.Noting.{noted_all}
use Rattle.chaos_table.proofs.owners.note_lists.Given as goal

abbrev pub invariant-loop-list : goal.invariant-loop-list
invariant-loop-list l = noted_all l.first l.nodes (all_pairs (drop l.list-index l.lists)) l.owners.items ≡ noted_all l.first l.nodes
    (all_pairs l.lists) l.fn.owners.items
