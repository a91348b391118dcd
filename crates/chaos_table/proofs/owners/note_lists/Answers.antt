use Rattle.std.proofs.Common.{ap, ◌∙◌}
use Rattle.chaos_table.specs.Pages.{pairs_in}
use Rattle.chaos_table.specs.Noting.{noted_all}
use Rattle.chaos_table.proofs.Noted.{list_step}
use Rattle.chaos_table.proofs.owners.note_lists.Goals as goal

pub loop-list-preserved : goal.loop-list-preserved
loop-list-preserved c =
    list_step c.args.first c.args.nodes c.args.lists.now c.loop-list.list-index c.list-item.result c.loop-list.owners.items
    c.note_pairs.new.owners.items _ c.loop-list-test.true c.list-item.is
    (c.note_pairs.ensures ∙ ap (λ xs. noted_all c.args.first c.args.nodes (pairs_in xs) c.loop-list.owners.items) c.as_slice.ensures)
    c.loop-list.invariant
