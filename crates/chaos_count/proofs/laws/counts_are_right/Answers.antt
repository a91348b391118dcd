use Rattle.chaos_count.proofs.Right.{counts_right}
use Rattle.chaos_count.proofs.laws.counts_are_right.Goals as goal

pub returns : goal.returns
returns c program nodes rule steps checked same short =
    let kept = c.notes_keep_the_past.ensures in
    counts_right kept.new kept.print kept.writes kept.moves kept.few c.records_are_exact.ensures c.inspections_are_known.ensures program
    nodes rule steps checked same short
