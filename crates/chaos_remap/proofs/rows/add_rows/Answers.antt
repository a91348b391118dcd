use Rattle.chaos_remap.specs.Rows.{row_of}
use Rattle.chaos_remap.proofs.Steps.{row_more}
use Rattle.chaos_remap.proofs.rows.add_rows.Goals as goal

pub loop-row-preserved : goal.loop-row-preserved
loop-row-preserved c =
    row_more (row_of c.args.width c.args.sender c.args.numbers.now) c.loop-row.row c.args.rows.now.items c.loop-row.rows.items
    c.push.new.self.items c.row_at.result c.loop-row.invariant c.in_ok-push.ensures.items
    c.row_at.ensures
