use Rattle.chaos_execute.proofs.Booleans.{never}
use Rattle.std.proofs.Common.{sym, ◌∙◌}
use Rattle.chaos_executing.proofs.Tests.{rows_tell, tell_rows}
use Rattle.chaos_executing.proofs.letters.change_pieces.Goals as goal

pub apply-requires : goal.apply-requires
apply-requires c = rows_tell c.args.taken.now c.args.prepared.now.schedule.scatter_take (sym c.in_rows.ensures ∙ c.if-in_rows.true)

pub returns-else-in_rows-clause-ok : goal.returns-else-in_rows-clause-ok
returns-else-in_rows-clause-ok c = λ h. absurd (never (sym (tell_rows c.args.taken.now c.args.prepared.now.schedule.scatter_take h)
    ∙ sym c.in_rows.ensures ∙ c.if-in_rows.false))
