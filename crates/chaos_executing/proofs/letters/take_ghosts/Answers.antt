use Rattle.chaos_execute.proofs.Booleans.{never}
use Rattle.std.proofs.Common.{sym, ◌∙◌}
use Rattle.chaos_executing.proofs.Tests.{rows_tell, tell_rows}
use Rattle.chaos_executing.proofs.letters.take_ghosts.Goals as goal

pub gather_in-requires : goal.gather_in-requires
gather_in-requires c = rows_tell c.args.taken.now c.args.prepared.now.schedule.gather_fetch (sym c.in_rows.ensures ∙ c.if-in_rows.true)

pub returns-else-in_rows : goal.returns-else-in_rows
returns-else-in_rows c = λ h. absurd (never (sym (tell_rows c.args.taken.now c.args.prepared.now.schedule.gather_fetch h)
    ∙ sym c.in_rows.ensures ∙ c.if-in_rows.false))
