use Rattle.chaos_execute.proofs.Booleans.{never}
use Rattle.std.proofs.Common.{sym, ◌∙◌}
use Rattle.chaos_executing.proofs.Tests.{small_tells, tells_small}
use Rattle.chaos_executing.proofs.letters.read_values.Goals as goal

pub gather_out-requires : goal.gather_out-requires
gather_out-requires c = small_tells c.args.prepared.now.schedule.gather_send (sym c.small.ensures ∙ c.if-small.true)

pub returns-else-small : goal.returns-else-small
returns-else-small c = λ h. absurd (never (sym (tells_small c.args.prepared.now.schedule.gather_send h) ∙ sym c.small.ensures
    ∙ c.if-small.false))
