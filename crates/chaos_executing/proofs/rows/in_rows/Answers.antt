use Rattle.std.proofs.Common.{ap, sym, ◌∙◌, length}
use Rattle.chaos_executing.proofs.Tests.{rows_differ}
use Rattle.chaos_executing.proofs.rows.in_rows.Goals as goal

pub returns-then-letters-all : goal.returns-then-letters-all
returns-then-letters-all c =
    sym (rows_differ c.args.taken.now c.args.lists.now (λ e. c.if-letters-all.true (ap length c.as_slice-letters.ensures ∙ e
    ∙ sym (ap length c.as_slice-all.ensures))))
