use Rattle.std.proofs.Common.{[], ap, sym, ◌∙◌}
use Rattle.std.specs.Prelude.{if◌then◌else◌}
use Rattle.plan_run.specs.Phases.{moving_stages}
use Rattle.chaos_begin.proofs.Shares.{begun_plain, move_begins, repeat_known}
use Rattle.chaos_begin.proofs.between.Between.distribute.Goals as goal

pub returns-then-is_repeat-clause-begun : goal.returns-then-is_repeat-clause-begun
returns-then-is_repeat-clause-begun c = λ s past v between step.
    ap (λ is. if is then [] else moving_stages c.args.form)
    (sym (repeat_known s past v c.args.self.now c.args.d c.args.form between step) ∙ sym c.is_repeat.ensures ∙ c.if-is_repeat.true)

pub returns-clause-begun : goal.returns-clause-begun
returns-clause-begun c = λ s past v between step.
    move_begins _ s past c.args.self.now.me c.args.d c.args.form c.in_ok-moving.moving c.move_begun.result c.move_begun.ensures
    (sym (repeat_known s past v c.args.self.now c.args.d c.args.form between step) ∙ sym c.is_repeat.ensures ∙ c.if-is_repeat.false)
    (c.in_ok-moving.ensures.begun s past v between step)

pub returns-clause-plain : goal.returns-clause-plain
returns-clause-plain c = begun_plain c.args.self.now c.in_ok-moving.moving c.move_begun.result c.move_begun.ensures
    c.in_ok-moving.ensures.plain
