use Rattle.std.proofs.Common.{sym, ◌∙◌}
use Rattle.std.proofs.lemmas.Result.{IfOk-weaker}
use Rattle.fd_program.specs.declared.trace.Step.TheVariants.{Forall}
use Rattle.chaos_begin.proofs.Kept.{loop_is_at}
use Rattle.chaos_begin.proofs.Pieces.{match_some}
use Rattle.chaos_begin.specs.Begins.{IsBegun}
use Rattle.chaos_begin.proofs.between.Between.execute.Goals as goal

pub returns-clause-begun : goal.returns-clause-begun
returns-clause-begun c =
    let b = c.args.self.now in
    IfOk-weaker c.loop_begun.result _ _ (λ o f s past v between less.
    match_some _ (IsBegun s past (Forall c.args.site c.args.turn.now) b.me) o
    (f s past v between (loop_is_at s past v b c.args.site c.args.turn.now c.in_ok-does.does between less (sym c.is_empty.ensures
    ∙ c.if-is_empty.false) c.in_ok-does.ensures))) c.loop_begun.ensures.begun
