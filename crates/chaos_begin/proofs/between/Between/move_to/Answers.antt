use Rattle.std.proofs.lemmas.Result.{IfOk-weaker}
use Rattle.fd_program.specs.Checks.{layout_extent}
use Rattle.chaos_begin.specs.Begins.{IsShareOf, has_share}
use Rattle.chaos_begin.proofs.Pieces.{some_there}
use Rattle.chaos_begin.proofs.Shares.{move_plain, share_there}
use Rattle.chaos_begin.proofs.between.Between.move_to.Goals as goal

pub returns-clause-begun : goal.returns-clause-begun
returns-clause-begun c =
    let b = c.args.self.now in
    IfOk-weaker c.with_share.result _ _ (λ o f s past v between step.
    f c.args.d
    (some_there (has_share b c.args.d) (IsShareOf b c.args.d (layout_extent b.checked.now.layouts c.args.d)) c.in_ok-share.share
    c.in_ok-share.ensures
    (share_there s past v b c.args.d between step.0)) s past v between step) c.with_share.ensures.begun

pub returns-clause-plain : goal.returns-clause-plain
returns-clause-plain c =
    let b = c.args.self.now in
    IfOk-weaker c.with_share.result _ _ (λ o moves.
    move_plain b c.args.d (layout_extent b.checked.now.layouts c.args.d) c.args.form c.in_ok-share.share o c.in_ok-share.ensures moves)
    c.with_share.ensures.plain
