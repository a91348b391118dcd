use Rattle.std.proofs.Common.{sym, ◌∙◌, subst}
use Rattle.std.proofs.lemmas.Result.{IfOk-weaker}
use Rattle.chaos_entering.specs.Entering.{IsStaged}
use Rattle.chaos_entering.specs.declared.activity.Activity.TheVariants.{Moving as Moves}
use Rattle.chaos_entering.proofs.Sent.{enters_by, falls_by, stands_by, told_of}
use Rattle.chaos_entering.proofs.StageSteps.{move_enters, no_move}
use Rattle.chaos_entering.proofs.loops.enter_move.Goals as goal

pub returns-in-Some-clause-made : goal.returns-in-Some-clause-made
returns-in-Some-clause-made c =
    stands_by _ c.args.me c.args.session.now.nodes (Moves c.args.moving) _ _ c.args.left c.sent_by-sent.result c.staged_by.result
    c.requires.left tt c.sent_by-sent.ensures c.staged_by.ensures

pub returns-in-Some-clause-falls : goal.returns-in-Some-clause-falls
returns-in-Some-clause-falls c =
    falls_by _ c.args.me c.args.session.now.nodes (Moves c.args.moving) _ _ c.args.left c.sent_by-sent.result c.staged_by.result
    c.sent_by-sent.ensures c.staged_by.ensures

pub returns-in-Some-clause-right : goal.returns-in-Some-clause-right
returns-in-Some-clause-right c =
    IfOk-weaker c.staged_by.result _ _
    (λ e it plan past rest form now more st known same number come goes knows.
    move_enters plan past rest form now more c.args.me c.args.left st c.args.session.now c.args.execution c.args.moving c.args.sizes.now
    it.counts.items it.lists e c.in-Some.stage (sym c.stage.ensures ∙ c.in-Some.is) same number come goes knows
    (told_of _ c.outgoing-lists.result it.lists it.made_is c.outgoing-lists.ensures)
    (told_of _ c.counts-counts.result it.counts it.known_is c.counts-counts.ensures)
    (subst (λ n. IsStaged n c.args.me c.args.session.now.nodes (Moves c.args.moving) it.lists it.counts.items c.args.left e)
    c.naming-naming.ensures it.staged))
    (enters_by _ c.args.me c.args.session.now.nodes (Moves c.args.moving) _ _ c.args.left c.sent_by-sent.result c.staged_by.result
    c.sent_by-sent.ensures c.staged_by.ensures)

pub returns-in-None-clause-made : goal.returns-in-None-clause-made
returns-in-None-clause-made c = c.is_over.ensures.stands c.args.me c.args.session.now.nodes

pub returns-in-None-clause-right : goal.returns-in-None-clause-right
returns-in-None-clause-right c = λ plan past rest form now more st known same number come goes knows.
    absurd (no_move c.args.moving plan past c.args.moving.share.decomposition form now more c.args.me (sym c.stage.ensures
    ∙ c.in-None.is) goes)
