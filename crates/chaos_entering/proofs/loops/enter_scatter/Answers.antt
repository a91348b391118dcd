use Rattle.std.proofs.Common.{subst}
use Rattle.std.proofs.lemmas.Result.{IfOk-weaker}
use Rattle.plan_run.specs.Rows.{scene_in}
use Rattle.chaos_entering.specs.Entering.{IsStaged}
use Rattle.chaos_entering.specs.declared.activity.Activity.TheVariants.{Scattering}
use Rattle.chaos_entering.proofs.Sent.{enters_by, falls_by, stands_by, told_of}
use Rattle.chaos_entering.proofs.StageSteps.{scatter_comes}
use Rattle.chaos_entering.proofs.loops.enter_scatter.Goals as goal

pub returns-clause-made : goal.returns-clause-made
returns-clause-made c =
    stands_by _ c.args.me c.args.session.now.nodes (Scattering c.args.executing) _ _ c.args.left c.sent_by-sent.result c.staged_by.result
    c.requires.left tt c.sent_by-sent.ensures c.staged_by.ensures

pub returns-clause-falls : goal.returns-clause-falls
returns-clause-falls c =
    falls_by _ c.args.me c.args.session.now.nodes (Scattering c.args.executing) _ _ c.args.left c.sent_by-sent.result c.staged_by.result
    c.sent_by-sent.ensures c.staged_by.ensures

pub returns-clause-right : goal.returns-clause-right
returns-clause-right c =
    IfOk-weaker c.staged_by.result _ _
    (λ e it plan past rest turn st known same number come some kept executing.
    scatter_comes plan past rest turn c.args.me c.args.left st c.args.session.now c.args.execution c.args.site c.args.prepared.now
    c.args.executing it.lists it.counts.items e c.letters_have_counts.ensures.scatter same number come some kept executing
    (told_of _ c.scatter_lists-lists.result it.lists it.made_is c.scatter_lists-lists.ensures (scene_in plan) past c.args.site turn
    c.args.me st.holdings.tables executing)
    (told_of _ c.scatter_counts-counts.result it.counts it.known_is c.scatter_counts-counts.ensures)
    (subst (λ n. IsStaged n c.args.me c.args.session.now.nodes (Scattering c.args.executing) it.lists it.counts.items c.args.left e)
    c.naming-naming.ensures it.staged))
    (enters_by _ c.args.me c.args.session.now.nodes (Scattering c.args.executing) _ _ c.args.left c.sent_by-sent.result
    c.staged_by.result c.sent_by-sent.ensures c.staged_by.ensures)
