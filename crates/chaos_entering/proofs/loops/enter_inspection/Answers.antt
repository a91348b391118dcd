use Rattle.std.proofs.Common.{◌≡◌, sym, ◌∙◌, ap, subst}
use Rattle.std.specs.Prelude.{IfSome}
use Rattle.std.proofs.lemmas.Result.{IfOk-weaker}
use Rattle.chaos_inspect.specs.Inspecting.{phase_of}
use Rattle.plan_walk.specs.declared.stages.Naming.{Naming}
use Rattle.chaos_entering.specs.Entering.{IsStaged}
use Rattle.chaos_entering.specs.declared.activity.Activity.TheVariants.{Inspecting}
use Rattle.chaos_entering.specs.declared.activity.At.{At}
use Rattle.chaos_entering.proofs.Sent.{enters_by, falls_by, stands_by, told_of}
use Rattle.chaos_entering.proofs.StageSteps.{inspection_enters, no_inspection, placed_there}
use Rattle.chaos_entering.proofs.loops.enter_inspection.Goals as goal

pub returns-in-Some-clause-made : goal.returns-in-Some-clause-made
returns-in-Some-clause-made c =
    stands_by _ c.args.me c.args.session.now.nodes (Inspecting c.args.inspection) _ _ c.args.left c.sent_by-sent.result
    c.staged_by.result c.requires.left c.requires.accepted c.sent_by-sent.ensures c.staged_by.ensures

pub returns-in-Some-clause-falls : goal.returns-in-Some-clause-falls
returns-in-Some-clause-falls c =
    falls_by _ c.args.me c.args.session.now.nodes (Inspecting c.args.inspection) _ _ c.args.left c.sent_by-sent.result
    c.staged_by.result c.sent_by-sent.ensures c.staged_by.ensures

pub returns-in-Some-clause-begins : goal.returns-in-Some-clause-begins
returns-in-Some-clause-begins c =
    IfOk-weaker c.staged_by.result _ _ (λ e it. it.staged.begins)
    (enters_by _ c.args.me c.args.session.now.nodes (Inspecting c.args.inspection) _ _ c.args.left c.sent_by-sent.result
    c.staged_by.result c.sent_by-sent.ensures c.staged_by.ensures)

pub returns-in-Some-clause-placed : goal.returns-in-Some-clause-placed
returns-in-Some-clause-placed c =
    IfOk-weaker c.staged_by.result _ _
    (λ e it.
    placed_there (phase_of c.args.inspection.stage) ((e.at.execution ≡ c.args.execution) × (e.at.site ≡ c.args.site)) (
      ap (λ (a : At). a.execution) it.staged.at ∙ ap (λ (n : Naming). n.execution) c.naming-naming.ensures,
      ap (λ (a : At). a.site) it.staged.at ∙ ap (λ (n : Naming). n.site) c.naming-naming.ensures,
    ))
    (enters_by _ c.args.me c.args.session.now.nodes (Inspecting c.args.inspection) _ _ c.args.left c.sent_by-sent.result
    c.staged_by.result c.sent_by-sent.ensures c.staged_by.ensures)

pub returns-in-Some-clause-right : goal.returns-in-Some-clause-right
returns-in-Some-clause-right c =
    IfOk-weaker c.staged_by.result _ _
    (λ e it plan past rest turn present st known same number come goes parts pages knows.
    inspection_enters plan past rest turn present c.args.me c.args.left st c.args.session.now c.args.execution c.args.site
    c.args.inspection c.args.parts.now it.lists c.args.pages.now c.args.sizes.now it.counts.items e c.in-Some.phase
    (sym c.phase.ensures ∙ c.in-Some.is) same number come goes parts pages knows
    (told_of _ c.outgoing-lists.result it.lists it.made_is c.outgoing-lists.ensures)
    (told_of _ c.counts-counts.result it.counts it.known_is c.counts-counts.ensures)
    (subst (λ n. IsStaged n c.args.me c.args.session.now.nodes (Inspecting c.args.inspection) it.lists it.counts.items c.args.left e)
    c.naming-naming.ensures it.staged))
    (enters_by _ c.args.me c.args.session.now.nodes (Inspecting c.args.inspection) _ _ c.args.left c.sent_by-sent.result
    c.staged_by.result c.sent_by-sent.ensures c.staged_by.ensures)

pub returns-in-None-clause-made : goal.returns-in-None-clause-made
returns-in-None-clause-made c = c.is_over.ensures.stands c.args.me c.args.session.now.nodes

pub returns-in-None-clause-placed : goal.returns-in-None-clause-placed
returns-in-None-clause-placed c =
    subst (λ o. IfSome o (λ l. (c.is_over.result.at.execution ≡ c.args.execution) × (c.is_over.result.at.site ≡ c.args.site)))
    (sym (sym c.phase.ensures ∙ c.in-None.is)) tt

pub returns-in-None-clause-right : goal.returns-in-None-clause-right
returns-in-None-clause-right c = λ plan past rest turn present st known same number come goes parts pages knows.
    absurd (no_inspection c.args.inspection plan past c.args.site turn present c.args.me st.holdings.tables (sym c.phase.ensures
    ∙ c.in-None.is) goes)
