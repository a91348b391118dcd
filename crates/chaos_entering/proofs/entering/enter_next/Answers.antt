use Rattle.std.proofs.Common.{ap, sym, subst}
use Rattle.std.proofs.lemmas.Result.{IfOk-weaker}
use Rattle.chaos_entering.specs.Coming.{HasFound, IsPlainFound}
use Rattle.chaos_entering.specs.State.{held_of}
use Rattle.chaos_holdings.specs.declared.session.Session.{Session}
use Rattle.chaos_entering.proofs.StepEntered.{next_enters, none_found}
use Rattle.chaos_entering.proofs.entering.enter_next.Goals as goal

pub returns-in-Step-clause-right : goal.returns-in-Step-clause-right
returns-in-Step-clause-right c =
    IfOk-weaker c.enter_step.result _ _
    (λ e h plan past rest st known same number here pages next.
    next_enters plan past rest c.args.between.now.me c.args.left st c.in-Step.number c.in-Step.site c.in-Step.begun e next
    (subst (HasFound plan past rest c.args.between.now.me (held_of st)) c.in-Step.is
    (c.in_ok-number.ensures.found plan past rest (held_of st) known (ap (λ (x : Session). x.trace) same) number here next.come))
    (λ before behind step numbered named later begins. h plan before behind step st known same numbered named here pages later begins))
    c.enter_step.ensures.right

pub returns-in-Over-clause-right : goal.returns-in-Over-clause-right
returns-in-Over-clause-right c =
    IfOk-weaker c.enter_output.result _ _
    (λ e h plan past rest st known same number here pages next.
    none_found plan past rest c.args.between.now.me c.args.left st e next
    (subst (HasFound plan past rest c.args.between.now.me (held_of st)) c.in-Over.is
    (c.in_ok-number.ensures.found plan past rest (held_of st) known (ap (λ (x : Session). x.trace) same) number here next.come))
    (λ behind. h plan st known same behind (sym here.elements) (sym here.parts)))
    c.enter_output.ensures.right

pub enter_step-requires : goal.enter_step-requires
enter_step-requires c = (subst (IsPlainFound c.args.between.now) c.in-Step.is c.in_ok-number.ensures.plain).0

pub invariant_of-ahead-clause-few_steps : goal.invariant_of-ahead-clause-few_steps
invariant_of-ahead-clause-few_steps c = (subst (IsPlainFound c.args.between.now) c.in-Step.is c.in_ok-number.ensures.plain).1
