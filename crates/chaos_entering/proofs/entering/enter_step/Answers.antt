use Rattle.std.proofs.Common.{subst}
use Rattle.chaos_begin.specs.Begins.{IsFitBegun}
use Rattle.chaos_entering.proofs.StepEntered.{begun_as}
use Rattle.chaos_entering.proofs.entering.enter_step.Goals as goal

pub returns-in-Print-clause-right : goal.returns-in-Print-clause-right
returns-in-Print-clause-right c = begun_as c.args.ahead.now c.args.begun _ c.enter_print.result c.in-Print.is c.enter_print.ensures.right

pub returns-in-Move-clause-right : goal.returns-in-Move-clause-right
returns-in-Move-clause-right c = begun_as c.args.ahead.now c.args.begun _ c.begin_move.result c.in-Move.is c.begin_move.ensures.right

pub returns-in-Inspect-clause-right : goal.returns-in-Inspect-clause-right
returns-in-Inspect-clause-right c = begun_as
    c.args.ahead.now c.args.begun _ c.begin_inspection.result c.in-Inspect.is c.begin_inspection.ensures.right

pub returns-in-Execute-clause-right : goal.returns-in-Execute-clause-right
returns-in-Execute-clause-right c = begun_as
    c.args.ahead.now c.args.begun _ c.execute_kept.result c.in-Execute.is c.execute_kept.ensures.right

pub begin_inspection-requires : goal.begin_inspection-requires
begin_inspection-requires c = subst (IsFitBegun c.args.ahead.now.between.now) c.in-Inspect.is c.requires
