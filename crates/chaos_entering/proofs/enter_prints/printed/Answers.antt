use Rattle.chaos_entering.proofs.EnterPrints.{is_rows}
use Rattle.chaos_entering.proofs.enter_prints.printed.Goals as goal

pub returns : goal.returns
returns c = λ me nodes list same posted.
    is_rows c.args.naming me nodes c.args.activity list c.args.rows.own c.new.result c.args.left c.args.rows.posted c.entered_by.result
    same c.new.ensures posted c.entered_by.ensures
