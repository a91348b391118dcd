use Rattle.chaos_entering.proofs.EnterPrints.{posted_alone}
use Rattle.chaos_entering.proofs.enter_prints.enter_rows.Goals as goal

pub returns-clause-posted : goal.returns-clause-posted
returns-clause-posted c = posted_alone c.args.naming c.args.me c.args.session.now.nodes c.in_ok-own.own c.in_ok-lists.lists
    c.in_ok-posted.posted c.in_ok-lists.ensures c.in_ok-posted.ensures
