use Rattle.bsp_threads.specs.Due.{due_at_end, due_within}
use Rattle.bsp_threads.proofs.law.due_law.Goals as goal

pub returns-clause-due : goal.returns-clause-due
returns-clause-due g c plan is due has views mails at others =
    let node = g.N.Phased in
    record {
      pairs = due_at_end (node.rows plan) (node.holds plan) (node.count plan) due views mails has at;
      others = others;
    }

pub returns-clause-cut : goal.returns-clause-cut
returns-clause-cut g c plan is due has mails of_plan taken others =
    let node = g.N.Phased in
    let end = c.whole_law.ensures.ends plan is in
    record {
      sent = due_within (node.rows plan) (node.count plan) end.0 due mails has end.1 of_plan;
      taken = taken;
      others = others;
    }
