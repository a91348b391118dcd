use Rattle.chaos_inspect.proofs.Given.{given_none}
use Rattle.chaos_inspect.proofs.inspection.Inspection.enter_rows.Goals as goal

pub returns-clause-inspecting : goal.returns-clause-inspecting
returns-clause-inspecting c = λ owners store before h sound rows none.
    let x = c.args.self.now in record {
      loop = h.loop;
      owned = h.owned;
      node = h.node;
      mine = h.mine;
      hand = (sound, c.in_ok-entering.ensures.entering owners store (given_none x owners store before c.args.rows.now h sound rows none));
    }

pub returns-in_err-entering-clause-places : goal.returns-in_err-entering-clause-places
returns-in_err-entering-clause-places c = λ owners store before h sound rows none places.
    c.enter.ensures.places owners store (given_none c.args.self.now owners store before c.args.rows.now h sound rows none) places

pub returns-clause-places : goal.returns-clause-places
returns-clause-places c = λ owners store before h sound rows none places.
    c.enter.ensures.places owners store (given_none c.args.self.now owners store before c.args.rows.now h sound rows none) places
