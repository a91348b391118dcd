use Rattle.std.proofs.Common.{◌∙◌}
use Rattle.chaos_inspect.proofs.Given.{given}
use Rattle.chaos_inspect.proofs.inspection.Inspection.enter_told.Goals as goal

pub returns-clause-inspecting : goal.returns-clause-inspecting
returns-clause-inspecting c = λ owners store before h seeking told.
    let x = c.args.self.now in record {
      loop = h.loop;
      owned = h.owned;
      node = h.node;
      mine = h.mine;
      hand = (
        seeking.1.0,
        c.in_ok-entering.ensures.entering owners store
            (given x owners store before c.as_slice.result.now c.args.told.now h seeking.1.0 (c.as_slice.ensures ∙ seeking.1.1) told),
      );
    }

pub returns-in_err-entering-clause-places : goal.returns-in_err-entering-clause-places
returns-in_err-entering-clause-places c = λ owners store before h seeking told places.
    let x = c.args.self.now in
    c.enter.ensures.places owners store (given x owners store before c.as_slice.result.now c.args.told.now h seeking.1.0
    (c.as_slice.ensures ∙ seeking.1.1) told) places

pub returns-clause-places : goal.returns-clause-places
returns-clause-places c = λ owners store before h seeking told places.
    let x = c.args.self.now in
    c.enter.ensures.places owners store (given x owners store before c.as_slice.result.now c.args.told.now h seeking.1.0
    (c.as_slice.ensures ∙ seeking.1.1) told) places
