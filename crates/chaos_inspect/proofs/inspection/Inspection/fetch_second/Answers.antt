use Rattle.std.proofs.Common.{ap, sym, ◌∙◌}
use Rattle.std.proofs.lemmas.Result.{on_ok_weaker}
use Rattle.chaos_inspect.proofs.IndexLaws.{one_level}
use Rattle.chaos_inspect.proofs.inspection.Inspection.fetch_second.Goals as goal

pub returns-then-has-clause-inspecting : goal.returns-then-has-clause-inspecting
returns-then-has-clause-inspecting c = on_ok_weaker c.find_second.result (λ e owners store tables h firsts.
    e owners store tables h firsts (sym c.asks.ensures ∙ c.if-asks.false)) c.find_second.ensures.inspecting

pub returns-else-has-clause-inspecting : goal.returns-else-has-clause-inspecting
returns-else-has-clause-inspecting c = λ owners store tables h firsts.
    let x = c.args.self.now in record {
      loop = h.loop;
      owned = h.owned;
      node = h.node;
      mine = h.mine;
      hand = firsts ∙ one_level x.facts store x.me (sym c.has.ensures ∙ c.if-has.false);
    }
