use Rattle.std.proofs.Common.{ap, map, sym, ◌∙◌}
use Rattle.fd_program.specs.Homes.{inspected_by}
use Rattle.plan_loop.specs.declared.loop_phase.Asking.TheVariants.{Homes}
use Rattle.inspect_uses.specs.Reached.{place_met}
use Rattle.chaos_inspect.proofs.Rounds.{none_asked}
use Rattle.chaos_inspect.proofs.inspection.Inspection.go_home.Goals as goal

pub returns-else-asks-clause-inspecting : goal.returns-else-asks-clause-inspecting
returns-else-asks-clause-inspecting c = λ owners store tables h values sound.
    let x = c.args.self.now in
    let none = sym c.asks.ensures ∙ c.if-asks.false in record {
      loop = h.loop;
      owned = h.owned;
      node = h.node;
      mine = h.mine;
      hand = (
        values,
        sound,
        c.new.ensures
            ∙ sym (ap (map (place_met x.facts owners)) (none_asked x.facts Homes store (inspected_by x.facts x.me) none)),
      );
    }
