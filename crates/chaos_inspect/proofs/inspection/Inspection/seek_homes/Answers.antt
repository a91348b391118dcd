use Rattle.std.proofs.Common.{ap, filter, subst, ◌∙◌}
use Rattle.inspect_places.specs.Asks.{IsAsked}
use Rattle.plan_loop.specs.declared.loop_phase.Asking.TheVariants.{Homes}
use Rattle.chaos_inspect.specs.Walking.{is_asked, uses_through}
use Rattle.chaos_inspect.proofs.Homing.{homes_wanted}
use Rattle.chaos_inspect.proofs.inspection.Inspection.seek_homes.Goals as goal

pub returns-clause-inspecting : goal.returns-clause-inspecting
returns-clause-inspecting c = λ owners store tables h values sound.
    let x = c.args.self.now in
    let uses =
    ap (λ is. filter (is_asked x.facts Homes) (uses_through x.facts is c.as_slice-2.result.now)) (c.as_slice.ensures ∙ h.mine)
    ∙ homes_wanted x.facts owners store x.me c.as_slice-2.result.now (c.as_slice-2.ensures ∙ values) in record {
      loop = h.loop;
      owned = h.owned;
      node = h.node;
      mine = h.mine;
      hand = (subst (λ us. IsAsked x.facts us c.in_ok-asked.asked) uses c.in_ok-asked.ensures, (values, sound));
    }
