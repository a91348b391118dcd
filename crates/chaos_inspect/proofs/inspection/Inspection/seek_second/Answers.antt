use Rattle.std.proofs.Common.{ap, filter, subst, ◌∙◌}
use Rattle.inspect_places.specs.Asks.{IsAsked}
use Rattle.plan_loop.specs.declared.loop_phase.Asking.TheVariants.{Indexes}
use Rattle.plan_loop.specs.declared.loop_phase.Level.TheVariants.{Second}
use Rattle.chaos_inspect.specs.Walking.{is_asked, known_through}
use Rattle.chaos_inspect.proofs.Standing.{indexes_wanted}
use Rattle.chaos_inspect.proofs.inspection.Inspection.seek_second.Goals as goal

pub returns-clause-inspecting : goal.returns-clause-inspecting
returns-clause-inspecting c = λ owners store tables h firsts.
    let x = c.args.self.now in
    let uses =
    ap (λ is. filter (is_asked x.facts (Indexes Second)) (known_through x.facts is c.as_slice-2.result.now)) (c.as_slice.ensures ∙ h.mine)
    ∙ indexes_wanted x.facts owners store x.me Second c.as_slice-2.result.now c.requires (c.as_slice-2.ensures ∙ firsts) in record {
      loop = h.loop;
      owned = h.owned;
      node = h.node;
      mine = h.mine;
      hand = (subst (λ us. IsAsked x.facts us c.in_ok-asked.asked) uses c.in_ok-asked.ensures, firsts);
    }
