use Rattle.std.proofs.Common.{[], ap, map, sym, ◌∙◌}
use Rattle.fd_program.specs.Homes.{inspected_by}
use Rattle.plan_loop.specs.declared.loop_phase.Asking.TheVariants.{Indexes}
use Rattle.plan_loop.specs.declared.loop_phase.Level.TheVariants.{Second}
use Rattle.inspect_uses.specs.Reached.{place_met}
use Rattle.chaos_inspect.specs.Walking.{known_through, spots_told}
use Rattle.chaos_inspect.proofs.Rounds.{none_asked}
use Rattle.chaos_inspect.proofs.Standing.{spots_right}
use Rattle.chaos_inspect.proofs.inspection.Inspection.find_second.Goals as goal

pub returns-clause-inspecting : goal.returns-clause-inspecting
returns-clause-inspecting c = λ owners store tables h firsts none.
    let x = c.args.self.now in
    let values = c.as_slice-2.result.now in record {
      loop = h.loop;
      owned = h.owned;
      node = h.node;
      mine = h.mine;
      hand = (
        c.in_ok-spots.ensures
            ∙ ap (λ is. spots_told x.facts (Indexes Second) [] (known_through x.facts is values)) (c.as_slice.ensures ∙ h.mine)
            ∙ ap (λ us. spots_told x.facts (Indexes Second) (map (place_met x.facts owners) us)
            (known_through x.facts (inspected_by x.facts x.me) values))
            (sym (none_asked x.facts (Indexes Second) store (inspected_by x.facts x.me) none))
            ∙ spots_right x.facts owners store x.me Second values c.requires h.owned (c.as_slice-2.ensures ∙ firsts),
        firsts,
      );
    }
