use Rattle.std.proofs.Common.{ap, ◌∙◌}
use Rattle.plan_loop.specs.declared.loop_phase.Asking.TheVariants.{Indexes}
use Rattle.chaos_inspect.specs.Walking.{known_through, spots_told}
use Rattle.fd_program.specs.Homes.{inspected_by}
use Rattle.chaos_inspect.proofs.Standing.{spots_right}
use Rattle.chaos_inspect.proofs.inspection.Inspection.find_indexes.Goals as goal

pub returns-clause-inspecting : goal.returns-clause-inspecting
returns-clause-inspecting c = λ owners store tables h known told.
    let x = c.args.self.now in
    let asking = Indexes c.args.level in record {
      loop = h.loop;
      owned = h.owned;
      node = h.node;
      mine = h.mine;
      hand = (
        c.in_ok-spots.ensures
            ∙ ap (λ is. spots_told x.facts asking c.args.told.now (known_through x.facts is c.as_slice-2.result.now))
            (c.as_slice.ensures ∙ h.mine)
            ∙ ap (λ vs. spots_told x.facts asking c.args.told.now (known_through x.facts (inspected_by x.facts x.me) vs))
            c.as_slice-2.ensures
            ∙ ap (λ ps. spots_told x.facts asking ps (known_through x.facts (inspected_by x.facts x.me) x.values)) told
            ∙ spots_right x.facts owners store x.me c.args.level x.values c.requires h.owned known,
        known,
      );
    }
