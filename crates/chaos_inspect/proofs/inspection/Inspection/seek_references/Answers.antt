use Rattle.std.proofs.Common.{◌≡◌, true, sym, subst, ◌∙◌}
use Rattle.std.specs.List.{AllByRecursion}
use Rattle.fd_program.specs.Homes.{executed_by}
use Rattle.fd_program.specs.Uses.{is_met}
use Rattle.fd_program.specs.declared.loop_use.Use.{Use}
use Rattle.inspect_places.specs.Asks.{IsAsked}
use Rattle.inspect_enter.proofs.AllMet.{executed_met}
use Rattle.chaos_inspect.proofs.Given.{references_asked}
use Rattle.chaos_inspect.proofs.inspection.Inspection.seek_references.Goals as goal

pub new-requires-clause-met : goal.new-requires-clause-met
new-requires-clause-met c = subst (AllByRecursion (λ (u : Use). is_met c.args.self.now.facts.arrays u ≡ true)) (sym c.as_slice-2.ensures)
    c.in_ok-uses.ensures.met

pub returns-clause-inspecting : goal.returns-clause-inspecting
returns-clause-inspecting c = λ owners store tables h sound rows.
    let x = c.args.self.now in
    let executed = executed_by x.facts owners store x.me in
    let uses =
    c.as_slice-2.ensures ∙ c.in_ok-uses.ensures.uses store executed (executed_met x.facts owners store x.me h.loop.accepted sound)
    (c.as_slice.ensures ∙ rows)
    ∙ sym (references_asked x.facts owners store x.me h.loop.accepted sound) in record {
      loop = h.loop;
      owned = h.owned;
      node = h.node;
      mine = h.mine;
      hand = (subst (λ us. IsAsked x.facts us c.in_ok-asked.asked) uses c.in_ok-asked.ensures, (sound, rows));
    }
