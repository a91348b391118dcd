use Rattle.std.proofs.Common.{ℤ, List, ap, filter, ◌∙◌}
use Rattle.fd_program.specs.Homes.{inspected_by}
use Rattle.fd_program.specs.Uses.{gives_index}
use Rattle.fd_program.specs.declared.loop_use.Use.{Use}
use Rattle.chaos_inspect.specs.Walking.{known_through, woven}
use Rattle.chaos_inspect.proofs.IndexLaws.{indexes_right, woven_right}
use Rattle.chaos_inspect.proofs.inspection.Inspection.weave.Goals as goal

pub returns-clause-inspecting : goal.returns-clause-inspecting
returns-clause-inspecting c = λ owners store tables h known seconds.
    let x = c.args.self.now in
    let kept : List ℤ → List ℤ → List Use = λ is vs. filter (gives_index x.facts.arrays) (known_through x.facts is vs) in
    let uses =
    c.as_slice-3.ensures ∙ c.in_ok-uses.ensures
    ∙ ap (λ is. kept is c.as_slice-2.result.now) (c.as_slice.ensures ∙ h.mine)
    ∙ ap (kept (inspected_by x.facts x.me)) c.as_slice-2.ensures
    ∙ indexes_right x.facts store x.me x.values c.requires.site known in record {
      loop = h.loop;
      owned = h.owned;
      node = h.node;
      mine = h.mine;
      hand =
          c.in_ok-values.ensures
          ∙ woven_right x.facts store x.me c.as_slice-3.result.now c.as_slice-4.result.now c.args.seconds.now uses
          (c.as_slice-4.ensures ∙ known) seconds;
    }
