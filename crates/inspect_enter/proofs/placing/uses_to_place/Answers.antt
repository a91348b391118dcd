use Rattle.std.proofs.Common.{◌≡◌, true, filter, ap, sym, subst, ◌∙◌}
use Rattle.std.specs.List.{AllByRecursion}
use Rattle.std.proofs.lemmas.Result.{IfOk-weaker}
use Rattle.fd_program.specs.ListLaws.{all_filter, all_weaker}
use Rattle.fd_program.specs.Uses.{is_met}
use Rattle.fd_program.specs.declared.loop_use.Use.{Use}
use Rattle.inspect_enter.specs.Placed.{MayBeStamped, is_mapped}
use Rattle.inspect_enter.proofs.placing.uses_to_place.Goals as goal

pub returns-clause-met : goal.returns-clause-met
returns-clause-met c =
    let f = c.args.facts.now in
    IfOk-weaker c.mapped_of.result _ _ (λ uses e.
    subst (AllByRecursion (λ (u : Use). is_met f.arrays u ≡ true)) (sym (e ∙ ap (filter (is_mapped f)) c.as_slice.ensures))
    (all_weaker _ (λ (u : Use). is_met f.arrays u ≡ true) (λ u h. h.1.met) (filter (is_mapped f) c.in_ok-own.own.uses)
    (all_filter (MayBeStamped f) (is_mapped f) c.in_ok-own.own.uses c.in_ok-own.ensures.kept))) c.mapped_of.ensures
