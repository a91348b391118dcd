use Rattle.std.proofs.Common.{ap, ◌∙◌}
use Rattle.std.proofs.lemmas.Result.{IfOk-weaker}
use Rattle.list_laws.specs.Rows.{deals}
use Rattle.chaos_inspect.specs.Walking.{Homed, homed_through}
use Rattle.chaos_inspect.proofs.Homing.{rows_right}
use Rattle.chaos_inspect.proofs.inspection.Inspection.home_rows.Goals as goal

pub returns : goal.returns
returns c =
    let x = c.args.self.now in
    IfOk-weaker c.homed.result _ _ (λ lists e owners store tables h fetched sound told.
    e
    ∙ ap (λ is. deals (λ (h : Homed). h.home) (λ (h : Homed). h.row) x.facts.nodes
    (homed_through x.facts is c.as_slice-2.result.now c.args.told.now)) (c.as_slice.ensures ∙ h.mine)
    ∙ rows_right x.facts owners store x.me c.as_slice-2.result.now c.args.told.now c.requires h.owned (c.as_slice-2.ensures
    ∙ fetched) told sound) c.homed.ensures
