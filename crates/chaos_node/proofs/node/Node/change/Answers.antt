use Rattle.std.proofs.Common.{ap, sym, ◌∙◌}
use Rattle.bsp_core.specs.Views.{View}
use Rattle.chaos_entering.specs.State.{NodeState}
use Rattle.chaos_node.proofs.Scattering.{not_scattering}
use Rattle.chaos_node.proofs.Working.{ended_right}
use Rattle.chaos_node.proofs.node.Node.change.Goals as goal

pub end_print-requires-clause-at : goal.end_print-requires-clause-at
end_print-requires-clause-at c = ap (λ (v : View NodeState). v.state.at.activity) (sym c.self.view_is) ∙ c.in-Printing.is

pub end_output-requires-clause-at : goal.end_output-requires-clause-at
end_output-requires-clause-at c = ap (λ (v : View NodeState). v.state.at.activity) (sym c.self.view_is) ∙ c.in-Output.is

pub end_move-requires-clause-at : goal.end_move-requires-clause-at
end_move-requires-clause-at c = ap (λ (v : View NodeState). v.state.at.activity) (sym c.self.view_is) ∙ c.in-Moving.is

pub end_inspection-requires-clause-at : goal.end_inspection-requires-clause-at
end_inspection-requires-clause-at c = ap (λ (v : View NodeState). v.state.at.activity) (sym c.self.view_is) ∙ c.in-Inspecting.is

pub end_gather-requires-clause-at : goal.end_gather-requires-clause-at
end_gather-requires-clause-at c = ap (λ (v : View NodeState). v.state.at.activity) (sym c.self.view_is) ∙ c.in-Gathering.is

pub returns-in-Scattering-clause-right : goal.returns-in-Scattering-clause-right
returns-in-Scattering-clause-right c =
    absurd (not_scattering c.args.self.now.state.at.activity _ c.requires.at (ap (λ (v : View NodeState). v.state.at.activity)
    (sym c.self.view_is) ∙ c.in-Scattering.is))

pub returns-in-Ended-clause-right : goal.returns-in-Ended-clause-right
returns-in-Ended-clause-right c =
    ended_right c.args.self.now c.stop-in-Ended.result c.requires.work (ap (λ (v : View NodeState). v.state.at.activity)
    (sym c.self.view_is)
    ∙ c.in-Ended.is)
