use Rattle.std.proofs.Common.{◌∙◌, ap, inl, inr, sym}
use Rattle.bsp_core.specs.Views.{View}
use Rattle.chaos_bins.specs.declared.stage.Stage.TheVariants.{Appending, Ended, Printing, Sizing}
use Rattle.append_node.specs.Node.{AppendState}
use Rattle.append_node.proofs.Works.{works_by}
use Rattle.append_node.proofs.node.AppendNodePhased.work.Goals as goal

pub returns-in-Sizing-clause-ok : goal.returns-in-Sizing-clause-ok
returns-in-Sizing-clause-ok c =
    works_by c.args.self.now c.end_sizes.new.self (Sizing c.in-Sizing.round) c.end_sizes.result
    (sym (ap (λ (w : View AppendState). w.state.at) c.self.view_is) ∙ c.in-Sizing.is) c.requires c.end_sizes.ensures.ok

pub returns-in-Appending-clause-ok : goal.returns-in-Appending-clause-ok
returns-in-Appending-clause-ok c =
    works_by c.args.self.now c.end_round.new.self (Appending c.in-Appending.round) c.end_round.result
    (sym (ap (λ (w : View AppendState). w.state.at) c.self.view_is) ∙ c.in-Appending.is) c.requires c.end_round.ensures.ok

pub returns-in-Printing-clause-ok : goal.returns-in-Printing-clause-ok
returns-in-Printing-clause-ok c =
    let seen = sym (ap (λ (w : View AppendState). w.state.at) c.self.view_is) in
    elim c.in-Printing.is [
      | inl is ↦ works_by c.args.self.now c.end_print.new.self Printing c.end_print.result (seen ∙ is) c.requires c.end_print.ensures.ok
      | inr is ↦ works_by c.args.self.now c.end_print.new.self Ended c.end_print.result (seen ∙ is) c.requires c.end_print.ensures.ok
    ]
