use Rattle.std.specs.Prelude.{◌-◌, None}
use Rattle.std.proofs.Common.{sym, subst}
use Rattle.chaos_holdings.specs.declared.effect.Effect.TheVariants.{Inspects}
use Rattle.chaos_entering.specs.Enters.{EntersInspection}
use Rattle.chaos_node.specs.Inspections.{EndsPhase}
use Rattle.chaos_node.specs.Kept.{shown_node}
use Rattle.chaos_node.specs.Printed.{one_back, still_small}
use Rattle.chaos_node.proofs.InspectionGoesOn.{inspection_goes_on}
use Rattle.chaos_node.proofs.Seen.{has_left, less_made, no_line, right_seen}
use Rattle.chaos_node.proofs.node.Node.next_phase.Goals as goal

pub overflow_sub-self-inside : goal.overflow_sub-self-inside
overflow_sub-self-inside c = has_left c.self.inside c.args.self.now c.self.view_is c.requires.work

pub enter_inspection-requires-clause-left : goal.enter_inspection-requires-clause-left
enter_inspection-requires-clause-left c = still_small c.self.inside.left c.self.invariant.left

pub returns-clause-made : goal.returns-clause-made
returns-clause-made c =
    less_made c.self.inside c.args.self.now (record {
      effect = Inspects c.args.tables None;
      line = c.new.result;
      entered = c.in_ok-entered.entered;
    }) c.self.view_is c.requires.work c.in_ok-entered.ensures.made
    c.in_ok-entered.ensures.falls

pub returns-clause-right : goal.returns-clause-right
returns-clause-right c =
    let s = c.self.inside in
    let v = shown_node s in
    let i = c.args.inspection in
    let tables = c.args.tables in
    let e = c.in_ok-entered.entered in
    right_seen s c.args.self.now (record { effect = Inspects tables None; line = c.new.result; entered = e }) c.self.view_is
    (no_line v (Inspects tables None) e c.new.result c.new.ensures
    (inspection_goes_on v i tables e (s.left - 1) c.others_stay_prepared.ensures (subst (λ x. EndsPhase x i tables) (sym c.self.view_is)
    c.requires.ends) c.requires.passes c.requires.goes_on
    (one_back c.self.inside.left (has_left c.self.inside c.args.self.now c.self.view_is c.requires.work))
    (subst (λ sizes. EntersInspection s.session.now s.me s.at.execution s.at.site i s.holdings.parts s.holdings.pages sizes (s.left - 1) e)
    c.as_slice.ensures c.in_ok-entered.ensures.right)))
