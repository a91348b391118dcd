use Rattle.std.specs.Prelude.{◌-◌, Some}
use Rattle.std.proofs.Common.{sym, subst}
use Rattle.chaos_holdings.specs.declared.effect.Effect.TheVariants.{Inspects}
use Rattle.chaos_node.specs.Inspections.{EndsPhase}
use Rattle.chaos_node.specs.Kept.{shown_node}
use Rattle.chaos_node.specs.Printed.{one_back, still_small}
use Rattle.chaos_node.proofs.InspectionOver.{inspection_is_over}
use Rattle.chaos_node.proofs.InspectionSteps.{ready_at_end}
use Rattle.chaos_node.proofs.Seen.{has_left, less_made, no_line, right_seen}
use Rattle.chaos_node.proofs.node.Node.inspected_whole.Goals as goal

pub finish-prepared-requires : goal.finish-prepared-requires
finish-prepared-requires c = ready_at_end c.args.inspection.stage c.requires.over c.requires.passes

pub overflow_sub-self-inside : goal.overflow_sub-self-inside
overflow_sub-self-inside c = has_left c.self.inside c.args.self.now c.self.view_is c.requires.work

pub enter_gather-requires : goal.enter_gather-requires
enter_gather-requires c = record { left = still_small c.self.inside.left c.self.invariant.left }

pub returns-clause-made : goal.returns-clause-made
returns-clause-made c =
    less_made c.self.inside c.args.self.now
    (record {
      effect = Inspects c.args.tables
          (Some (record { latest = c.in_ok-latest.latest; prepared = Some c.finish-prepared.result }));
      line = c.new.result;
      entered =
          c.in_ok-entered.entered;
    }) c.self.view_is c.requires.work c.in_ok-entered.ensures.made
    c.in_ok-entered.ensures.falls

pub returns-clause-right : goal.returns-clause-right
returns-clause-right c =
    let s = c.self.inside in
    let v = shown_node s in
    let i = c.args.inspection in
    let tables = c.args.tables in
    let e = c.in_ok-entered.entered in
    right_seen s c.args.self.now (record {
      effect = Inspects c.args.tables (Some (record { latest = c.in_ok-latest.latest; prepared = Some c.finish-prepared.result }));
      line = c.new.result;
      entered = e;
    }) c.self.view_is
    (no_line v (Inspects c.args.tables (Some (record { latest = c.in_ok-latest.latest; prepared = Some c.finish-prepared.result }))) e
    c.new.result c.new.ensures
    (inspection_is_over v i tables c.in_ok-latest.latest c.finish-prepared.result e (s.left - 1) c.others_stay_prepared.ensures
    c.records_are_exact.ensures c.facts_are_known.ensures.steps
    (subst (λ x. EndsPhase x i tables) (sym c.self.view_is) c.requires.ends) c.requires.passes c.requires.over c.in_ok-latest.ensures
    c.finish-prepared.ensures.fits
    (one_back c.self.inside.left (has_left c.self.inside c.args.self.now c.self.view_is c.requires.work)) c.in_ok-entered.ensures.right))
