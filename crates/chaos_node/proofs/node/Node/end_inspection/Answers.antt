use Rattle.std.specs.Prelude.{◌≡◌, map, length}
use Rattle.std.proofs.Common.{ap, ◌∙◌, sym, subst}
use Rattle.bsp_core.specs.Views.{View}
use Rattle.chaos_entering.specs.State.{NodeState}
use Rattle.chaos_entering.specs.declared.activity.Activity.TheVariants as activity
use Rattle.plan_walk.specs.Letters.{numbers_of, put_in}
use Rattle.chaos_node.specs.Inspections.{EndsPhase}
use Rattle.chaos_node.specs.Kept.{shown_node}
use Rattle.chaos_node.proofs.InspectionComes.{copy_ends, tables_are_there}
use Rattle.chaos_node.proofs.node.Node.end_inspection.Goals as goal

pub returns-then-len-clause-right : goal.returns-then-len-clause-right
returns-then-len-clause-right c =
    tables_are_there c.args.self.now c.args.inspection.now c.stop.result c.requires.at
    (λ same. c.if-len.true (c.len.ensures ∙ ap (λ (x : View NodeState). length x.state.holdings.tables) c.self.view_is ∙ same
    ∙ sym c.len-2.ensures))

pub refuse-requires-clause-told : goal.refuse-requires-clause-told
refuse-requires-clause-told c = (
  c.incoming.new.self,
  c.incoming.new.tables,
  sym c.offence.ensures ∙ c.in-Some.is,
  (subst (λ x. EndsPhase x c.incoming.new.self c.incoming.new.tables) c.self.view_is
      (copy_ends (shown_node c.self.inside) c.in_ok-inspection.inspection c.incoming.new.self c.args.inspection.now c.in_ok-tables.tables
      c.incoming.new.tables c.in_ok-taken.taken
      c.facts_are_known.ensures.steps (subst (λ (x : View NodeState). x.state.at.activity ≡ activity.Inspecting c.args.inspection.now)
      (sym c.self.view_is) c.requires.at)
      (c.in_ok-inspection.ensures c.in_ok-facts.ensures) c.in_ok-tables.ensures
      (c.in_ok-taken.ensures ∙ ap (λ got. put_in c.self.inside.me c.self.inside.at.own (map numbers_of got)) c.as_slice.ensures.value)
      c.in_ok-incoming.ensures.facts c.in_ok-incoming.ensures.me c.in_ok-incoming.ensures.next c.in_ok-incoming.ensures.votes
      c.in_ok-incoming.ensures.inspecting
      c.in_ok-incoming.ensures.places c.in_ok-incoming.ensures.others c.in_ok-incoming.ensures.count)),
)

pub go_on_inspecting-requires-clause-ends : goal.go_on_inspecting-requires-clause-ends
go_on_inspecting-requires-clause-ends c =
    (subst (λ x. EndsPhase x c.incoming.new.self c.incoming.new.tables) c.self.view_is
    (copy_ends (shown_node c.self.inside) c.in_ok-inspection.inspection c.incoming.new.self c.args.inspection.now c.in_ok-tables.tables
    c.incoming.new.tables c.in_ok-taken.taken
    c.facts_are_known.ensures.steps (subst (λ (x : View NodeState). x.state.at.activity ≡ activity.Inspecting c.args.inspection.now)
    (sym c.self.view_is) c.requires.at)
    (c.in_ok-inspection.ensures c.in_ok-facts.ensures) c.in_ok-tables.ensures
    (c.in_ok-taken.ensures ∙ ap (λ got. put_in c.self.inside.me c.self.inside.at.own (map numbers_of got)) c.as_slice.ensures.value)
    c.in_ok-incoming.ensures.facts c.in_ok-incoming.ensures.me c.in_ok-incoming.ensures.next c.in_ok-incoming.ensures.votes
    c.in_ok-incoming.ensures.inspecting
    c.in_ok-incoming.ensures.places c.in_ok-incoming.ensures.others c.in_ok-incoming.ensures.count))
