use Rattle.std.proofs.Common.{◌<◌, ◌∙◌, List, length, map, ap, arith, sym, subst}
use Rattle.bsp_core.specs.Views.{View}
use Rattle.chaos_entering.specs.State.{NodeState}
use Rattle.chaos_letter.specs.declared.letter.Letter.{Letter}
use Rattle.plan_walk.specs.Letters.{numbers_of, put_in}
use Rattle.chaos_node.specs.Kept.{shown_node}
use Rattle.chaos_node.proofs.GatherEnds.{gather_seen}
use Rattle.chaos_node.proofs.Making.{behind_small, made_by}
use Rattle.chaos_node.proofs.node.Node.executed.Goals as goal

pub facts_of-requires-clause-site : goal.facts_of-requires-clause-site
facts_of-requires-clause-site c =
    subst (λ (v : View NodeState). v.state.at.site < length v.state.session.checked.sites) (sym c.self.view_is) c.requires.there

pub facts_of-requires-clause-layouts : goal.facts_of-requires-clause-layouts
facts_of-requires-clause-layouts c = omega (arith, c.self.invariant.checked.few_layouts)

pub enter_scatter-requires : goal.enter_scatter-requires
enter_scatter-requires c = record {
  left = behind_small (shown_node c.self.inside) c.args.self.now c.left_behind.result c.self.view_is
      c.left_behind.ensures c.self.invariant.left;
}

pub returns-clause-made : goal.returns-clause-made
returns-clause-made c =
    made_by (shown_node c.self.inside) c.args.self.now c.self.inside.me c.left_behind.result _ c.self.view_is
    (ap (λ (v : View NodeState). v.face.me) c.self.view_is)
    (sym c.left_behind.ensures) c.in_ok-entered.ensures.made c.in_ok-entered.ensures.falls

pub returns-clause-right : goal.returns-clause-right
returns-clause-right c =
    gather_seen c.facts_are_known.ensures.steps
    c.facts_are_known.ensures.exact (shown_node c.self.inside) c.args.self.now c.args.prepared.now
    c.args.turn.now
    c.in_ok-executing.executing c.left_behind.result c.in_ok-entered.entered c.new.result c.in_ok-facts.facts c.in_ok-taken.taken
    c.self.view_is c.requires.at c.requires.kept
    c.requires.turn c.left_behind.ensures c.new.ensures c.in_ok-facts.ensures (c.in_ok-taken.ensures
    ∙ ap (λ (l : List Letter). put_in c.self.inside.me c.self.inside.at.own (map numbers_of l)) c.as_slice.ensures.value)
    c.in_ok-executing.ensures c.in_ok-entered.ensures.right
