use Rattle.std.proofs.Common.{◌∙◌, List, map, ap, sym}
use Rattle.bsp_core.specs.Views.{View}
use Rattle.chaos_entering.specs.State.{NodeState}
use Rattle.chaos_letter.specs.declared.letter.Letter.{Letter}
use Rattle.plan_walk.specs.Letters.{numbers_of, put_in}
use Rattle.chaos_node.specs.Changing.{with_parts}
use Rattle.chaos_node.specs.Kept.{shown_node}
use Rattle.chaos_node.proofs.Making.{behind_small, made_by}
use Rattle.chaos_node.proofs.ScatterEnds.{scatter_seen}
use Rattle.chaos_node.proofs.Scattering.{looks_with_parts}
use Rattle.chaos_node.proofs.node.Node.applied.Goals as goal

pub enter_next-requires-clause-left : goal.enter_next-requires-clause-left
enter_next-requires-clause-left c = behind_small (shown_node c.self.inside) c.args.self.now c.left_behind.result c.self.view_is
    c.left_behind.ensures c.self.invariant.left

pub returns-clause-made : goal.returns-clause-made
returns-clause-made c =
    made_by (shown_node c.self.inside) c.args.self.now c.between_with-between.result.me c.left_behind.result _ c.self.view_is
    c.between_with-between.ensures.is.node
    (sym c.left_behind.ensures) c.in_ok-entered.ensures.made c.in_ok-entered.ensures.falls

pub returns-clause-right : goal.returns-clause-right
returns-clause-right c =
    scatter_seen c.letters_have_counts.ensures.reported c.notes_keep_the_past.ensures.writes
    (with_parts (shown_node c.self.inside) c.args.parts.now) (with_parts c.args.self.now c.args.parts.now)
    c.args.prepared.now c.args.executing.now
    c.apply_contributions.new.pieces c.in_ok-records.records c.in_ok-count.count c.between_with-between.result c.next_number.result
    c.left_behind.result c.in_ok-entered.entered
    c.in_ok-taken.taken c.as_slice-2.result.now (ap (λ (y : View NodeState). with_parts y c.args.parts.now) c.self.view_is)
    c.requires.at c.requires.kept c.left_behind.ensures
    (c.in_ok-taken.ensures ∙ ap (λ (l : List Letter). put_in c.self.inside.me c.self.inside.at.own (map numbers_of l))
    c.as_slice.ensures.value) c.in_ok-apply_contributions.ensures.ok
    c.as_slice-2.ensures c.in_ok-records.ensures.noted c.in_ok-count.ensures
    (looks_with_parts c.args.self.now c.args.parts.now c.args.self.now.face.me c.self.inside.holdings.elements
    c.apply_contributions.new.pieces c.in_ok-records.records c.between_with-between.result c.between_with-between.ensures.is)
    c.next_number.ensures
    c.in_ok-entered.ensures.right
