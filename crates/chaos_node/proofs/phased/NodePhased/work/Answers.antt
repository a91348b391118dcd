use Rattle.std.proofs.Common.{◌≡◌, ◌<◌, [], ap, subst, sym, ◌∙◌}
use Rattle.std.specs.Prelude.{OnErr, OnOk, is_some, true}
use Rattle.bsp_core.specs.Views.{Face, View, next_of}
use Rattle.bsp_core.specs.declared.phased.Want.TheVariants.{Work}
use Rattle.chaos_entering.specs.State.{NodeState}
use Rattle.chaos_move.specs.Undoing.{taken_back}
use Rattle.chaos_node.specs.Changing.{IsMade, executing_in, with_parts}
use Rattle.chaos_node.proofs.Scattering.{executed_made, given_back}
use Rattle.chaos_node.proofs.Working.{either_way, on_both, on_ok, works}
use Rattle.chaos_node.proofs.phased.NodePhased.work.Goals as goal
use Rattle.std.proofs.lemmas.Result.{on_err_weaker}

-- ---- a phase that isn't the second of an execution

pub change-requires-clause-at : goal.change-requires-clause-at
change-requires-clause-at c = sym c.is_scattering.ensures ∙ c.if-not-is_scattering.true

pub commit-requires : goal.commit-requires
commit-requires c = c.in_ok-change.ensures.made

pub returns-then-not-is_scattering-clause-ok : goal.returns-then-not-is_scattering-clause-ok
returns-then-not-is_scattering-clause-ok c =
    on_both c.commit.result c.commit.ensures.face c.commit.ensures.state
    (λ face state. works c.args.self.now c.commit.new.self c.in_ok-change.change c.in_ok-change.ensures.right face state)

pub returns-then-not-is_scattering-clause-me : goal.returns-then-not-is_scattering-clause-me
returns-then-not-is_scattering-clause-me c =
    either_way c.commit.result c.commit.ensures.face c.commit.ensures.err (λ face. ap (λ (f : Face). f.me) face)
    (λ same. ap (λ (v : View NodeState). v.face.me) same)

pub returns-then-not-is_scattering-clause-count : goal.returns-then-not-is_scattering-clause-count
returns-then-not-is_scattering-clause-count c =
    either_way c.commit.result c.commit.ensures.face c.commit.ensures.err (λ face. ap (λ (f : Face). f.count) face)
    (λ same. ap (λ (v : View NodeState). v.face.count) same)

pub returns-then-not-is_scattering-clause-left : goal.returns-then-not-is_scattering-clause-left
returns-then-not-is_scattering-clause-left c =
    on_ok c.commit.result c.commit.ensures.face
    (λ face. subst (λ (f : Face). f.left < c.args.self.now.face.left) (sym face) c.in_ok-change.ensures.made.falls)

-- ---- the end of an execution

pub end_scatter-requires-clause-work : goal.end_scatter-requires-clause-work
end_scatter-requires-clause-work c =
    subst (λ (v : View NodeState). next_of v.face ≡ Work) (sym (c.take_undo-undo.ensures.same ∙ c.take_parts-parts.ensures.rest)) c.requires

pub end_scatter-requires-clause-at : goal.end_scatter-requires-clause-at
end_scatter-requires-clause-at c =
    subst (λ (v : View NodeState). is_some (executing_in v.state.at.activity) ≡ true)
    (sym (c.take_undo-undo.ensures.same ∙ c.take_parts-parts.ensures.rest)) (sym c.is_scattering.ensures ∙ c.if-not-is_scattering.false)

pub put_executed-requires : goal.put_executed-requires
put_executed-requires c = c.in-Ok.ensures.made.stands

made : (c : goal.After-put_executed) → OnOk c.put_executed.result (IsMade c.args.self.now c.put_executed.new.self)
made c =
    on_both c.put_executed.result c.put_executed.ensures.face c.put_executed.ensures.state
    (λ face state. executed_made c.args.self.now c.take_undo-undo.new.self
    (c.take_undo-undo.ensures.same ∙ c.take_parts-parts.ensures.rest) c.take_parts-parts.result c.take_parts-parts.ensures.parts
    c.put_executed.new.self c.in-Ok.executed c.end_scatter.new.parts c.in-Ok.ensures.made c.in-Ok.ensures.right face state)

undone : (c : goal.After-put_executed) → OnErr c.put_executed.result (c.put_executed.new.self ≡ c.args.self.now)
undone c =
    on_err_weaker c.put_executed.result
    (given_back c.args.self.now c.take_undo-undo.new.self
    (c.take_undo-undo.ensures.same ∙ c.take_parts-parts.ensures.rest) c.take_parts-parts.result c.take_parts-parts.ensures.parts
    c.put_executed.new.self (taken_back c.end_scatter.new.undo c.end_scatter.new.parts)
    (c.end_scatter.ensures.back ∙ ap (λ kept. taken_back kept c.take_parts-parts.result) c.take_undo-undo.ensures.none))
    c.put_executed.ensures.err

pub returns-in-Ok-clause-ok : goal.returns-in-Ok-clause-ok
returns-in-Ok-clause-ok c =
    on_ok c.put_executed.result (made c)
    (λ made. works c.args.self.now c.put_executed.new.self made.change made.right made.face made.state)

pub returns-in-Ok-clause-err : goal.returns-in-Ok-clause-err
returns-in-Ok-clause-err c = undone c

pub returns-in-Ok-clause-me : goal.returns-in-Ok-clause-me
returns-in-Ok-clause-me c =
    either_way c.put_executed.result (made c) (undone c) (λ made. ap (λ (f : Face). f.me) made.face)
    (λ same. ap (λ (v : View NodeState). v.face.me) same)

pub returns-in-Ok-clause-count : goal.returns-in-Ok-clause-count
returns-in-Ok-clause-count c =
    either_way c.put_executed.result (made c) (undone c) (λ made. ap (λ (f : Face). f.count) made.face)
    (λ same. ap (λ (v : View NodeState). v.face.count) same)

pub returns-in-Ok-clause-left : goal.returns-in-Ok-clause-left
returns-in-Ok-clause-left c =
    on_ok c.put_executed.result (made c)
    (λ made. subst (λ (f : Face). f.left < c.args.self.now.face.left) (sym made.face) made.made.falls)

returned : (c : goal.After-give_back) → c.give_back.new.self ≡ c.args.self.now
returned c =
    given_back c.args.self.now c.take_undo-undo.new.self
    (c.take_undo-undo.ensures.same ∙ c.take_parts-parts.ensures.rest) c.take_parts-parts.result c.take_parts-parts.ensures.parts
    c.give_back.new.self (taken_back c.end_scatter.new.undo c.end_scatter.new.parts)
    (c.end_scatter.ensures.back ∙ ap (λ kept. taken_back kept c.take_parts-parts.result) c.take_undo-undo.ensures.none)
    c.give_back.ensures

pub returns-in-Err-clause-err : goal.returns-in-Err-clause-err
returns-in-Err-clause-err c = returned c

pub returns-in-Err-clause-me : goal.returns-in-Err-clause-me
returns-in-Err-clause-me c = ap (λ (v : View NodeState). v.face.me) (returned c)

pub returns-in-Err-clause-count : goal.returns-in-Err-clause-count
returns-in-Err-clause-count c = ap (λ (v : View NodeState). v.face.count) (returned c)
