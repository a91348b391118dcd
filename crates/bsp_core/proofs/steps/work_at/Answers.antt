use Rattle.std.proofs.Common.{refl, ap, ◌∙◌, get_or, ◌++◌, ◌∷◌, []}
use Rattle.std.proofs.lemmas.Option.{slice_get-get_or}
use Rattle.bsp_core.proofs.Items.{on_err, views_same}
use Rattle.bsp_core.proofs.steps.work_at.Goals as goal

pub returns-in_err-work-clause-err : goal.returns-in_err-work-clause-err
returns-in_err-work-clause-err g c =
    on_err c.from_residual-in_err-work.result (
      views_same g.N.Phased.view c.args.nodes.now c.args.at c.work.new.self
          c.index-nodes-at.result c.in_err-work.ensures.err,
      c.reserve.ensures.items,
    )

pub returns-clause-ok : goal.returns-clause-ok
returns-clause-ok g c = (
  get_or c.args.nodes.now c.args.at c.index-nodes-at.result,
  c.work.new.self,
  slice_get-get_or c.args.nodes.now c.args.at c.index-nodes-at.result c.requires.at,
  c.in_ok-work.ensures.ok,
  c.in_ok-work.ensures.left,
  refl,
  c.push_in_room.ensures ∙ ap (λ z. z ++ c.args.at ∷ []) c.reserve.ensures.items,
)
