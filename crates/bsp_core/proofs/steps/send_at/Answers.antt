use Rattle.std.proofs.Common.{refl, ap, ◌∙◌, get_or, ◌++◌, ◌∷◌, []}
use Rattle.std.proofs.lemmas.Option.{slice_get-get_or}
use Rattle.bsp_core.proofs.Items.{on_err, items_same, items_push}
use Rattle.bsp_core.proofs.steps.send_at.Goals as goal

pub returns-in_err-reserve-2-clause-err : goal.returns-in_err-reserve-2-clause-err
returns-in_err-reserve-2-clause-err g c =
    on_err c.from_residual-in_err-reserve-2.result (
      refl,
      items_same c.args.sent.now c.args.place c.reserve-2.new.self
          c.index-sent-place.result c.reserve-2.ensures.items,
      c.reserve.ensures.items,
    )

pub post-letter-requires : goal.post-letter-requires
post-letter-requires g c = c.requires.due _ (slice_get-get_or c.args.nodes.now c.args.at c.index-nodes-at.result c.requires.at)

pub returns-clause-ok : goal.returns-clause-ok
returns-clause-ok g c = (
  get_or c.args.nodes.now c.args.at c.index-nodes-at.result,
  c.post-letter.new.self,
  c.post-letter.result,
  slice_get-get_or c.args.nodes.now c.args.at c.index-nodes-at.result c.requires.at,
  c.post-letter.ensures,
  refl,
  items_push c.args.sent.now c.args.place c.push_in_room.new.list c.index-sent-place.result c.post-letter.result c.requires.place
      (c.push_in_room.ensures ∙ ap (λ z. z ++ c.post-letter.result ∷ []) c.reserve-2.ensures.items),
  c.push_in_room-2.ensures ∙ ap (λ z. z ++ c.args.at ∷ []) c.reserve.ensures.items,
)
