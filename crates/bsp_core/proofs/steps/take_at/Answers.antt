use Rattle.std.proofs.Common.{refl, ap, ◌∙◌, get_or, ◌++◌, ◌∷◌, []}
use Rattle.std.proofs.lemmas.Option.{slice_get-get_or}
use Rattle.bsp_core.proofs.Items.{front_read, stray_not}
use Rattle.bsp_core.proofs.steps.take_at.Goals as goal

pub unreachable-requires : goal.unreachable-requires
unreachable-requires g c =
    let s = stray_not _ _ _ _ c.in-Err-Stray.ensures.stray in
    s.4 (c.requires.fits (get_or c.args.nodes.now c.args.at c.index-nodes-at.result) s.1 s.0 s.2 c.in_ok-letter-in-Some.letter
    (slice_get-get_or c.args.nodes.now c.args.at c.index-nodes-at.result c.requires.at) s.3
    (front_read c.args.sent.now c.args.place c.index-sent-place.result c.deref.result.now (get_or c.args.taken.now c.args.place 0)
    c.in-Some.letter.now
    c.in_ok-letter-in-Some.letter c.requires.place c.index-sent-place.is c.deref.ensures.value c.in-Some.ensures.lookup.3.0
    c.in-Some.ensures.lookup.1
    c.in_ok-letter-in-Some.ensures))

pub returns-in-Ok-clause-ok : goal.returns-in-Ok-clause-ok
returns-in-Ok-clause-ok g c = (
  get_or c.args.nodes.now c.args.at c.index-nodes-at.result,
  c.take.new.self,
  c.in_ok-letter-in-Some.letter,
  slice_get-get_or c.args.nodes.now c.args.at c.index-nodes-at.result c.requires.at,
  (front_read c.args.sent.now c.args.place c.index-sent-place.result c.deref.result.now (get_or c.args.taken.now c.args.place 0)
      c.in-Some.letter.now
      c.in_ok-letter-in-Some.letter c.requires.place c.index-sent-place.is c.deref.ensures.value c.in-Some.ensures.lookup.3.0
      c.in-Some.ensures.lookup.1
      c.in_ok-letter-in-Some.ensures),
  c.in-Ok.ensures.ok,
  refl,
  refl,
  c.push_in_room.ensures ∙ ap (λ z. z ++ c.args.at ∷ []) c.in_ok-reserve-in-Some.ensures.items,
)
