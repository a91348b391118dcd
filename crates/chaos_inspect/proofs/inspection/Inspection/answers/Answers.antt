use Rattle.std.proofs.Common.{ap, map, ◌∙◌}
use Rattle.std.proofs.lemmas.Result.{IfOk-weaker}
use Rattle.plan_loop.specs.LoopLetters.{owed_in}
use Rattle.plan_loop.specs.declared.loop_phase.LoopPhase.TheVariants.{IndexAsk}
use Rattle.chaos_inspect.specs.Walking.{piece_values}
use Rattle.chaos_inspect.proofs.Fetching.{answers_right}
use Rattle.chaos_inspect.proofs.inspection.Inspection.answers.Goals as goal

pub returns : goal.returns
returns c =
    let x = c.args.self.now in
    IfOk-weaker c.told.result _ _ (λ lists e owners store tables level h pieces asked.
    e ∙ ap (map (piece_values c.args.pieces.now)) asked
    ∙ ap (λ p. map (piece_values p) (owed_in x.facts owners store (IndexAsk level) x.me)) pieces
    ∙ answers_right x.facts owners store level x.me c.requires h.owned) c.told.ensures
