use Rattle.std.proofs.Common.{◌≡◌, ◌++◌, ◌∷◌, [], ap, ◌∙◌, ℕ, rules}
use Rattle.bisect_node.specs.Indexed.{map_from-at}
use Rattle.chaos_cut.specs.Choices.{next_by}
use Rattle.bisect_node.specs.Steps.{found_or_none, summed}
use Rattle.bisect_node.specs.declared.cuts.Cut.{Cut}
use Rattle.bisect_node.proofs.founds.found_next.Goals as goal

pub loop-at-preserved : goal.loop-at-preserved
loop-at-preserved c =
    let at = c.loop-at.at in
    let cut = c.index-cuts-at.result in
    let of = λ (at : ℕ) (cut : Cut). next_by (found_or_none c.args.found.now at) c.args.power (summed c.args.told.now c.args.got.now at)
    cut.goal in
    let more : c.push.new.self ≡ c.loop-at.next ++ of at cut ∷ [] = search rules in
    map_from-at of c.args.cuts.now at cut c.loop-at.next c.push.new.self c.loop-at-test.true c.loop-at.invariant
    (more ∙ ap (λ (x : Cut). c.loop-at.next ++ of at x ∷ []) c.index-cuts-at.is)
