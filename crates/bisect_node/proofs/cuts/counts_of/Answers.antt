use Rattle.std.proofs.Common.{◌≡◌, ◌++◌, ◌∷◌, [], ap, ◌∙◌, ℕ, rules}
use Rattle.bisect_node.specs.Indexed.{map_from-at}
use Rattle.chaos_cut.specs.Choices.{tried}
use Rattle.bisect_node.specs.Steps.{count_under, found_or_none}
use Rattle.bisect_node.specs.declared.cuts.Cut.{Cut}
use Rattle.bisect_node.proofs.cuts.counts_of.Goals as goal

pub loop-at-preserved : goal.loop-at-preserved
loop-at-preserved c =
    let at = c.loop-at.at in
    let cut = c.index-cuts-at.result in
    let of = λ (at : ℕ) (cut : Cut). count_under cut.keys (tried c.args.power (found_or_none c.args.found.now at)) in
    let more : c.push.new.self ≡ c.loop-at.told ++ of at cut ∷ [] = search rules in
    map_from-at of c.args.cuts.now at cut c.loop-at.told c.push.new.self c.loop-at-test.true c.loop-at.invariant
    (more ∙ ap (λ (x : Cut). c.loop-at.told ++ of at x ∷ []) c.index-cuts-at.is)
