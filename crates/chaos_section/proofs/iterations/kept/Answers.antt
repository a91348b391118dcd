use Rattle.std.proofs.Common.{◌≡◌, ◌++◌, ◌∷◌, [], ◌==◌, pos, filter, get_or, to_z, of_z, rules, arith, ap, ◌∙◌}
use Rattle.std.specs.Int.{w64}
use Rattle.std.proofs.lemmas.Int.{ints}
use Rattle.chaos_section.specs.Sections.{home_on}
use Rattle.chaos_section.proofs.Steps.{filter-more}
use Rattle.chaos_section.proofs.iterations.kept.Goals as goal

pub loop-i-preserved : goal.loop-i-preserved
loop-i-preserved c =
    let l = c.args.facts.now in
    let x = get_or c.args.list.now c.loop-i.i-index (pos 0) in
    let same : to_z w64 (of_z w64 x) ≡ x = first_of (omega (arith, ints), search rules, grind (arith, ints)) in
    filter-more (λ i. home_on l i == c.args.me) c.args.list.now c.loop-i.i-index c.loop-i.kept _ c.loop-i-test.true c.loop-i.invariant
    (c.in_ok-keep.ensures ∙ ap (λ z. c.loop-i.kept ++ filter (λ i. home_on l i == c.args.me) (z ∷ [])) same)
