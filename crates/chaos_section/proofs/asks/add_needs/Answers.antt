use Rattle.std.proofs.Common.{◌≡◌, ◌++◌, pos, get_or, to_z, of_z, rules, arith, ap, ◌∙◌}
use Rattle.std.specs.Int.{w64}
use Rattle.std.proofs.lemmas.Int.{ints}
use Rattle.chaos_section.specs.Sections.{asked_at}
use Rattle.chaos_section.proofs.Steps.{flat_map-more}
use Rattle.chaos_section.proofs.asks.add_needs.Goals as goal

pub loop-i-preserved : goal.loop-i-preserved
loop-i-preserved c =
    let l = c.args.facts.now in
    let x = get_or c.args.own.now c.loop-i.i-index (pos 0) in
    let same : to_z w64 (of_z w64 x) ≡ x = first_of (omega (arith, ints), search rules, grind (arith, ints)) in
    record {
      needs = flat_map-more (asked_at l c.args.me c.args.reference) c.args.own.now c.loop-i.i-index c.args.needs.now c.loop-i.needs _
          c.loop-i-test.true c.loop-i.invariant.needs
          (c.in_ok-add_need.ensures.needs ∙ ap (λ z. c.loop-i.needs ++ asked_at l c.args.me c.args.reference z) same);
      elements = c.in_ok-add_need.ensures.elements;
      locals = c.in_ok-add_need.ensures.locals;
    }
