use Rattle.std.proofs.Common.{◌≡◌, get_or, pos, to_z, of_z, rules, arith, ap, ◌∙◌, ◌++◌, ◌∷◌, []}
use Rattle.std.specs.Int.{w64}
use Rattle.std.proofs.lemmas.Int.{ints}
use Rattle.chaos_inspect.specs.Walking.{piece_value}
use Rattle.chaos_inspect.proofs.Steps.{pair_step, pair_done}
use Rattle.chaos_inspect.proofs.index.answer.Goals as goal

pub loop-rest-preserved : goal.loop-rest-preserved
loop-rest-preserved c =
    let first = get_or c.loop-rest.rest.now 0 (pos 0) in
    let second = get_or c.loop-rest.rest.now 1 (pos 0) in
    let one : to_z w64 (of_z w64 first) ≡ first = first_of (omega (arith, ints), search rules, grind (arith, ints)) in
    let two : to_z w64 (of_z w64 second) ≡ second = first_of (omega (arith, ints), search rules, grind (arith, ints)) in
    let told : to_z w64 (of_z w64 c.value.result) ≡ c.value.result = omega (arith, ints, c.value.type_inv) in
    pair_step c.args.pieces.now c.loop-rest.rest.now c.behind-rest.result.now c.loop-rest.values c.push.new.self _ c.loop-rest-test.true
    c.behind-rest.ensures
    (c.in_ok-push.ensures.ok ∙ ap (λ z. c.loop-rest.values ++ z ∷ []) (told ∙ c.value.ensures
    ∙ ap (λ z. piece_value c.args.pieces.now z (to_z w64 (of_z w64 second))) one ∙ ap (piece_value c.args.pieces.now first) two))
    c.loop-rest.invariant

pub returns : goal.returns
returns c = pair_done c.args.pieces.now c.loop-rest.rest.now c.loop-rest.values _ c.loop-rest-test.false c.loop-rest.invariant
