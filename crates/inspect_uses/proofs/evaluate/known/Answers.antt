use Rattle.std.proofs.Common.{arith, ap, ◌∙◌, ◌≡◌, ◌+◌, to_z, of_z}
use Rattle.std.specs.Int.{w64}
use Rattle.std.proofs.lemmas.Int.{ints}
use Rattle.fd_program.specs.Stores.{number_at}
use Rattle.fd_program.specs.Uses.{use_of, subscript_of}
use Rattle.inspect_uses.proofs.Steps.{known_further}
use Rattle.inspect_uses.proofs.evaluate.known.Goals as goal

pub loop-reference-preserved : goal.loop-reference-preserved
loop-reference-preserved c =
    let add : to_z w64 (of_z w64 c.number-add.result) ≡ number_at c.args.facts.now.turn.adds c.loop-reference.place =
    (let same : to_z w64 (of_z w64 c.number-add.result) ≡ c.number-add.result = omega (arith, ints, c.number-add.type_inv) in same
    ∙ c.number-add.ensures ∙ ap (number_at c.args.facts.now.turn.adds) c.from.ensures) in record {
      place = omega (arith, c.loop-reference.invariant.place);
      few = omega (arith, c.behind_first-next.ensures.most, c.loop-reference.invariant.few);
      rest =
          known_further c.as_slice-arrays.result.now c.args.facts.now.turn.adds _ c.loop-reference.place c.loop-reference.before
          c.as_slice-references.result.now c.args.firsts.now
          c.loop-reference.reference-index c.loop-reference.next c.reference-item.result c.use_by-used.result c.loop-reference.list
          c.push.new.self _ c.told_first-before.result c.behind_first-next.result
          c.loop-reference-test.true c.reference-item.is
          (c.use_by-used.ensures ∙ ap (use_of c.reference-item.result (to_z w64 (of_z w64 c.args.i)) (c.loop-reference.place + 1))
          (c.subscript-subscript.ensures
          ∙ ap (λ z. subscript_of c.reference-item.result.subscript (to_z w64 (of_z w64 c.args.i)) z c.loop-reference.before) add))
          c.in_ok-push.ensures.ok c.told_first-before.ensures c.behind_first-next.ensures.place c.loop-reference.invariant.rest;
    }
