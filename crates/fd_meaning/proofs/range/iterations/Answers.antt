use Rattle.std.proofs.Common.{◌≡◌, ◌≤ℤ◌, ◌+ℤ◌, ℤ, pos, to_z, of_z, arith, ap, ◌∙◌, ◌++◌, ◌∷◌, []}
use Rattle.std.specs.Int.{w64, w128}
use Rattle.std.proofs.lemmas.Int.{ints}
use Rattle.fd_program.specs.RangeLaws.{fewer_left, range_further}
use Rattle.fd_meaning.proofs.range.iterations.Goals as goal

pub loop-i-smaller : goal.loop-i-smaller
loop-i-smaller c =
    fewer_left (to_z w128 c.loop-i.i-bits) (to_z w128 (of_z w128 (to_z w128 c.loop-i.i-bits +ℤ pos 1))) (to_z w64 (of_z w64 c.args.high))
    (omega (arith, ints)) (omega (arith, ints))

pub loop-i-preserved : goal.loop-i-preserved
loop-i-preserved c =
    let i = to_z w128 c.loop-i.i-bits in
    let j = to_z w128 (of_z w128 (to_z w128 c.loop-i.i-bits +ℤ pos 1)) in
    let high = to_z w64 (of_z w64 c.args.high) in
    let below : to_z w128 c.loop-i.i-bits ≤ℤ to_z w64 (of_z w64 c.args.high) = omega (arith, ints) in
    let next : to_z w128 (of_z w128 (to_z w128 c.loop-i.i-bits +ℤ pos 1)) ≡ (to_z w128 c.loop-i.i-bits +ℤ pos 1) = omega (arith, ints) in
    record {
      low = omega (arith, ints);
      rest = range_further c.loop-i.list c.push.new.self i j high _ below next (c.in_ok-push.ensures.ok
          ∙ ap (λ (x : ℤ). c.loop-i.list ++ x ∷ []) (omega (arith, ints))) c.loop-i.invariant.rest;
    }
