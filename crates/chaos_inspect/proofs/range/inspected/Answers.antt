use Rattle.std.proofs.Common.{◌≡◌, ◌≤ℤ◌, ◌<ℤ◌, ◌+ℤ◌, ℤ, pos, to_z, of_z, arith, ap, sym, ◌∙◌, ◌++◌, ◌∷◌, [], append-nil}
use Rattle.std.specs.Int.{w64, w128}
use Rattle.std.proofs.lemmas.Int.{ints}
use Rattle.fd_program.specs.Loops.{range_of}
use Rattle.fd_program.specs.RangeLaws.{fewer_left, range_further, range_none}
use Rattle.chaos_inspect.proofs.range.inspected.Goals as goal

pub loop-i-smaller : goal.loop-i-smaller
loop-i-smaller c =
    let below : to_z w128 c.loop-i.i-bits ≤ℤ to_z w128 (of_z w128 c.block-first.result.1) = omega (arith, ints) in
    let next : to_z w128 (of_z w128 (to_z w128 c.loop-i.i-bits +ℤ pos 1)) ≡ (to_z w128 c.loop-i.i-bits +ℤ pos 1) = omega (arith, ints) in
    fewer_left _ _ _ below next

pub loop-i-preserved : goal.loop-i-preserved
loop-i-preserved c =
    let below : to_z w128 c.loop-i.i-bits ≤ℤ to_z w128 (of_z w128 c.block-first.result.1) = omega (arith, ints) in
    let next : to_z w128 (of_z w128 (to_z w128 c.loop-i.i-bits +ℤ pos 1)) ≡ (to_z w128 c.loop-i.i-bits +ℤ pos 1) = omega (arith, ints) in
    record {
      low = omega (arith, ints);
      rest = range_further c.loop-i.list c.push.new.self _ _ _ _ below next
          (c.in_ok-push.ensures.ok ∙ ap (λ (x : ℤ). c.loop-i.list ++ x ∷ []) (omega (arith, ints))) c.loop-i.invariant.rest;
    }

pub returns : goal.returns
returns c =
    let over : to_z w128 (of_z w128 c.block-first.result.1) <ℤ to_z w128 c.loop-i.i-bits = omega (arith, ints) in
    let first : to_z w128 (of_z w128 c.block-first.result.0) ≡ c.block-first.result.0 = omega (arith, ints) in
    let last : to_z w128 (of_z w128 c.block-first.result.1) ≡ c.block-first.result.1 = omega (arith, ints) in
    sym (append-nil c.loop-i.list)
    ∙ ap (λ l. c.loop-i.list ++ l) (sym (range_none _ _ over))
    ∙ c.loop-i.invariant.rest
    ∙ ap (λ z. range_of z (to_z w128 (of_z w128 c.block-first.result.1))) first
    ∙ ap (range_of c.block-first.result.0) last
    ∙ c.block-first.ensures.block
