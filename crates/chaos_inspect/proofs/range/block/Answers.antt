use Rattle.std.proofs.Common.{◌≡◌, ◌*◌, pos, ℤ, ◌+ℤ◌, ◌-ℤ◌, ◌≤ℤ◌, inl, inr, refl, sym, to_z, of_z, unsigned_abs, arith}
use Rattle.std.specs.Int.{w64, w128}
use Rattle.std.proofs.lemmas.Int.{ints}
use Rattle.chaos_inspect.proofs.Blocks.{block_of_range}
use Rattle.chaos_inspect.proofs.range.block.Goals as goal

pub returns-then-last-from-clause-block : goal.returns-then-last-from-clause-block
returns-then-last-from-clause-block c =
    let f = c.args.facts.now in
    let w = c.width-width.result in
    let low : c.from.result ≡ f.turn.low = omega (arith, ints) in
    let passed : to_z w128 (of_z w128 c.passed.result) ≡ pos (c.args.me * w) = omega (arith, ints, c.passed.ensures.passed, c.passed.ensures.most) in
    let first = to_z w128 (of_z w128 (to_z w128 (of_z w128 c.from.result) +ℤ to_z w128 (of_z w128 c.passed.result))) in
    let last = to_z w128 (of_z w128 (to_z w128 (of_z w128 (first +ℤ to_z w128 w)) -ℤ pos 1)) in
    let at : first ≡ (f.turn.low +ℤ pos (c.args.me * w)) = omega (arith, ints, low, passed) in
    let end : last ≡ (first +ℤ pos w -ℤ pos 1) = omega (arith, ints, at) in
    let under : last ≤ℤ f.turn.high = omega (arith, ints) in
    let short : last ≤ℤ (first +ℤ pos w -ℤ pos 1) = omega (arith, ints, end) in
    sym (block_of_range f.turn.low f.turn.high first last f.nodes c.args.me (unsigned_abs (f.turn.high -ℤ f.turn.low)) w c.requires
    refl c.width-width.ensures.width at under short (inr end))

pub returns-else-last-from-clause-block : goal.returns-else-last-from-clause-block
returns-else-last-from-clause-block c =
    let f = c.args.facts.now in
    let w = c.width-width.result in
    let low : c.from.result ≡ f.turn.low = omega (arith, ints) in
    let passed : to_z w128 (of_z w128 c.passed.result) ≡ pos (c.args.me * w) = omega (arith, ints, c.passed.ensures.passed, c.passed.ensures.most) in
    let first = to_z w128 (of_z w128 (to_z w128 (of_z w128 c.from.result) +ℤ to_z w128 (of_z w128 c.passed.result))) in
    let last = to_z w128 (of_z w128 c.from-else-last-from.result) in
    let at : first ≡ (f.turn.low +ℤ pos (c.args.me * w)) = omega (arith, ints, low, passed) in
    let end : last ≡ f.turn.high = omega (arith, ints) in
    let under : last ≤ℤ f.turn.high = omega (arith, ints, end) in
    let sum : to_z w128 (of_z w128 (first +ℤ to_z w128 w)) ≡ (first +ℤ pos w) = omega (arith, ints, at) in
    let less : to_z w128 (of_z w128 (to_z w128 (of_z w128 (first +ℤ to_z w128 w)) -ℤ pos 1)) ≡ (first +ℤ pos w -ℤ pos 1) =
    omega (arith, ints, at, sum) in
    let short : last ≤ℤ (first +ℤ pos w -ℤ pos 1) = omega (arith, ints, less, end) in
    sym (block_of_range f.turn.low f.turn.high first last f.nodes c.args.me (unsigned_abs (f.turn.high -ℤ f.turn.low)) w c.requires
    refl c.width-width.ensures.width at under short (inl end))
