-- Numbers that aren't negative.
use Rattle.std.specs.Prelude.{◌≡◌, ℕ, ◌+◌, ◌-◌, ◌≤◌, ℤ, pos, negsuc, ◌+ℤ◌, ◌-ℤ◌, ◌≤ℤ◌}
use Rattle.std.proofs.Common.{ap, sym, arith}
use Rattle.std.proofs.lemmas.Int.{ints}
use Rattle.chaos_dist.specs.Homes.{natural}
use Rattle.fd_program.specs.Loops.{count_between}
use Rattle.fd_program.specs.RangeLaws.{counted}

pub natural_bounds : (z : ℤ) (n : ℕ) → pos 1 ≤ℤ z → z ≤ℤ pos n → (1 ≤ natural z) × (natural z ≤ n)
natural_bounds (pos m) n low high = (omega (arith, ints, low), omega (arith, ints, high))
natural_bounds (negsuc m) n low high = absurd (omega (arith, ints, low))

-- so many numbers stand between two that are shifted alike
pub natural_between : (low high shift : ℤ) → pos 1 ≤ℤ (low +ℤ shift) → low ≤ℤ high
    → natural (high +ℤ shift) + 1 - natural (low +ℤ shift) ≡ count_between low high
natural_between low high shift first order =
    let a : pos (natural (low +ℤ shift)) ≡ low +ℤ shift = counted (low +ℤ shift) (omega (arith, ints)) in
    let b : pos (natural (high +ℤ shift)) ≡ high +ℤ shift = counted (high +ℤ shift) (omega (arith, ints)) in
    let n : (high -ℤ low +ℤ pos 1) ≡ pos (natural (high +ℤ shift) + 1 - natural (low +ℤ shift)) = omega (arith, ints, a, b) in
    sym (ap natural n)
