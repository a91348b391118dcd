-- A range in blocks, as the code computes it.
use Rattle.std.proofs.Common.{◌≡◌, refl, ℕ, ◌+◌, ◌-◌, ◌/◌, ◌≤◌, ℤ, pos, negsuc, ◌+ℤ◌, ◌-ℤ◌, ◌≤ℤ◌, unsigned_abs, ap, sym, ◌∙◌, arith}
use Rattle.std.proofs.lemmas.Int.{ints}
use Rattle.chaos_dist.specs.Layout.{divided_up}
use Rattle.chaos_dist.specs.LayoutLaws.{divided_up-is}
use Rattle.chaos_dist.specs.Homes.{natural, provisional_of}

natural_size : (z : ℤ) → pos 0 ≤ℤ z → natural z ≡ unsigned_abs z
natural_size (pos n) h = refl
natural_size (negsuc n) h = absurd (omega (arith, ints))

natural_next : (z : ℤ) → pos 0 ≤ℤ z → natural (z +ℤ pos 1) ≡ unsigned_abs z + 1
natural_next (pos n) h = let e : pos n +ℤ pos 1 ≡ pos (n + 1) = omega (arith, ints) in ap natural e
natural_next (negsuc n) h = absurd (omega (arith, ints))

pub provisional_is : (low high i : ℤ) (nodes before last n : ℕ) → 1 ≤ nodes → low ≤ℤ i → i ≤ℤ high
    → before ≡ unsigned_abs (i -ℤ low) → last ≡ unsigned_abs (high -ℤ low) → n ≡ nodes
    → before / (last / n + 1) ≡ provisional_of low high nodes i
provisional_is low high i nodes before last n some from to eb el en =
    let behind : pos 0 ≤ℤ (i -ℤ low) = omega (arith, ints) in
    let wide : pos 0 ≤ℤ (high -ℤ low) = omega (arith, ints) in
    let count : natural (high -ℤ low +ℤ pos 1) ≡ last + 1 = natural_next (high -ℤ low) wide ∙ ap (λ k. k + 1) (sym el) in
    let back : last + 1 - 1 ≡ last = omega arith in
    let width : divided_up (natural (high -ℤ low +ℤ pos 1)) nodes ≡ last / nodes + 1 =
    ap (λ k. divided_up k nodes) count ∙ divided_up-is (last + 1) nodes (omega arith) some ∙ ap (λ k. k / nodes + 1) back in
    ap (λ k. before / (last / k + 1)) en
    ∙ ap (λ k. k / (last / nodes + 1)) (eb ∙ sym (natural_size (i -ℤ low) behind))
    ∙ ap (λ k. natural (i -ℤ low) / k) (sym width)
