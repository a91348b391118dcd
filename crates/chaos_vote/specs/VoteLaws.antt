-- A vote is read back from its numbers.
use Rattle.std.specs.Prelude.{◌≡◌, refl, ℕ, suc, ◌-◌, ◌*◌, ◌/◌, ◌^◌, ◌%◌, ◌<◌, ◌≤◌, ◌⊎◌, nat_lt, false, cond, ℤ, pos, negsuc, ◌+ℤ◌, ◌*ℤ◌}
use Rattle.std.specs.Prelude.{Some}
use Rattle.std.specs.Int.{w64, int_wrap, int_rem_euclid}
use Rattle.std.proofs.Common.{ap, ◌∙◌, arith, inl, inr, to_z, mod-eq_of_lt}
use Rattle.std.proofs.lemmas.Int.{ints, int_rem_euclid_is}
use Rattle.std.proofs.lemmas.Nat.{div-add-mod', mod_below}
use Rattle.std.proofs.lemmas.Bool.{cases_lt}
use Rattle.std.proofs.lemmas.Bool.Decides.{nat_tests}
use Rattle.fd_words.specs.declared.place.Offence.{Offence}
use Rattle.chaos_vote.specs.Votes.{high_half, low_half, of_halves, vote_numbers, read_vote}

rem_wrapped : (n : ℕ) → n < 2 ^ 64 → int_rem_euclid (to_z w64 n) (pos (2 ^ 64)) ≡ pos n
rem_wrapped n h = by (cases_lt n (2 ^ 63))
  where
    by : ((n < 2 ^ 63) ⊎ (2 ^ 63 ≤ n)) → int_rem_euclid (to_z w64 n) (pos (2 ^ 64)) ≡ pos n
    by (inl low) =
        let e : to_z w64 n +ℤ pos (0 * 2 ^ 64) ≡ pos n = omega (arith, ints, low) in
        int_rem_euclid_is (to_z w64 n) (pos (2 ^ 64)) (2 ^ 64) 0 n (omega arith) refl e ∙ ap pos (mod-eq_of_lt h)
    by (inr high) =
        let not : nat_lt n (2 ^ 63) ≡ false = grind (arith, nat_tests) in
        let e : to_z w64 n ≡ negsuc (2 ^ 64 - suc n) = ap (λ b. cond b (pos n) (negsuc (2 ^ 64 - suc n))) not in
        let small : 2 ^ 64 - suc n < 2 ^ 64 = omega (arith, h) in
        let back : 2 ^ 64 - 1 - (2 ^ 64 - suc n) ≡ n = omega (arith, h) in
        ap (λ z. int_rem_euclid z (pos (2 ^ 64))) e ∙ ap (λ k. pos (2 ^ 64 - 1 - k)) (mod-eq_of_lt small) ∙ ap pos back

-- a number has its halves
pub of_halves-halves : (s : ℤ) → of_halves (high_half s) (low_half s) ≡ s
unfolding int_wrap
of_halves-halves (pos a) =
    let low : a % 2 ^ 64 < 2 ^ 64 = mod_below a (2 ^ 64) (omega arith) in
    let whole = div-add-mod' a (2 ^ 64) in
    ap (λ z. pos (a / 2 ^ 64) *ℤ pos (2 ^ 64) +ℤ z) (rem_wrapped (a % 2 ^ 64) low) ∙ omega (arith, ints, whole)
of_halves-halves (negsuc a) =
    let low : a % 2 ^ 64 < 2 ^ 64 = mod_below a (2 ^ 64) (omega arith) in
    let less : 2 ^ 64 - 1 - a % 2 ^ 64 < 2 ^ 64 = omega (arith, low) in
    let whole = div-add-mod' a (2 ^ 64) in
    ap (λ z. negsuc (a / 2 ^ 64) *ℤ pos (2 ^ 64) +ℤ z) (rem_wrapped (2 ^ 64 - 1 - a % 2 ^ 64) less) ∙ omega (arith, ints, whole, low)

pub read_vote-numbers : (o : Offence) → o.reference < 2 ^ 32 → read_vote (vote_numbers (Some o)) ≡ Some o
read_vote-numbers o small =
    ap (λ n. Some (let back : Offence = record {
      iteration = o.iteration;
      reference = n;
      subscript = of_halves (high_half o.subscript)
          (low_half o.subscript);
    } in back)) (mod-eq_of_lt small)
    ∙ ap (λ z. Some (let back : Offence = record { iteration = o.iteration; reference = o.reference; subscript = z } in back))
    (of_halves-halves o.subscript)
