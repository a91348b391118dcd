-- Single steps lead to the final bin, which is one of the bins.
use Rattle.std.specs.Prelude.{◌≡◌, ℕ, zero, suc, ◌+◌, ◌-◌, ◌*◌, ◌%◌, ◌≤◌, ◌<◌, ℤ, pos, negsuc, ◌+ℤ◌, ◌-ℤ◌, ◌*ℤ◌}
use Rattle.std.specs.Int.{int_rem_euclid}
use Rattle.std.proofs.Common.{ap, sym, ◌∙◌, arith, refl}
use Rattle.std.proofs.lemmas.Int.{ints, int_rem_euclid_is}
use Rattle.std.proofs.lemmas.Nat.{mod_below}
use Rattle.std.proofs.Math.Nat.{mod-add-mod, mod-eq_of_lt}
use Rattle.chaos_bins.specs.Bins.{step_from, bin_after, final_bin}

at_least : (a n : ℕ) → 0 < n → suc a ≤ suc a * n
at_least a zero some = absurd (omega arith)
at_least a (suc n) some = omega arith

-- some multiple of n makes a number natural
lifted : (z : ℤ) (n : ℕ) → 0 < n → (k : ℕ) × (m : ℕ) × (z +ℤ pos (k * n) ≡ pos m)
lifted (pos a) n some = (0, a, omega (arith, ints))
lifted (negsuc a) n some = (suc a, suc a * n - suc a, omega (arith, ints, at_least a n some))

product : (k j n : ℕ) → (k + j) * n ≡ k * n + j * n
product k j n = omega arith

rem_of_rem : (x v : ℤ) (n : ℕ) → 0 < n → int_rem_euclid (int_rem_euclid x (pos n) +ℤ v) (pos n) ≡ int_rem_euclid (x +ℤ v) (pos n)
rem_of_rem x v n some =
    let a = lifted x n some in
    let b = lifted v n some in
    let first : int_rem_euclid x (pos n) ≡ pos (a.1 % n) = int_rem_euclid_is x (pos n) n a.0 a.1 some refl a.2 in
    let left : pos (a.1 % n) +ℤ v +ℤ pos (b.0 * n) ≡ pos (a.1 % n + b.1) = omega (arith, ints, b.2) in
    let right : x +ℤ v +ℤ pos ((a.0 + b.0) * n) ≡ pos (a.1 + b.1) = omega (arith, ints, a.2, b.2, product a.0 b.0 n) in
    ap (λ r. int_rem_euclid (r +ℤ v) (pos n)) first
    ∙ int_rem_euclid_is (pos (a.1 % n) +ℤ v) (pos n) n b.0 (a.1 % n + b.1) some refl left
    ∙ ap pos (mod-add-mod a.1 n b.1)
    ∙ sym (int_rem_euclid_is (x +ℤ v) (pos n) n (a.0 + b.0) (a.1 + b.1) some refl right)

one_more_step : (t : ℕ) (v : ℤ) → pos (suc t) *ℤ v ≡ pos t *ℤ v +ℤ v
one_more_step t (pos a) = omega (arith, ints)
one_more_step t (negsuc a) = omega (arith, ints)

in_place : (bins a : ℕ) → a < bins → int_rem_euclid (pos a) (pos bins) ≡ pos a
in_place bins a low = ap pos (mod-eq_of_lt low)

-- from any of the bins
abbrev pub StepsLead : Type 0
StepsLead = (bins : ℕ) (v : ℤ) (a t : ℕ) → a < bins → bin_after bins v (pos (a + 1)) t ≡ final_bin bins t v (pos (a + 1))

pub steps_lead : StepsLead
steps_lead bins v a zero low =
    let none : pos (a + 1) -ℤ pos 1 +ℤ pos 0 *ℤ v ≡ pos a = by v in
    sym (ap (λ z. int_rem_euclid z (pos bins) +ℤ pos 1) none ∙ ap (λ z. z +ℤ pos 1) (in_place bins a low))
  where
    by : (v : ℤ) → pos (a + 1) -ℤ pos 1 +ℤ pos 0 *ℤ v ≡ pos a
    by (pos b) = omega (arith, ints)
    by (negsuc b) = omega (arith, ints)
steps_lead bins v a (suc t) low =
    let x = pos (a + 1) -ℤ pos 1 +ℤ pos t *ℤ v in
    let before : bin_after bins v (pos (a + 1)) t ≡ int_rem_euclid x (pos bins) +ℤ pos 1 = steps_lead bins v a t low in
    let back : int_rem_euclid x (pos bins) +ℤ pos 1 -ℤ pos 1 +ℤ v ≡ int_rem_euclid x (pos bins) +ℤ v = omega (arith, ints) in
    let more : x +ℤ v ≡ pos (a + 1) -ℤ pos 1 +ℤ pos (suc t) *ℤ v = omega (arith, ints, one_more_step t v) in
    ap (step_from bins v) before
    ∙ ap (λ z. int_rem_euclid z (pos bins) +ℤ pos 1) back
    ∙ ap (λ z. z +ℤ pos 1) (rem_of_rem x v bins (omega (arith, low)))
    ∙ ap (λ z. int_rem_euclid z (pos bins) +ℤ pos 1) more

-- from any number at all
abbrev pub StepsStayWithin : Type 0
StepsStayWithin = (bins steps : ℕ) (v b : ℤ) → 1 ≤ bins → (a : ℕ) × (a < bins) × (final_bin bins steps v b ≡ pos (a + 1))

pub steps_stay_within : StepsStayWithin
steps_stay_within bins steps v b some =
    let x = b -ℤ pos 1 +ℤ pos steps *ℤ v in
    let lift = lifted x bins some in
    (lift.1 % bins, mod_below lift.1 bins some, ap (λ z. z +ℤ pos 1) (int_rem_euclid_is x (pos bins) bins lift.0 lift.1 some refl lift.2))
