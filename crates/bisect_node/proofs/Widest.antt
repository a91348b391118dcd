-- The first greatest number of a list, from its front.
use Rattle.std.proofs.Common.{◌≡◌, ℕ, zero, suc, ◌+◌, ◌-◌, ◌<◌, ◌≤◌, ℤ, true, false, Bool, cond, map, ap, sym, ◌∙◌, arith, refl}
use Rattle.std.specs.Prelude.{int_lt}
use Rattle.std.specs.List.{range_with_len}
use Rattle.chaos_dist.specs.Counting.{below}
use Rattle.chaos_cut.specs.Bisection.{first_greatest, first_greatest_from}
use Rattle.chaos_cut.specs.Choices.{extent_of, wider_of}
use Rattle.chaos_cut.specs.declared.choices.Extent.{Extent}

module _ (f : ℕ → ℤ) (count : ℕ) where
  -- the extent of the first axes is widened by those from `at` on
  abbrev pub from : Extent → ℕ → ℕ → ℕ
  from best at left = first_greatest_from best.axis best.width at (map f (range_with_len at left))

  pub begins : from (extent_of 0 (f 0)) 1 (count - 1) ≡ first_greatest (map f (below count))
  begins = by count
    where
      by : (n : ℕ) → from (extent_of 0 (f 0)) 1 (n - 1) ≡ first_greatest (map f (below n))
      by zero = refl
      by (suc n) = let e : suc n - 1 ≡ n = omega arith in ap (from (extent_of 0 (f 0)) 1) e

  pub next : (best new : Extent) (at all : ℕ) → at < count → new ≡ wider_of best (extent_of at (f at)) → from best at (count - at) ≡ all
      → from new (at + 1) (count - (at + 1)) ≡ all
  next best new at all less is before =
      let one : count - at ≡ suc (count - (at + 1)) = omega (arith, less) in
      ap (λ (e : Extent). from e (at + 1) (count - (at + 1))) is ∙ chosen (int_lt best.width (f at)) ∙ sym (ap (from best at) one) ∙ before
    where
      chosen : (b : Bool) → from (cond b (extent_of at (f at)) best) (at + 1) (count - (at + 1))
          ≡ cond b (from (extent_of at (f at)) (at + 1) (count - (at + 1))) (from best (at + 1) (count - (at + 1)))
      chosen true = refl
      chosen false = refl

  pub ends : (best : Extent) (at all : ℕ) → count ≤ at → from best at (count - at) ≡ all → best.axis ≡ all
  ends best at all over before = let none : count - at ≡ 0 = omega (arith, over) in sym (ap (from best at) none) ∙ before
