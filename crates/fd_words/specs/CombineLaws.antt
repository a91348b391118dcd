-- Combining is commutative and associative, and has a unit.
use Rattle.std.specs.Prelude.{◌≡◌, ℤ, ◌+ℤ◌, pos, FitsSigned}
use Rattle.std.specs.Int.{w64, int_wrap}
use Rattle.std.proofs.Common.{ap, sym, ◌∙◌, arith}
use Rattle.std.proofs.lemmas.Int.{int_wrap-add_left, int_wrap-add_right, int_wrap_fits, clamps, ints}
use Rattle.fd_words.specs.Combining.{combined, unit_of}
use Rattle.fd_words.specs.declared.combine.Combine.{Combine}
use Rattle.fd_words.specs.declared.combine.Combine.TheVariants.{Add, Min, Max}

pub combined_comm : (op : Combine) (a b : ℤ) → combined op a b ≡ combined op b a
combined_comm Add a b = let e : a +ℤ b ≡ (b +ℤ a) = omega (arith, ints) in ap (int_wrap w64) e
combined_comm Min a b = omega (arith, ints, clamps)
combined_comm Max a b = omega (arith, ints, clamps)

pub combined_assoc : (op : Combine) (a b c : ℤ) → combined op (combined op a b) c ≡ combined op a (combined op b c)
combined_assoc Add a b c =
    let e : a +ℤ b +ℤ c ≡ a +ℤ (b +ℤ c) = omega (arith, ints) in
    int_wrap-add_left w64 (a +ℤ b) c ∙ ap (int_wrap w64) e ∙ sym (int_wrap-add_right w64 a (b +ℤ c))
combined_assoc Min a b c = omega (arith, ints, clamps)
combined_assoc Max a b c = omega (arith, ints, clamps)

pub combined_unit : (op : Combine) (a : ℤ) → FitsSigned w64 a → combined op (unit_of op) a ≡ a
combined_unit Add a h = let e : pos 0 +ℤ a ≡ a = omega (arith, ints) in ap (int_wrap w64) e ∙ int_wrap_fits w64 a h
combined_unit Min a h = omega (arith, ints, clamps)
combined_unit Max a h = omega (arith, ints, clamps)
