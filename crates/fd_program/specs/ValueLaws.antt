-- The value of an operation, where numbers are signed values of 64 bits.
use Rattle.std.specs.Prelude.{◌≡◌, ℕ, ℤ, List, FitsSigned}
use Rattle.std.proofs.Common.{ap, sym, ◌∙◌, to_z, of_z}
use Rattle.std.specs.Int.{w64}
use Rattle.std.proofs.lemmas.Int.{to_z-of_z}
use Rattle.fd_words.specs.Value.{wrapped}
use Rattle.fd_words.specs.Operators.{exactly}
use Rattle.fd_words.specs.declared.arith.Arith.{Arith}
use Rattle.fd_program.specs.Values.{value_of, value_of-Binary}
use Rattle.fd_program.specs.declared.body.CheckedExpr.{CheckedExpr}
use Rattle.fd_program.specs.declared.body.CheckedExpr as expr

module _ (read : ℕ → ℤ) (terms : List ℤ) (i : ℤ) (fits : FitsSigned w64 i) where
  -- the value of an operand, evaluated at the iteration as it is passed on
  operand_is : (side inner : CheckedExpr) (value : ℤ) → inner ≡ side → value ≡ value_of read terms (to_z w64 (of_z w64 i)) inner
      → FitsSigned w64 value → to_z w64 (of_z w64 value) ≡ value_of read terms i side
  operand_is side inner value same is small =
      to_z-of_z w64 value small ∙ is ∙ ap (λ k. value_of read terms k inner) (to_z-of_z w64 i fits) ∙ ap (value_of read terms i) same

  pub binary_is : (op : Arith) (left right : CheckedExpr) {l r whole : CheckedExpr} {a b value : ℤ} → l ≡ left → r ≡ right
      → a ≡ value_of read terms (to_z w64 (of_z w64 i)) l → b ≡ value_of read terms (to_z w64 (of_z w64 i)) r
      → value ≡ wrapped (exactly op (to_z w64 (of_z w64 a)) (to_z w64 (of_z w64 b))) → whole ≡ expr.Binary op left right
      → FitsSigned w64 a → FitsSigned w64 b → FitsSigned w64 value → to_z w64 (of_z w64 value) ≡ value_of read terms i whole
  binary_is op left right {l} {r} {whole} {a} {b} {value} same_l same_r at_l at_r is same small_a small_b small =
      to_z-of_z w64 value small ∙ is
      ∙ ap (λ x. wrapped (exactly op x (to_z w64 (of_z w64 b)))) (operand_is left l a same_l at_l small_a)
      ∙ ap (λ x. wrapped (exactly op (value_of read terms i left) x)) (operand_is right r b same_r at_r small_b)
      ∙ sym (value_of-Binary read terms i op left right)
      ∙ ap (value_of read terms i) (sym same)
