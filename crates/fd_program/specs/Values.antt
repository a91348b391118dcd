-- The wrapping values of expressions.
use denote.Hole.Carrier.{hidden}
use Rattle.fd_program.specs.declared.body.CheckedExpr.TheBlock.{shape-the_row-CheckedExpr-0, hidden-the_row-CheckedExpr-0}
use Rattle.std.specs.Prelude.{◌≡◌, refl, ℕ, ℤ, neg_ℤ, List}
use Rattle.fd_words.specs.Value.{wrapped}
use Rattle.fd_words.specs.declared.arith.Arith.{Arith}
use Rattle.fd_words.specs.Operators.{exactly}
use Rattle.fd_program.specs.Stores.{number_at}
use Rattle.fd_program.specs.Uses.{read_of, use_at}
use Rattle.fd_program.specs.declared.body.CheckedExpr.{CheckedExpr}
use Rattle.fd_program.specs.declared.body.CheckedExpr as expr
use Rattle.fd_program.specs.declared.loop_use.Use.{Use}

-- the value at iteration i, where `read` tells the value of each reference by its number, and `terms` those of the scalar names
abbrev pub value_of : (ℕ → ℤ) → List ℤ → ℤ → CheckedExpr → ℤ
value_of read terms i (expr.Number value) = value
value_of read terms i expr.Index = i
value_of read terms i (expr.Term place) = number_at terms place
value_of read terms i (expr.Read number) = read number
value_of read terms i (expr.Negate' s (expr.more_of-CheckedExpr inner expr.end_of-CheckedExpr)) =
    wrapped (neg_ℤ (value_of read terms i inner))
value_of read terms i (expr.Binary' op s (expr.more_of-CheckedExpr left expr.end_of-CheckedExpr) t
    (expr.more_of-CheckedExpr right expr.end_of-CheckedExpr)) =
    wrapped (exactly op (value_of read terms i left) (value_of read terms i right))

-- what a reference reads in a store
abbrev pub read_in : List (List ℤ) → List Use → ℕ → ℤ
read_in store uses number = read_of store (use_at uses number)

-- ---- the same, at the variants as code writes them

pub value_of-Negate : (read : ℕ → ℤ) (terms : List ℤ) (i : ℤ) (inner : CheckedExpr)
    → value_of read terms i (expr.Negate inner) ≡ wrapped (neg_ℤ (value_of read terms i inner))
unfolding shape-the_row-CheckedExpr-0 hidden-the_row-CheckedExpr-0 hidden
value_of-Negate read terms i inner = refl

pub value_of-Binary : (read : ℕ → ℤ) (terms : List ℤ) (i : ℤ) (op : Arith) (left right : CheckedExpr)
    → value_of read terms i (expr.Binary op left right) ≡ wrapped (exactly op (value_of read terms i left) (value_of read terms i right))
unfolding shape-the_row-CheckedExpr-0 hidden-the_row-CheckedExpr-0 hidden
value_of-Binary read terms i op left right = refl
