-- The exact values of scalars and offsets. `variables` has the values of the enclosing DOs, the outermost first.
use denote.Hole.Carrier.{hidden}
use Rattle.fd_program.specs.declared.scalar.CheckedScalar.TheBlock.{shape-the_row-CheckedScalar-0, hidden-the_row-CheckedScalar-0}
use Rattle.std.specs.Prelude.{◌≡◌, refl, ℤ, pos, neg_ℤ, List, [], ◌∷◌}
use Rattle.fd_words.specs.declared.source.SourcePlace.{SourcePlace}
use Rattle.fd_words.specs.declared.arith.Arith.{Arith}
use Rattle.fd_words.specs.Operators.{exactly, sign_of}
use Rattle.fd_program.specs.Stores.{number_at}
use Rattle.fd_program.specs.declared.scalar.CheckedScalar.{CheckedScalar, Number, Variable, Negate', Binary', more_of-CheckedScalar}
use Rattle.fd_program.specs.declared.scalar.CheckedScalar.{end_of-CheckedScalar}
use Rattle.fd_program.specs.declared.scalar.CheckedScalar as scalar
use Rattle.fd_program.specs.declared.scalar.CheckedTerm.{CheckedTerm}
use Rattle.fd_program.specs.declared.reference.CheckedSubscript.{CheckedSubscript}
use Rattle.fd_program.specs.declared.reference.CheckedSubscript.TheVariants.{Plain, Through, Twice, Scalar}

abbrev pub scalar_value : List ℤ → CheckedScalar → ℤ
scalar_value variables (Number value at) = value
scalar_value variables (Variable depth at) = number_at variables depth
scalar_value variables (Negate' at s (more_of-CheckedScalar inner end_of-CheckedScalar)) = neg_ℤ (scalar_value variables inner)
scalar_value variables (Binary' op at s (more_of-CheckedScalar left end_of-CheckedScalar) t
    (more_of-CheckedScalar right end_of-CheckedScalar)) =
    exactly op (scalar_value variables left) (scalar_value variables right)

-- the terms added to what stands before them
abbrev pub offset_value : List ℤ → ℤ → List CheckedTerm → ℤ
offset_value variables total [] = total
offset_value variables total (t ∷ ts) = offset_value variables (exactly (sign_of t.minus) total (scalar_value variables t.scalar)) ts

-- the number that a subscript adds, or that it is; an index reference has its own
abbrev pub add_of : List ℤ → CheckedSubscript → ℤ
add_of variables (Plain add) = offset_value variables (pos 0) add
add_of variables (Through index_array at inner_add add) = offset_value variables (pos 0) add
add_of variables (Twice outer at inner inner_at first_add second_add add) = offset_value variables (pos 0) add
add_of variables (Scalar scalar) = scalar_value variables scalar

-- ---- the same, at the variants as code writes them

pub scalar_value-Negate : (variables : List ℤ) (at : SourcePlace) (inner : CheckedScalar)
    → scalar_value variables (scalar.Negate at inner) ≡ neg_ℤ (scalar_value variables inner)
unfolding shape-the_row-CheckedScalar-0 hidden-the_row-CheckedScalar-0 hidden
scalar_value-Negate variables at inner = refl

pub scalar_value-Binary : (variables : List ℤ) (op : Arith) (at : SourcePlace) (left right : CheckedScalar)
    → scalar_value variables (scalar.Binary op at left right) ≡ exactly op (scalar_value variables left) (scalar_value variables right)
unfolding shape-the_row-CheckedScalar-0 hidden-the_row-CheckedScalar-0 hidden
scalar_value-Binary variables op at left right = refl
