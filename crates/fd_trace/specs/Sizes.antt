-- Scalars that are too large, in the order of evaluation: operands from left to right before their operator. Values are exact;
-- only the first fault counts.
use denote.Hole.Carrier.{hidden}
use Rattle.fd_program.specs.declared.scalar.CheckedScalar.TheBlock.{shape-the_row-CheckedScalar-0, hidden-the_row-CheckedScalar-0}
use Rattle.std.specs.Prelude.{◌≡◌, refl, ℤ, pos, neg_ℤ, ◌||◌, int_lt, Bool, if◌then◌else◌, List, [], ◌∷◌, ◌++◌, flat_map, ◌≤ℤ◌}
use Rattle.fd_words.specs.declared.source.SourcePlace.{SourcePlace}
use Rattle.fd_words.specs.declared.source.SourceFault.{SourceFault}
use Rattle.fd_words.specs.declared.source.SourceCause.TheVariants as cause
use Rattle.fd_words.specs.declared.arith.Arith.{Arith}
use Rattle.fd_program.specs.Scalars.{scalar_value}
use Rattle.fd_words.specs.Operators.{exactly, sign_of}
use Rattle.fd_program.specs.declared.scalar.CheckedScalar.{CheckedScalar, Number, Variable, Negate', Binary', more_of-CheckedScalar}
use Rattle.fd_program.specs.declared.scalar.CheckedScalar.{end_of-CheckedScalar}
use Rattle.fd_program.specs.declared.scalar.CheckedScalar as scalar
use Rattle.fd_program.specs.declared.scalar.CheckedTerm.{CheckedTerm}
use Rattle.fd_program.specs.declared.reference.CheckedSubscript.{CheckedSubscript}
use Rattle.fd_program.specs.declared.reference.CheckedSubscript.TheVariants.{Plain, Through, Twice, Scalar}
use Rattle.fd_program.specs.declared.reference.Reference.{Reference}

-- 2^40
abbrev pub most : ℤ
most = pos 1099511627776

abbrev pub is_large : ℤ → Bool
is_large z = int_lt most z || int_lt z (neg_ℤ most)

-- no more than that in size, either way
pub record IsSmall (z : ℤ) : Type 0 where
  pub low : neg_ℤ most ≤ℤ z
  pub high : z ≤ℤ most

-- ScalarTooLarge, at a value
abbrev pub large : SourcePlace → ℤ → List SourceFault
large at z = if is_large z then record { at = at; cause = cause.ScalarTooLarge } ∷ [] else []

-- numbers, sums, differences and products
abbrev pub scalar_faults : List ℤ → CheckedScalar → List SourceFault
scalar_faults variables (Number value at) = large at value
scalar_faults variables (Variable depth at) = []
scalar_faults variables (Negate' at s (more_of-CheckedScalar inner end_of-CheckedScalar)) = scalar_faults variables inner
scalar_faults variables (Binary' op at s (more_of-CheckedScalar left end_of-CheckedScalar) t
    (more_of-CheckedScalar right end_of-CheckedScalar)) =
    scalar_faults variables left
    ++ (scalar_faults variables right ++ large at (exactly op (scalar_value variables left) (scalar_value variables right)))

-- an offset's terms and partial sums, from what stands before them on
abbrev pub offset_faults : List ℤ → ℤ → List CheckedTerm → List SourceFault
offset_faults variables total [] = []
offset_faults variables total (t ∷ ts) =
    scalar_faults variables t.scalar
    ++ (large t.at (exactly (sign_of t.minus) total (scalar_value variables t.scalar))
    ++ offset_faults variables (exactly (sign_of t.minus) total (scalar_value variables t.scalar)) ts)

-- the offset of a subscript, or the scalar that it is; the offsets inside an index array's subscript are those of the index references
abbrev pub add_faults : List ℤ → CheckedSubscript → List SourceFault
add_faults variables (Plain add) = offset_faults variables (pos 0) add
add_faults variables (Through index_array at inner_add add) = offset_faults variables (pos 0) add
add_faults variables (Twice outer at inner inner_at first_add second_add add) = offset_faults variables (pos 0) add
add_faults variables (Scalar s) = scalar_faults variables s

-- those of a loop's references, in the order of their numbers
abbrev pub adds_faults : List ℤ → List Reference → List SourceFault
adds_faults variables references = flat_map (λ (r : Reference). add_faults variables r.subscript) references

-- ---- the same, at the variants as code writes them

pub scalar_faults-Negate : (variables : List ℤ) (at : SourcePlace) (inner : CheckedScalar)
    → scalar_faults variables (scalar.Negate at inner) ≡ scalar_faults variables inner
unfolding shape-the_row-CheckedScalar-0 hidden-the_row-CheckedScalar-0 hidden
scalar_faults-Negate variables at inner = refl

pub scalar_faults-Binary : (variables : List ℤ) (op : Arith) (at : SourcePlace) (left right : CheckedScalar)
    → scalar_faults variables (scalar.Binary op at left right)
    ≡ scalar_faults variables left
    ++ (scalar_faults variables right ++ large at (exactly op (scalar_value variables left) (scalar_value variables right)))
unfolding shape-the_row-CheckedScalar-0 hidden-the_row-CheckedScalar-0 hidden
scalar_faults-Binary variables op at left right = refl
