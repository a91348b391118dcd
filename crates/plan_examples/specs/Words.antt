-- Words for writing worked programs.
use Rattle.std.specs.Prelude.{ℕ, ℤ, pos, false, List, [], ◌∷◌}
use Rattle.fd_words.specs.declared.place.Role.{Role}
use Rattle.fd_words.specs.declared.place.Role.TheVariants.{Index}
use Rattle.fd_words.specs.declared.source.SourcePlace.{SourcePlace}
use Rattle.fd_words.specs.declared.arith.Arith.{Arith}
use Rattle.fd_program.specs.declared.array.ArrayFacts.{ArrayFacts}
use Rattle.fd_program.specs.declared.array.LayoutName.{LayoutName}
use Rattle.fd_program.specs.declared.array.OutputName.{OutputName}
use Rattle.fd_program.specs.declared.body.CheckedBody.{CheckedBody}
use Rattle.fd_program.specs.declared.body.CheckedExpr as expr
use Rattle.fd_program.specs.declared.reference.CheckedSubscript.TheVariants.{Plain, Through, Scalar}
use Rattle.fd_program.specs.declared.reference.Reference.{Reference}
use Rattle.fd_program.specs.declared.scalar.CheckedScalar.{CheckedScalar}
use Rattle.fd_program.specs.declared.scalar.CheckedScalar as scalar
use Rattle.fd_program.specs.declared.scalar.CheckedTerm.{CheckedTerm}
use Rattle.fd_program.specs.declared.site.Site.{Site}

-- the start of a line
abbrev pub line : ℕ → SourcePlace
line n = record { line = n; column = 1 }

-- ---- scalars

abbrev pub constant : ℤ → CheckedScalar
constant z = scalar.Number z (line 1)

abbrev pub variable : ℕ → CheckedScalar
variable depth = scalar.Variable depth (line 1)

abbrev pub scalars : Arith → CheckedScalar → CheckedScalar → CheckedScalar
scalars op a b = scalar.Binary' op (line 1) tt (scalar.more_of-CheckedScalar a scalar.end_of-CheckedScalar) tt
    (scalar.more_of-CheckedScalar b scalar.end_of-CheckedScalar)

abbrev pub no_add : List CheckedTerm
no_add = []

abbrev pub add : ℤ → List CheckedTerm
add z = record { minus = false; at = line 1; scalar = constant z } ∷ []

-- ---- expressions

abbrev pub both : Arith → expr.CheckedExpr → expr.CheckedExpr → expr.CheckedExpr
both op a b = expr.Binary' op tt (expr.more_of-CheckedExpr a expr.end_of-CheckedExpr) tt
    (expr.more_of-CheckedExpr b expr.end_of-CheckedExpr)

-- ---- references

abbrev pub at_index : Role → ℕ → List CheckedTerm → ℕ → Reference
at_index role array add stamp = record { role = role; array = array; subscript = Plain add; stamp = stamp }

abbrev pub at_scalar : Role → ℕ → ℤ → ℕ → Reference
at_scalar role array z stamp = record { role = role; array = array; subscript = Scalar (constant z); stamp = stamp }

-- an index reference, and the reference through it
abbrev pub index_of : ℕ → List CheckedTerm → Reference
index_of array add = at_index Index array add 0

abbrev pub through : Role → ℕ → ℕ → List CheckedTerm → List CheckedTerm → ℕ → Reference
through role array index_array inner_add add stamp =
    record { role = role; array = array; subscript = Through index_array (line 1) inner_add add; stamp = stamp }

-- ---- declarations

-- an array at the start of a decomposition
abbrev pub array : List ℕ → ℕ → ℕ → ArrayFacts
array name extent decomposition = record { name = name; extent = extent; decomposition = decomposition; offset = pos 0 }

abbrev pub layout : List ℕ → ℕ → LayoutName
layout name extent = record { name = name; extent = extent }

abbrev pub output : ℕ → OutputName
output array = record { array = array; at = line 1 }

-- a FORALL in a line of the source, without scalar names
abbrev pub forall_from : ℕ → CheckedScalar → CheckedScalar → List CheckedBody → List Reference → Site
forall_from at_line low high body references =
    record { at = line at_line; low = low; high = high; body = body; references = references; terms = [] }
