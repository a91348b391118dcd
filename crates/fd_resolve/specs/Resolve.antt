-- Names and scalars of statements, resolved, and the names in them that aren't known.
use denote.Hole.Carrier.{hidden}
use Rattle.fd_syntax.specs.declared.scalar.Scalar.TheBlock.{shape-the_row-Scalar-0, hidden-the_row-Scalar-0}
use Rattle.fd_program.specs.declared.scalar.CheckedScalar.TheBlock.{shape-the_row-CheckedScalar-0, hidden-the_row-CheckedScalar-0}
use Rattle.std.specs.Prelude.{◌≡◌, refl, ℕ, ℤ, pos, Bool, not, ◌||◌, List, [], ◌∷◌, ◌++◌, map, flat_map, Option, Some, None, is_some}
use Rattle.std.specs.Prelude.{unwrap_or, position}
use Rattle.fd_words.specs.declared.source.SourcePlace.{SourcePlace}
use Rattle.fd_words.specs.declared.source.SourceCause.TheVariants as cause
use Rattle.fd_words.specs.declared.source.SourceFault.{SourceFault}
use Rattle.fd_words.specs.declared.arith.Arith.{Arith}
use Rattle.fd_syntax.specs.declared.scalar.Scalar.{Scalar, Number, Named, Negate', Binary', more_of-Scalar, end_of-Scalar}
use Rattle.fd_syntax.specs.declared.scalar.Scalar as scalar
use Rattle.fd_syntax.specs.declared.scalar.Term.{Term}
use Rattle.fd_syntax.specs.declared.expr.Subscript.{Subscript}
use Rattle.fd_syntax.specs.declared.expr.Subscript.TheVariants as subscript
use Rattle.fd_program.specs.declared.scalar.CheckedScalar as checked
use Rattle.fd_program.specs.declared.scalar.CheckedTerm.{CheckedTerm}
use Rattle.fd_program.specs.declared.reference.CheckedSubscript.{CheckedSubscript}
use Rattle.fd_program.specs.declared.reference.CheckedSubscript.TheVariants as resolved
use Rattle.fd_scope.specs.declared.head.Head.{Head}
use Rattle.fd_scope.specs.Faults.{fault_if}
use Rattle.fd_scope.specs.Names.{known, name_eq, as_constant, as_array}
use Rattle.fd_scope.specs.Scalars.{constant_value, no_scalar}
use Rattle.fd_resolve.specs.declared.marks.Mark.{Mark}
use Rattle.fd_resolve.specs.declared.marks.Mark.TheVariants as mark
use Rattle.fd_resolve.specs.declared.around.Around.{Around}

-- ---- names

-- how many DOs are around the one whose variable this is
abbrev pub depth_of : Around → List ℕ → Option ℕ
depth_of a name = position (name_eq name) a.variables

-- a constant: None where it is none, Some None where it has no value
abbrev pub constant_of : Head → Around → List ℕ → Option (Option ℤ)
constant_of h a name = as_constant (known h.scope.names a.here name)

abbrev pub array_called : Head → Around → List ℕ → Option ℕ
array_called h a name = as_array (known h.scope.names a.here name)

abbrev pub array_or_first : Head → Around → List ℕ → ℕ
array_or_first h a name = unwrap_or (array_called h a name) 0

-- a constant or an enclosing variable is known as a scalar
abbrev pub is_scalar : Head → Around → List ℕ → Bool
is_scalar h a name = is_some (depth_of a name) || is_some (constant_of h a name)

-- NotIndex, or Unknown: the name isn't known as a scalar
abbrev pub scalar_unknown : Head → Around → List ℕ → SourcePlace → List SourceFault
scalar_unknown h a name at = fault_if (not (is_scalar h a name)) at (no_scalar h.loops name)

-- Unknown: the name isn't known as an array
abbrev pub array_unknown : Head → Around → List ℕ → SourcePlace → List SourceFault
array_unknown h a name at = fault_if (not (is_some (array_called h a name))) at (cause.Unknown name)

-- ---- scalars

-- a variable, or a constant; 0 where it is neither
abbrev pub name_resolved : Option ℕ → Option ℤ → SourcePlace → checked.CheckedScalar
name_resolved (Some depth) value at = checked.Variable depth at
name_resolved None value at = checked.Number (unwrap_or value (pos 0)) at

abbrev pub named : Head → Around → List ℕ → SourcePlace → checked.CheckedScalar
named h a name at = name_resolved (depth_of a name) (constant_value (constant_of h a name)) at

abbrev pub resolved_scalar : Head → Around → Scalar → checked.CheckedScalar
resolved_scalar h a (Number value at) = checked.Number value at
resolved_scalar h a (Named name at) = named h a name at
resolved_scalar h a (Negate' at s (more_of-Scalar inner end_of-Scalar)) =
    checked.Negate' at tt (checked.more_of-CheckedScalar (resolved_scalar h a inner) checked.end_of-CheckedScalar)
resolved_scalar h a (Binary' op at s (more_of-Scalar left end_of-Scalar) t (more_of-Scalar right end_of-Scalar)) =
    checked.Binary' op at tt (checked.more_of-CheckedScalar (resolved_scalar h a left) checked.end_of-CheckedScalar)
    tt (checked.more_of-CheckedScalar (resolved_scalar h a right) checked.end_of-CheckedScalar)

abbrev pub scalar_unknowns : Head → Around → Scalar → List SourceFault
scalar_unknowns h a (Number value at) = []
scalar_unknowns h a (Named name at) = scalar_unknown h a name at
scalar_unknowns h a (Negate' at s (more_of-Scalar inner end_of-Scalar)) = scalar_unknowns h a inner
scalar_unknowns h a (Binary' op at s (more_of-Scalar left end_of-Scalar) t (more_of-Scalar right end_of-Scalar)) =
    scalar_unknowns h a left ++ scalar_unknowns h a right

-- a name without its place: a variable, a value, or itself
abbrev pub name_mark : Option ℕ → Option ℤ → List ℕ → Mark
name_mark (Some depth) value name = mark.Variable depth
name_mark None (Some value) name = mark.Number value
name_mark None None name = mark.Unknown name

abbrev pub scalar_marks : Head → Around → Scalar → List Mark
scalar_marks h a (Number value at) = mark.Number value ∷ []
scalar_marks h a (Named name at) = name_mark (depth_of a name) (constant_value (constant_of h a name)) name ∷ []
scalar_marks h a (Negate' at s (more_of-Scalar inner end_of-Scalar)) = mark.Negate ∷ scalar_marks h a inner
scalar_marks h a (Binary' op at s (more_of-Scalar left end_of-Scalar) t (more_of-Scalar right end_of-Scalar)) =
    mark.Binary op ∷ (scalar_marks h a left ++ scalar_marks h a right)

-- ---- offsets and subscripts

abbrev pub term_resolved : Head → Around → Term → CheckedTerm
term_resolved h a t = record { minus = t.minus; at = t.at; scalar = resolved_scalar h a t.scalar }

abbrev pub offset_resolved : Head → Around → List Term → List CheckedTerm
offset_resolved h a add = map (term_resolved h a) add

abbrev pub term_unknowns : Head → Around → Term → List SourceFault
term_unknowns h a t = scalar_unknowns h a t.scalar

abbrev pub offset_unknowns : Head → Around → List Term → List SourceFault
offset_unknowns h a add = flat_map (term_unknowns h a) add

abbrev pub term_marks : Head → Around → Term → List Mark
term_marks h a t = mark.Term t.minus ∷ scalar_marks h a t.scalar

abbrev pub offset_marks : Head → Around → List Term → List Mark
offset_marks h a add = flat_map (term_marks h a) add

abbrev pub subscript_resolved : Head → Around → Subscript → CheckedSubscript
subscript_resolved h a (subscript.Plain add) = resolved.Plain (offset_resolved h a add)
subscript_resolved h a (subscript.Through index_array at inner_add add) =
    resolved.Through (array_or_first h a index_array) at (offset_resolved h a inner_add) (offset_resolved h a add)
subscript_resolved h a (subscript.Twice outer at inner inner_at first second add) =
    resolved.Twice (array_or_first h a outer) at (array_or_first h a inner) inner_at (offset_resolved h a first)
    (offset_resolved h a second) (offset_resolved h a add)
subscript_resolved h a (subscript.Scalar s) = resolved.Scalar (resolved_scalar h a s)

abbrev pub subscript_unknowns : Head → Around → Subscript → List SourceFault
subscript_unknowns h a (subscript.Plain add) = offset_unknowns h a add
subscript_unknowns h a (subscript.Through index_array at inner_add add) =
    array_unknown h a index_array at ++ (offset_unknowns h a inner_add ++ offset_unknowns h a add)
subscript_unknowns h a (subscript.Twice outer at inner inner_at first second add) =
    array_unknown h a outer at ++ (array_unknown h a inner inner_at
    ++ (offset_unknowns h a first ++ (offset_unknowns h a second ++ offset_unknowns h a add)))
subscript_unknowns h a (subscript.Scalar s) = scalar_unknowns h a s

abbrev pub array_mark : Option ℕ → List ℕ → Mark
array_mark (Some number) name = mark.Through number
array_mark None name = mark.Unknown name

abbrev pub subscript_marks : Head → Around → Subscript → List Mark
subscript_marks h a (subscript.Plain add) = mark.Plain ∷ offset_marks h a add
subscript_marks h a (subscript.Through index_array at inner_add add) =
    array_mark (array_called h a index_array) index_array ∷ (offset_marks h a inner_add ++ mark.Plain ∷ offset_marks h a add)
subscript_marks h a (subscript.Twice outer at inner inner_at first second add) =
    array_mark (array_called h a outer) outer ∷ (array_mark (array_called h a inner) inner
    ∷ (offset_marks h a first ++ mark.Plain ∷ (offset_marks h a second ++ mark.Plain ∷ offset_marks h a add)))
subscript_marks h a (subscript.Scalar s) = mark.Scalar ∷ scalar_marks h a s

-- ---- the same, at the variants as code writes them

pub resolved_scalar-Negate : (h : Head) (a : Around) (at : SourcePlace) (inner : Scalar)
    → resolved_scalar h a (scalar.Negate at inner) ≡ checked.Negate at (resolved_scalar h a inner)
unfolding shape-the_row-Scalar-0 hidden-the_row-Scalar-0 shape-the_row-CheckedScalar-0 hidden-the_row-CheckedScalar-0 hidden
resolved_scalar-Negate h a at inner = refl

pub resolved_scalar-Binary : (h : Head) (a : Around) (op : Arith) (at : SourcePlace) (left right : Scalar)
    → resolved_scalar h a (scalar.Binary op at left right) ≡ checked.Binary op at (resolved_scalar h a left) (resolved_scalar h a right)
unfolding shape-the_row-Scalar-0 hidden-the_row-Scalar-0 shape-the_row-CheckedScalar-0 hidden-the_row-CheckedScalar-0 hidden
resolved_scalar-Binary h a op at left right = refl

pub scalar_unknowns-Negate : (h : Head) (a : Around) (at : SourcePlace) (inner : Scalar)
    → scalar_unknowns h a (scalar.Negate at inner) ≡ scalar_unknowns h a inner
unfolding shape-the_row-Scalar-0 hidden-the_row-Scalar-0 hidden
scalar_unknowns-Negate h a at inner = refl

pub scalar_unknowns-Binary : (h : Head) (a : Around) (op : Arith) (at : SourcePlace) (left right : Scalar)
    → scalar_unknowns h a (scalar.Binary op at left right) ≡ scalar_unknowns h a left ++ scalar_unknowns h a right
unfolding shape-the_row-Scalar-0 hidden-the_row-Scalar-0 hidden
scalar_unknowns-Binary h a op at left right = refl

pub scalar_marks-Negate : (h : Head) (a : Around) (at : SourcePlace) (inner : Scalar)
    → scalar_marks h a (scalar.Negate at inner) ≡ mark.Negate ∷ scalar_marks h a inner
unfolding shape-the_row-Scalar-0 hidden-the_row-Scalar-0 hidden
scalar_marks-Negate h a at inner = refl

pub scalar_marks-Binary : (h : Head) (a : Around) (op : Arith) (at : SourcePlace) (left right : Scalar)
    → scalar_marks h a (scalar.Binary op at left right) ≡ mark.Binary op ∷ (scalar_marks h a left ++ scalar_marks h a right)
unfolding shape-the_row-Scalar-0 hidden-the_row-Scalar-0 hidden
scalar_marks-Binary h a op at left right = refl
