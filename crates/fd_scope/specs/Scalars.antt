-- Scalars of declarations: their values and their faults. Only constants are known in them, where they are declared before `here`.
use denote.Hole.Carrier.{hidden}
use Rattle.fd_syntax.specs.declared.scalar.Scalar.TheBlock.{shape-the_row-Scalar-0, hidden-the_row-Scalar-0}
use Rattle.fd_syntax.specs.declared.scalar.Scalar as scalar
use Rattle.fd_words.specs.declared.source.SourceCause.{SourceCause}
use Rattle.std.specs.List.{list_any}
use Rattle.std.specs.Prelude.{◌≡◌, refl, ℕ, ℤ, pos, ◌++◌, Bool, not, ◌||◌, List, [], ◌∷◌, Option, Some, None, neg_ℤ, int_lt, is_some}
use Rattle.std.specs.Prelude.{if◌then◌else◌}
use Rattle.std.specs.Option.{option_map}
use Rattle.fd_words.specs.Operators.{exactly, sign_of}
use Rattle.fd_words.specs.declared.source.SourcePlace.{SourcePlace}
use Rattle.fd_words.specs.declared.arith.Arith.{Arith}
use Rattle.fd_words.specs.declared.source.SourceCause.TheVariants as cause
use Rattle.fd_words.specs.declared.source.SourceFault.{SourceFault}
use Rattle.fd_scope.specs.declared.names.Known.{Known}
use Rattle.fd_scope.specs.Faults.{fault_if}
use Rattle.fd_scope.specs.Names.{known, name_eq, as_constant}
use Rattle.fd_syntax.specs.declared.scalar.Scalar.{Scalar, Number, Named, Negate', Binary', more_of-Scalar, end_of-Scalar}
use Rattle.fd_syntax.specs.declared.scalar.Term.{Term}

abbrev pub most : ℤ
most = pos 1099511627776

abbrev pub is_large : ℤ → Bool
is_large z = int_lt most z || int_lt z (neg_ℤ most)

abbrev pub sized : ℤ → Option ℤ
sized z = if is_large z then None else Some z

-- a value, where it is not too large
abbrev pub within : Option ℤ → Option ℤ
within None = None
within (Some z) = sized z

-- what an operator gives, exactly, where both operands have a value
abbrev pub both : Arith → Option ℤ → Option ℤ → Option ℤ
both op None b = None
both op (Some a) None = None
both op (Some a) (Some b) = Some (exactly op a b)

-- the value that a name has as a scalar
abbrev pub constant_value : Option (Option ℤ) → Option ℤ
constant_value None = None
constant_value (Some value) = value

-- the value of a scalar, where nothing in it is at fault (a value that is not too large, negated, is not either)
abbrev pub scalar_within : List (List ℕ × Known) → SourcePlace → Scalar → Option ℤ
scalar_within names here (Number value at) = sized value
scalar_within names here (Named name at) = constant_value (as_constant (known names here name))
scalar_within names here (Negate' at s (more_of-Scalar inner end_of-Scalar)) = within (option_map neg_ℤ (scalar_within names here inner))
scalar_within names here (Binary' op at s (more_of-Scalar left end_of-Scalar) t (more_of-Scalar right end_of-Scalar)) =
    within (both op (scalar_within names here left) (scalar_within names here right))

-- ScalarTooLarge, at a value
abbrev pub large_faults : SourcePlace → Option ℤ → List SourceFault
large_faults at None = []
large_faults at (Some z) = fault_if (is_large z) at cause.ScalarTooLarge

-- the name is an index or a variable of a loop somewhere
abbrev pub is_loop_name : List (List ℕ) → List ℕ → Bool
is_loop_name loops name = list_any (name_eq name) loops

-- NotIndex, or Unknown
abbrev pub no_scalar : List (List ℕ) → List ℕ → SourceCause
no_scalar loops name = if is_loop_name loops name then cause.NotIndex name else cause.Unknown name

-- a name where a scalar is wanted
abbrev pub name_faults : List (List ℕ) → Option (Option ℤ) → List ℕ → SourcePlace → List SourceFault
name_faults loops constant name at = fault_if (not (is_some constant)) at (no_scalar loops name)

abbrev pub scalar_faults : List (List ℕ × Known) → SourcePlace → List (List ℕ) → Scalar → List SourceFault
scalar_faults names here loops (Number value at) = large_faults at (Some value)
scalar_faults names here loops (Named name at) = name_faults loops (as_constant (known names here name)) name at
scalar_faults names here loops (Negate' at s (more_of-Scalar inner end_of-Scalar)) = scalar_faults names here loops inner
scalar_faults names here loops (Binary' op at s (more_of-Scalar left end_of-Scalar) t (more_of-Scalar right end_of-Scalar)) =
    scalar_faults names here loops left ++ (scalar_faults names here loops right ++ large_faults at
    (both op (scalar_within names here left) (scalar_within names here right)))

-- ---- the same, at the variants as code writes them

pub scalar_within-Negate : (names : List (List ℕ × Known)) (here : SourcePlace) (at : SourcePlace) (inner : Scalar)
    → scalar_within names here (scalar.Negate at inner) ≡ within (option_map neg_ℤ (scalar_within names here inner))
unfolding shape-the_row-Scalar-0 hidden-the_row-Scalar-0 hidden
scalar_within-Negate names here at inner = refl

pub scalar_within-Binary : (names : List (List ℕ × Known)) (here : SourcePlace) (op : Arith) (at : SourcePlace) (left right : Scalar)
    → scalar_within names here (scalar.Binary op at left right)
    ≡ within (both op (scalar_within names here left) (scalar_within names here right))
unfolding shape-the_row-Scalar-0 hidden-the_row-Scalar-0 hidden
scalar_within-Binary names here op at left right = refl

pub scalar_faults-Negate : (names : List (List ℕ × Known)) (here : SourcePlace) (loops : List (List ℕ)) (at : SourcePlace) (inner : Scalar)
    → scalar_faults names here loops (scalar.Negate at inner) ≡ scalar_faults names here loops inner
unfolding shape-the_row-Scalar-0 hidden-the_row-Scalar-0 hidden
scalar_faults-Negate names here loops at inner = refl

pub scalar_faults-Binary : (names : List (List ℕ × Known)) (here : SourcePlace) (loops : List (List ℕ)) (op : Arith) (at : SourcePlace)
    (left right : Scalar)
    → scalar_faults names here loops (scalar.Binary op at left right)
    ≡ scalar_faults names here loops left ++ (scalar_faults names here loops right ++ large_faults at
    (both op (scalar_within names here left) (scalar_within names here right)))
unfolding shape-the_row-Scalar-0 hidden-the_row-Scalar-0 hidden
scalar_faults-Binary names here loops op at left right = refl

-- ---- offsets

-- the value of an offset: its terms added to what stands before, from left to right
abbrev pub offset_within : List (List ℕ × Known) → SourcePlace → Option ℤ → List Term → Option ℤ
offset_within names here total [] = total
offset_within names here total (t ∷ ts) =
    offset_within names here (within (both (sign_of t.minus) total (scalar_within names here t.scalar))) ts

abbrev pub term_faults : List (List ℕ × Known) → SourcePlace → List (List ℕ) → Option ℤ → Term → List SourceFault
term_faults names here loops total t = scalar_faults names here loops t.scalar ++ large_faults t.at
    (both (sign_of t.minus) total (scalar_within names here t.scalar))

abbrev pub offset_faults : List (List ℕ × Known) → SourcePlace → List (List ℕ) → Option ℤ → List Term → List SourceFault
offset_faults names here loops total [] = []
offset_faults names here loops total (t ∷ ts) =
    term_faults names here loops total t ++ offset_faults names here loops
    (within (both (sign_of t.minus) total (scalar_within names here t.scalar))) ts
