-- What is declared, and the faults of declarations. A name keeps its first meaning.
use Rattle.std.specs.Prelude.{ℕ, ℤ, pos, ◌+ℤ◌, Bool, true, false, not, ◌||◌, ◌&&◌, ◌==◌, if◌then◌else◌, List, [], ◌∷◌, ◌++◌, length}
use Rattle.std.specs.Prelude.{slice_get, slice_set, Option, Some, None, is_some, int_lt, int_le, nat_le, fold}
use Rattle.std.specs.List.{list_any}
use Rattle.std.specs.Ordering.{int_eq}
use Rattle.chaos_dist.specs.Homes.{natural}
use Rattle.fd_words.specs.declared.source.SourcePlace.{SourcePlace}
use Rattle.fd_words.specs.declared.source.SourceCause.TheVariants as cause
use Rattle.fd_words.specs.declared.source.SourceFault.{SourceFault}
use Rattle.fd_syntax.specs.declared.scalar.Term.{Term}
use Rattle.fd_syntax.specs.declared.declaration.Parameter.{Parameter}
use Rattle.fd_syntax.specs.declared.declaration.SizedName.{SizedName}
use Rattle.fd_syntax.specs.declared.declaration.Listed.{Listed}
use Rattle.fd_syntax.specs.declared.declaration.Declaration.{Declaration}
use Rattle.fd_syntax.specs.declared.declaration.Declaration.TheVariants as declaration
use Rattle.fd_program.specs.declared.array.OutputName.{OutputName}
use Rattle.fd_scope.specs.declared.names.Known.{Known}
use Rattle.fd_scope.specs.declared.names.Meaning.{Meaning}
use Rattle.fd_scope.specs.declared.names.Meaning.TheVariants.{Constant, Array, Decomposition}
use Rattle.fd_scope.specs.declared.scope.Alignment.{Alignment}
use Rattle.fd_scope.specs.declared.scope.ArrayEntry.{ArrayEntry}
use Rattle.fd_scope.specs.declared.scope.LayoutEntry.{LayoutEntry}
use Rattle.fd_scope.specs.declared.scope.Scope.{Scope}
use Rattle.fd_scope.specs.Faults.{fault_if, along}
use Rattle.fd_scope.specs.Names.{found, as_array, as_decomposition}
use Rattle.fd_scope.specs.Scalars.{scalar_within, scalar_faults, offset_within, offset_faults}

abbrev pub nothing : Scope
nothing = record { names = []; arrays = []; layouts = []; reads = []; outputs = [] }

-- ---- names and extents

abbrev pub is_declared : Scope → List ℕ → Bool
is_declared scope name = is_some (found scope.names name)

-- Twice: the name is declared
abbrev pub twice_faults : Scope → List ℕ → SourcePlace → List SourceFault
twice_faults scope name at = fault_if (is_declared scope name) at (cause.Twice name)

abbrev pub is_extent : ℤ → Bool
is_extent z = int_le (pos 1) z && int_le z (pos 1048576)

abbrev pub extent_within : Option ℤ → Option ℕ
extent_within None = None
extent_within (Some z) = if is_extent z then Some (natural z) else None

-- BadExtent: the value is outside 1 to 1,048,576
abbrev pub bad_extent : SourcePlace → Option ℤ → List SourceFault
bad_extent at None = []
bad_extent at (Some z) = fault_if (not (is_extent z)) at cause.BadExtent

abbrev pub extent_of : Scope → SizedName → Option ℕ
extent_of scope s = extent_within (scalar_within scope.names s.at s.extent)

abbrev pub extent_faults : Scope → List (List ℕ) → SizedName → List SourceFault
extent_faults scope loops s = scalar_faults scope.names s.at loops s.extent
    ++ bad_extent s.extent_at (scalar_within scope.names s.at s.extent)

-- 64 are the most
abbrev pub is_full : {A : Type 0} → List A → Bool
is_full entries = nat_le 64 (length entries)

-- ---- what a new name adds

abbrev pub with_name : Scope → List ℕ → SourcePlace → Meaning → List (List ℕ × Known)
with_name scope name at meaning = scope.names ++ (name, record { at = at; meaning = meaning }) ∷ []

abbrev pub parameter_entered : Scope → Parameter → Scope
parameter_entered scope p = record scope { names = with_name scope p.name p.at (Constant (scalar_within scope.names p.at p.value)) }

abbrev pub array_entered : Scope → SizedName → Scope
array_entered scope s = record scope {
  names = with_name scope s.name s.at (Array (length scope.arrays));
  arrays = scope.arrays ++ record { name = s.name; extent = extent_of scope s; aligned = None } ∷ [];
}

abbrev pub layout_entered : Scope → SizedName → Scope
layout_entered scope s = record scope {
  names = with_name scope s.name s.at (Decomposition (length scope.layouts));
  layouts = scope.layouts ++ record { name = s.name; extent = extent_of scope s } ∷ [];
}

-- ---- PARAMETER, INTEGER, DECOMPOSITION

abbrev pub after_parameter : Scope → Parameter → Scope
after_parameter scope p = if is_declared scope p.name then scope else parameter_entered scope p

abbrev pub parameter_faults : List (List ℕ) → Scope → Parameter → List SourceFault
parameter_faults loops scope p = twice_faults scope p.name p.at ++ scalar_faults scope.names p.at loops p.value

-- TooManyNames: there are 64 of them before this one, which isn't entered then
abbrev pub sized_faults : Bool → List (List ℕ) → Scope → SizedName → List SourceFault
sized_faults full loops scope s = fault_if full s.at cause.TooManyNames ++ (twice_faults scope s.name s.at ++ extent_faults scope loops s)

abbrev pub after_array : Scope → SizedName → Scope
after_array scope s = if is_full scope.arrays || is_declared scope s.name then scope else array_entered scope s

abbrev pub array_faults : List (List ℕ) → Scope → SizedName → List SourceFault
array_faults loops scope s = sized_faults (is_full scope.arrays) loops scope s

abbrev pub after_layout : Scope → SizedName → Scope
after_layout scope s = if is_full scope.layouts || is_declared scope s.name then scope else layout_entered scope s

abbrev pub layout_faults : List (List ℕ) → Scope → SizedName → List SourceFault
layout_faults loops scope s = sized_faults (is_full scope.layouts) loops scope s

-- ---- ALIGN

abbrev pub array_numbered : List ArrayEntry → Option ℕ → Option ArrayEntry
array_numbered arrays None = None
array_numbered arrays (Some number) = slice_get arrays number

-- the array of a name
abbrev pub array_named : Scope → List ℕ → Option ArrayEntry
array_named scope name = array_numbered scope.arrays (as_array (found scope.names name))

abbrev pub entry_extent : Option LayoutEntry → Option ℕ
entry_extent None = None
entry_extent (Some e) = e.extent

-- the extent of a named decomposition
abbrev pub entry_extent_of : List LayoutEntry → Option ℕ → Option ℕ
entry_extent_of layouts None = None
entry_extent_of layouts (Some number) = entry_extent (slice_get layouts number)

-- element 1 or the last element stands outside; a value that is wanting is no fault here
abbrev pub is_outside : Option ℤ → Option ℕ → Option ℕ → Bool
is_outside (Some offset) (Some extent) (Some whole) = int_lt offset (pos 0) || int_lt (pos whole) (pos extent +ℤ offset)
is_outside (Some offset) (Some extent) None = false
is_outside (Some offset) None whole = false
is_outside None extent whole = false

-- Unknown: no array; Twice: it is aligned before; AlignOutside
abbrev pub aligned_faults : Alignment → Option ℕ → Option ArrayEntry → List ℕ → SourcePlace → List SourceFault
aligned_faults to whole None name at = fault_if true at (cause.Unknown name)
aligned_faults to whole (Some e) name at =
    if is_some e.aligned then fault_if true at (cause.Twice name) else fault_if (is_outside to.offset e.extent whole) at cause.AlignOutside

abbrev pub listed_faults : Alignment → Scope → Listed → List SourceFault
listed_faults to scope l = aligned_faults to (entry_extent_of scope.layouts to.decomposition) (array_named scope l.name) l.name l.at

abbrev pub entry_aligned : Alignment → List ArrayEntry → ℕ → Option ArrayEntry → List ArrayEntry
entry_aligned to arrays number None = arrays
entry_aligned to arrays number (Some e) = if is_some e.aligned then arrays else slice_set arrays number (record e { aligned = Some to })

abbrev pub arrays_aligned : Alignment → List ArrayEntry → Option ℕ → List ArrayEntry
arrays_aligned to arrays None = arrays
arrays_aligned to arrays (Some number) = entry_aligned to arrays number (slice_get arrays number)

abbrev pub after_aligned : Alignment → Scope → Listed → Scope
after_aligned to scope l = record scope { arrays = arrays_aligned to scope.arrays (as_array (found scope.names l.name)) }

abbrev pub alignment_of : Scope → List ℕ → SourcePlace → List Term → Alignment
alignment_of scope target target_at add = record {
  decomposition = as_decomposition (found scope.names target);
  offset = offset_within scope.names target_at (Some (pos 0)) add;
}

-- Unknown: no named decomposition
abbrev pub target_faults : Scope → List ℕ → SourcePlace → List SourceFault
target_faults scope target at = fault_if (not (is_some (as_decomposition (found scope.names target)))) at (cause.Unknown target)

-- ---- READ, OUTPUT

abbrev pub is_array_read : List ℤ → Option ℕ → Bool
is_array_read reads None = false
is_array_read reads (Some number) = list_any (λ v. int_eq v (pos number)) reads

abbrev pub is_output : List OutputName → Option ℕ → Bool
is_output outputs None = false
is_output outputs (Some number) = list_any (λ (o : OutputName). o.array == number) outputs

-- Unknown: no array; Twice: it is listed before
abbrev pub again_faults : Bool → Option ℕ → Listed → List SourceFault
again_faults is_listed None l = fault_if true l.at (cause.Unknown l.name)
again_faults is_listed (Some number) l = fault_if is_listed l.at (cause.Twice l.name)

abbrev pub number_of : Scope → Listed → Option ℕ
number_of scope l = as_array (found scope.names l.name)

abbrev pub read_faults : Scope → Listed → List SourceFault
read_faults scope l = again_faults (is_array_read scope.reads (number_of scope l)) (number_of scope l) l

abbrev pub output_faults : Scope → Listed → List SourceFault
output_faults scope l = again_faults (is_output scope.outputs (number_of scope l)) (number_of scope l) l

abbrev pub reads_with : List ℤ → Option ℕ → List ℤ
reads_with reads None = reads
reads_with reads (Some number) = if is_array_read reads (Some number) then reads else reads ++ pos number ∷ []

abbrev pub outputs_with : List OutputName → Option ℕ → SourcePlace → List OutputName
outputs_with outputs None at = outputs
outputs_with outputs (Some number) at = if is_output outputs (Some number) then outputs else outputs ++ record { array = number; at = at }
    ∷ []

abbrev pub after_read : Scope → Listed → Scope
after_read scope l = record scope { reads = reads_with scope.reads (number_of scope l) }

abbrev pub after_output : Scope → Listed → Scope
after_output scope l = record scope { outputs = outputs_with scope.outputs (number_of scope l) l.at }

-- ---- a declaration

abbrev pub after_declaration : Scope → Declaration → Scope
after_declaration scope (declaration.Parameter list) = fold after_parameter scope list
after_declaration scope (declaration.Integer list) = fold after_array scope list
after_declaration scope (declaration.Decomposition list) = fold after_layout scope list
after_declaration scope (declaration.Align arrays dummy target target_at add) =
    fold (after_aligned (alignment_of scope target target_at add)) scope arrays
after_declaration scope (declaration.Read list) = fold after_read scope list
after_declaration scope (declaration.Output list) = fold after_output scope list

abbrev pub declaration_faults : List (List ℕ) → Scope → Declaration → List SourceFault
declaration_faults loops scope (declaration.Parameter list) = along after_parameter (parameter_faults loops) scope list
declaration_faults loops scope (declaration.Integer list) = along after_array (array_faults loops) scope list
declaration_faults loops scope (declaration.Decomposition list) = along after_layout (layout_faults loops) scope list
declaration_faults loops scope (declaration.Align arrays dummy target target_at add) =
    target_faults scope target target_at
    ++ (offset_faults scope.names target_at loops (Some (pos 0)) add
    ++ along (after_aligned (alignment_of scope target target_at add)) (listed_faults (alignment_of scope target target_at add)) scope
    arrays)
declaration_faults loops scope (declaration.Read list) = along after_read read_faults scope list
declaration_faults loops scope (declaration.Output list) = along after_output output_faults scope list

-- what is declared behind the head, and its faults
abbrev pub declared : List Declaration → Scope
declared declarations = fold after_declaration nothing declarations

abbrev pub declared_faults : List (List ℕ) → List Declaration → List SourceFault
declared_faults loops declarations = along after_declaration (declaration_faults loops) nothing declarations
