-- Names, and what they are at a place.
use Rattle.std.specs.Prelude.{ℕ, ℤ, Bool, nat_eq, nat_lt, ◌||◌, ◌&&◌, if◌then◌else◌, List, [], ◌∷◌, ◌++◌, Option, Some, None}
use Rattle.std.specs.Cmp.Lexicographic.{pointwise}
use Rattle.std.specs.List.{list_any}
use Rattle.std.specs.Map.{lookup}
use Rattle.fd_words.specs.declared.source.SourcePlace.{SourcePlace}
use Rattle.fd_scope.specs.declared.names.Known.{Known}
use Rattle.fd_scope.specs.declared.names.Meaning.{Meaning}
use Rattle.fd_scope.specs.declared.names.Meaning.TheVariants.{Constant, Array, Decomposition}

-- two names are one: the same bytes
abbrev pub name_eq : List ℕ → List ℕ → Bool
name_eq = pointwise nat_eq

-- the first of its name
abbrev pub found : List (List ℕ × Known) → List ℕ → Option Known
found names name = lookup (name_eq name) names

abbrev pub is_earlier : SourcePlace → SourcePlace → Bool
is_earlier place other = nat_lt place.line other.line || (nat_eq place.line other.line && nat_lt place.column other.column)

abbrev pub declared_before : SourcePlace → Option Known → Option Known
declared_before here None = None
declared_before here (Some k) = if is_earlier k.at here then Some k else None

-- a name is known at a place where it is declared before it
abbrev pub known : List (List ℕ × Known) → SourcePlace → List ℕ → Option Known
known names here name = declared_before here (found names name)

-- a name as a scalar: None where it is none, Some None where it has no value
abbrev pub as_constant : Option Known → Option (Option ℤ)
as_constant None = None
as_constant (Some k) = of_meaning k.meaning
  where
    of_meaning : Meaning → Option (Option ℤ)
    of_meaning (Constant value) = Some value
    of_meaning (Array number) = None
    of_meaning (Decomposition number) = None

-- its number as an array
abbrev pub as_array : Option Known → Option ℕ
as_array None = None
as_array (Some k) = of_meaning k.meaning
  where
    of_meaning : Meaning → Option ℕ
    of_meaning (Constant value) = None
    of_meaning (Array number) = Some number
    of_meaning (Decomposition number) = None

-- its number as a named decomposition
abbrev pub as_decomposition : Option Known → Option ℕ
as_decomposition None = None
as_decomposition (Some k) = of_meaning k.meaning
  where
    of_meaning : Meaning → Option ℕ
    of_meaning (Constant value) = None
    of_meaning (Array number) = None
    of_meaning (Decomposition number) = Some number

-- ---- the names of loops

-- with one more, unless it is there
abbrev pub with_loop : List (List ℕ) → List ℕ → List (List ℕ)
with_loop names name = if list_any (name_eq name) names then names else names ++ name ∷ []
