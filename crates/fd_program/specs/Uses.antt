-- The references of one execution of a FORALL at an iteration: the exact subscript of each, where it has one.
use Rattle.std.specs.Prelude.{ℕ, suc, zero, ◌+◌, ℤ, pos, ◌+ℤ◌, Bool, true, false, ◌&&◌, if◌then◌else◌, List, [], ◌∷◌, Option, Some, None}
use Rattle.std.specs.Prelude.{is_some, slice_get, unwrap_or, drop, filter_map}
use Rattle.std.specs.Option.{option_map}
use Rattle.fd_words.specs.Roles.{is_index}
use Rattle.fd_words.specs.declared.place.Role.TheVariants.{Read}
use Rattle.fd_program.specs.Stores.{number_at, is_within, element}
use Rattle.fd_program.specs.declared.array.ArrayFacts.{ArrayFacts}
use Rattle.fd_program.specs.declared.loop_use.Use.{Use}
use Rattle.fd_program.specs.declared.reference.CheckedSubscript.{CheckedSubscript}
use Rattle.fd_program.specs.declared.reference.CheckedSubscript.TheVariants.{Plain, Through, Twice, Scalar}
use Rattle.fd_program.specs.declared.reference.Reference.{Reference}
use Rattle.fd_program.specs.declared.site.Site.{Site}
use Rattle.fd_program.specs.declared.trace.LoopTurn.{LoopTurn}

-- the subscript at iteration i: its form, the number that it adds, and the element that the index reference directly before
-- it reads; without that element a subscript through an index array has no value
abbrev pub subscript_of : CheckedSubscript → ℤ → ℤ → Option ℤ → Option ℤ
subscript_of (Plain terms) i add before = Some (i +ℤ add)
subscript_of (Through index_array at inner_add terms) i add before = option_map (λ z. z +ℤ add) before
subscript_of (Twice outer at inner inner_at first_add second_add terms) i add before = option_map (λ z. z +ℤ add) before
subscript_of (Scalar scalar) i add before = Some add

-- the index and a number
abbrev pub is_plain : CheckedSubscript → Bool
is_plain (Plain add) = true
is_plain (Through index_array at inner_add add) = false
is_plain (Twice outer at inner inner_at first_add second_add add) = false
is_plain (Scalar scalar) = false

-- the reference with this number, where its subscript is this; a subscript without a value is 0
abbrev pub use_of : Reference → ℤ → ℕ → Option ℤ → Use
use_of r i number subscript = record {
  iteration = i;
  number = number;
  role = r.role;
  array = r.array;
  stamp = r.stamp;
  plain = is_plain r.subscript;
  defined = is_some subscript;
  subscript = unwrap_or subscript (pos 0);
}

-- the subscript has a value, and the array an element there
abbrev pub is_met : List ArrayFacts → Use → Bool
is_met arrays u = u.defined && is_within arrays u.array u.subscript

-- the value of the element that a reference reaches
abbrev pub read_of : List (List ℤ) → Use → ℤ
read_of store u = element store u.array u.subscript

-- an index reference gives the reference behind it an element
abbrev pub gives_index : List ArrayFacts → Use → Bool
gives_index arrays u = is_index u.role && is_met arrays u

abbrev pub index_value : List ArrayFacts → List (List ℤ) → Use → Option ℤ
index_value arrays store u = if gives_index arrays u then Some (read_of store u) else None

-- these references at iteration i: the first stands at this place, and `before` is what the index reference directly before it gives
abbrev pub uses_from : List ArrayFacts → List ℤ → List (List ℤ) → ℤ → ℕ → Option ℤ → List Reference → List Use
uses_from arrays adds store i place before [] = []
uses_from arrays adds store i place before (r ∷ rs) =
    let u = use_of r i (place + 1) (subscript_of r.subscript i (number_at adds place) before) in
    u ∷ uses_from arrays adds store i (place + 1) (index_value arrays store u) rs

-- the references at iteration i, in the order of their numbers
abbrev pub uses_of : List ArrayFacts → Site → LoopTurn → List (List ℤ) → ℤ → List Use
uses_of arrays site turn store i = uses_from arrays turn.adds store i 0 None site.references

abbrev pub no_use : Use
no_use = record {
  iteration = pos 0;
  number = 0;
  role = Read;
  array = 0;
  stamp = 0;
  plain = false;
  defined = false;
  subscript = pos 0;
}

-- the reference with this number
abbrev pub use_at : List Use → ℕ → Use
use_at uses zero = no_use
use_at uses (suc place) = unwrap_or (slice_get uses place) no_use

-- ---- the same without a store, from the values that the index references give

-- what the index references give, in order
abbrev pub index_values : List ArrayFacts → List (List ℤ) → List Use → List ℤ
index_values arrays store uses = filter_map (index_value arrays store) uses

-- the value of this one is the first
abbrev pub value_told : List ArrayFacts → Use → List ℤ → Option ℤ
value_told arrays u values = if gives_index arrays u then slice_get values 0 else None

abbrev pub values_behind : List ArrayFacts → Use → List ℤ → List ℤ
values_behind arrays u values = if gives_index arrays u then drop 1 values else values

-- these references at iteration i, where the index references among them give these values
abbrev pub uses_told : List ArrayFacts → List ℤ → ℤ → ℕ → Option ℤ → List Reference → List ℤ → List Use
uses_told arrays adds i place before [] values = []
uses_told arrays adds i place before (r ∷ rs) values =
    let u = use_of r i (place + 1) (subscript_of r.subscript i (number_at adds place) before) in
    u ∷ uses_told arrays adds i (place + 1) (value_told arrays u values) rs (values_behind arrays u values)

-- ---- and from the values that index references with a plain subscript give; the others give nothing

abbrev pub uses_known : List ArrayFacts → List ℤ → ℤ → ℕ → Option ℤ → List Reference → List ℤ → List Use
uses_known arrays adds i place before [] firsts = []
uses_known arrays adds i place before (r ∷ rs) firsts =
    let u = use_of r i (place + 1) (subscript_of r.subscript i (number_at adds place) before) in
    u ∷ uses_known arrays adds i (place + 1) (if u.plain then value_told arrays u firsts else None) rs
    (if u.plain then values_behind arrays u firsts else firsts)
