-- Uses as clap's rows.
use Rattle.std.proofs.Common.{◌≡◌, ◌∙◌, ◌&&◌, ◌++◌, append-nil, Bool, true, false, List, [], ◌∷◌, Option, Some, None, if◌then◌else◌, codes}
use Rattle.std.proofs.Common.{refl, ap, sym}
use Rattle.std.specs.Str.{bytes_eq}
use Rattle.clap.specs.Walk.{Row, Rule, at_row, more_values, has_row, reading_by, without, used}
use Rattle.clap.specs.Faults.{use_fault}
use Rattle.clap.specs.declared.error.kind.ErrorKind.TheVariants as kind
use Rattle.clap.specs.Kinds.{Kinds, or_else}
use Rattle.clap.specs.declared.parser.matches.ValueSource.{ValueSource}
use Rattle.clap.specs.declared.parser.matches.ValueSource.TheVariants.{CommandLine}
use Rattle.fd_command.specs.Options.{Text, source_name}
use Rattle.fd_command.specs.Uses.{Use, has}
use Rattle.fd_command.proofs.Rules.{value_made, flag_made, source_made}

-- the row of an argument with one value
abbrev pub row_with : Text → Text → ValueSource → Rule → Row
row_with name value source rule = record {
  id = name;
  values = value ∷ [];
  count = None;
  source = Some source;
  reading = reading_by rule;
}

abbrev pub value_row : Text → Text → Row
value_row name value = row_with name value CommandLine (value_made name)

abbrev pub flag_row : Text → Row
flag_row name = row_with name (codes "true") CommandLine (flag_made name)

abbrev pub row_by : Text → Option Text → Row
row_by name (Some value) = value_row name value
row_by name None = flag_row name

abbrev pub row_of : Use → Row
row_of u = row_by u.0 u.1

abbrev pub rows_by : List Use → List Row
rows_by [] = []
rows_by (u ∷ us) = row_of u ∷ rows_by us

pub id_by : (name : Text) (value : Option Text) → (row_by name value).id ≡ name
id_by name (Some value) = refl
id_by name None = refl

pub has_rows : (name : Text) (us : List Use) → has_row name (rows_by us) ≡ has name us
has_rows name [] = refl
has_rows name (u ∷ us) = rw (id_by u.0 u.1, has_rows name us) refl

pub rows_append : (us : List Use) (u : Use) → rows_by (us ++ u ∷ []) ≡ rows_by us ++ row_of u ∷ []
rows_append [] u = refl
rows_append (v ∷ us) u = ap (λ (rs : List Row). row_of v ∷ rs) (rows_append us u)

pub at_no_row : (name : Text) (change : Row → List Row) (missing rows : List Row) → has_row name rows ≡ false
    → at_row name change missing rows ≡ rows ++ missing
at_no_row name change missing [] other = refl
at_no_row name change missing (r ∷ rs) other = by (bytes_eq r.id name) refl (at_no_row name change missing rs)
  where
    by : (b : Bool) → bytes_eq r.id name ≡ b → (has_row name rs ≡ false → at_row name change missing rs ≡ rs ++ missing)
        → at_row name change missing (r ∷ rs) ≡ (r ∷ rs) ++ missing
    by true e rest = let bad : true ≡ false = rw e at other in cc
    by false e rest = let more : has_row name rs ≡ false = rw e at other in rw e (ap (λ (xs : List Row). r ∷ xs) (rest more))

-- a second use is a conflict
abbrev pub repeated : Bool → Kinds
repeated true = kind.ArgumentConflict ∷ []
repeated false = []

pub set_rows : (u : Use) (us : List Use) (change : Row → List Row) → has u.0 us ≡ false
    → at_row u.0 change (row_of u ∷ []) (without u.0 (rows_by us)) ≡ rows_by (us ++ u ∷ [])
set_rows u us change new =
    let none : has_row u.0 (rows_by us) ≡ false = has_rows u.0 us ∙ new in
    let gone : without u.0 (rows_by us) ≡ rows_by us = at_no_row u.0 (λ _. []) [] (rows_by us) none ∙ append-nil (rows_by us) in
    ap (λ (rs : List Row). at_row u.0 change (row_of u ∷ []) rs) gone ∙ at_no_row u.0 change (row_of u ∷ []) (rows_by us) none
    ∙ sym (rows_append us u)

pub used_value : (name value : Text) (us : List Use) → has name us ≡ false → used (value_made name) (value ∷ []) (rows_by us)
    ≡ rows_by (us ++ (name, Some value) ∷ [])
used_value name value us new = set_rows (name, Some value) us (more_values CommandLine (value ∷ [])) new

pub used_source : (value : Text) (us : List Use) → has source_name us ≡ false → used source_made (value ∷ []) (rows_by us)
    ≡ rows_by (us ++ (source_name, Some value) ∷ [])
used_source value us new = set_rows (source_name, Some value) us (more_values CommandLine (value ∷ [])) new

pub used_flag : (name : Text) (us : List Use) → has name us ≡ false → used (flag_made name) [] (rows_by us)
    ≡ rows_by (us ++ (name, None) ∷ [])
used_flag name us new = set_rows (name, None) us (more_values CommandLine (codes "true" ∷ [])) new

pub value_fault : (name value : Text) (us : List Use) → use_fault false (value_made name) (value ∷ []) (rows_by us) ≡ repeated (has name us)
value_fault name value us = rw (has_rows name us) (by (has name us))
  where
    by : (b : Bool) → or_else (if b && true then kind.ArgumentConflict ∷ [] else []) [] ≡ repeated b
    by true = refl
    by false = refl

pub source_fault : (value : Text) (us : List Use) → use_fault false source_made (value ∷ []) (rows_by us) ≡ repeated (has source_name us)
source_fault value us = rw (has_rows source_name us) (by (has source_name us))
  where
    by : (b : Bool) → or_else (if b && true then kind.ArgumentConflict ∷ [] else []) [] ≡ repeated b
    by true = refl
    by false = refl

pub flag_fault : (name : Text) (us : List Use) → use_fault false (flag_made name) [] (rows_by us) ≡ repeated (has name us)
flag_fault name us = rw (has_rows name us) (by (has name us))
  where
    by : (b : Bool) → or_else (if b && true then kind.ArgumentConflict ∷ [] else []) [] ≡ repeated b
    by true = refl
    by false = refl

pub no_value_fault : (name : Text) (us : List Use) → use_fault false (value_made name) [] (rows_by us) ≡ kind.InvalidValue ∷ []
no_value_fault name us = refl
