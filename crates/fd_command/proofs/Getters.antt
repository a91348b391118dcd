-- What clap's getters read where the uses are known.
use Rattle.std.proofs.Common.{◌≡◌, ◌∙◌, ◌||◌, ◌++◌, Bool, true, false, not, List, [], ◌∷◌, Option, Some, None, option_and_then, option_map}
use Rattle.std.proofs.Common.{find, fold, slice_get, IfSome, is_some, if◌then◌else◌, codes, refl, ap, sym}
use Rattle.std.specs.List.{list_all}
use Rattle.std.specs.Option.{option_or}
use Rattle.std.specs.Str.{bytes_eq}
use Rattle.std.proofs.lemmas.Bool.{and_parts, and_from, or_parts, or_left, not-true}
use Rattle.clap.specs.Walk.{Row, default_rows, first_of, has_row, more_values, one_of, reading_by, row_text, with_default}
use Rattle.clap.specs.declared.parser.matches.ValueSource.TheVariants.{DefaultValue}
use Rattle.fd_command.specs.Options.{Text, value_options, flags, source_name}
use Rattle.fd_command.specs.Uses.{Said, option, other, Use, has, is_one_of, no_repeats, said, value_of}
use Rattle.fd_command.specs.ClapCommand.{flag_text}
use Rattle.fd_command.proofs.Rules.{flag_made, flag_rules, rules_by, same_text, self_text}
use Rattle.fd_command.proofs.UseRows.{row_of, row_with, rows_by, at_no_row, id_by}
use Rattle.fd_command.proofs.Steps.{has_append}
use Rattle.fd_command.proofs.Simulation.{next_use, read, read_said, read_value}

-- ---- the rows that an argument gets where it wasn't used

abbrev row_found : Text → List Row → Option Row
row_found id rows = find (λ r. bytes_eq r.id id) rows

abbrev pub default_row : Text → Row
default_row name = row_with name (codes "false") DefaultValue (flag_made name)

abbrev pub if_named : Text → Text → Row → Option Row
if_named name id r = if bytes_eq name id then Some r else None

-- the default row of an id
abbrev pub default_found : List Text → Text → Option Row
default_found [] id = None
default_found (f ∷ fs) id = option_or (if_named f id (default_row f)) (default_found fs id)

or_none : (o : Option Row) → option_or o None ≡ o
or_none o = elim o as (λ p. option_or p None ≡ p) [ None ↦ refl | Some r ↦ refl ]

or_or : (a b d : Option Row) → option_or (option_or a b) d ≡ option_or a (option_or b d)
or_or None b d = refl
or_or (Some r) b d = refl

found_behind : (id : Text) (rows : List Row) (r : Row) → row_found id (rows ++ r ∷ []) ≡ option_or (row_found id rows) (if_named r.id id r)
found_behind id [] r = refl
found_behind id (x ∷ rows) r = by (bytes_eq x.id id) (found_behind id rows r)
  where
    by : (b : Bool) → row_found id (rows ++ r ∷ []) ≡ option_or (row_found id rows) (if_named r.id id r)
        → (if b then Some x else row_found id (rows ++ r ∷ [])) ≡ option_or (if b then Some x else row_found id rows) (if_named r.id id r)
    by true e = refl
    by false e = e

-- an id that has a row keeps it
found_some : (id name : Text) (rows : List Row) (r : Row) → has_row name rows ≡ true → bytes_eq name id ≡ true
    → option_or (row_found id rows) (Some r) ≡ row_found id rows
found_some id name [] r there same = cc
found_some id name (x ∷ rows) r there same = by (bytes_eq x.id id) refl (found_some id name rows r)
  where
    by : (b : Bool) → bytes_eq x.id id ≡ b → (has_row name rows ≡ true → bytes_eq name id ≡ true → option_or (row_found id rows) (Some r)
        ≡ row_found id rows)
        → option_or (if b then Some x else row_found id rows) (Some r) ≡ (if b then Some x else row_found id rows)
    by true e rest = refl
    by false e rest =
        let apart : bytes_eq x.id name ≡ false = ap (bytes_eq x.id) (same_text name id same) ∙ e in
        let more : has_row name rows ≡ true = rw apart at there in rest more same

found_default : (id name : Text) (rows : List Row) → row_found id (with_default rows (flag_made name)) ≡ option_or (row_found id rows)
    (if_named name id (default_row name))
found_default id name rows = by (has_row name rows) refl
  where
    named : (b : Bool) → bytes_eq name id ≡ b → has_row name rows ≡ true → row_found id rows ≡ option_or (row_found id rows)
        (if b then Some (default_row name) else None)
    named true e there = sym (found_some id name rows (default_row name) there e)
    named false e there = sym (or_none (row_found id rows))

    by : (b : Bool) → has_row name rows ≡ b
        → row_found id (if b then rows else default_rows name (reading_by (flag_made name)) (codes "false" ∷ []) rows)
        ≡ option_or (row_found id rows) (if_named name id (default_row name))
    by true e = named (bytes_eq name id) refl e
    by false e = ap (row_found id) (at_no_row name (more_values DefaultValue (codes "false" ∷ [])) (default_row name ∷ []) rows e)
        ∙ found_behind id rows (default_row name)

no_default : (rows : List Row) (b : Bool) → (if b then rows else rows) ≡ rows
no_default rows true = refl
no_default rows false = refl

found_after_flags : (id : Text) (fs : List Text) (rows : List Row) → row_found id (fold with_default rows (flag_rules fs))
    ≡ option_or (row_found id rows) (default_found fs id)
found_after_flags id [] rows = ap (row_found id) (no_default rows (has_row source_name rows)) ∙ sym (or_none (row_found id rows))
found_after_flags id (f ∷ fs) rows =
    found_after_flags id fs (with_default rows (flag_made f))
    ∙ ap (λ (o : Option Row). option_or o (default_found fs id)) (found_default id f rows)
    ∙ or_or (row_found id rows) (if_named f id (default_row f)) (default_found fs id)

found_after : (id : Text) (vs fs : List Text) (rows : List Row) → row_found id (fold with_default rows (rules_by vs fs))
    ≡ option_or (row_found id rows) (default_found fs id)
found_after id [] fs rows = found_after_flags id fs rows
found_after id (v ∷ vs) fs rows =
    ap (λ (rs : List Row). row_found id (fold with_default rs (rules_by vs fs))) (no_default rows (has_row v rows))
    ∙ found_after id vs fs rows

-- ---- the uses that are read are of the command's options, and none is a second

abbrev pub fits_by : Text → Option Text → Bool
fits_by name (Some v) = is_one_of value_options name || bytes_eq name source_name
fits_by name None = is_one_of flags name

-- a use with a value is one of a value option or of the source, and a use without is one of a flag
abbrev pub fits : Use → Bool
fits u = fits_by u.0 u.1

pub record AreGood (us : List Use) : Type 0 where
  pub once : no_repeats us ≡ true
  pub fit : list_all fits us ≡ true

more_once : (us : List Use) (u : Use) → no_repeats us ≡ true → has u.0 us ≡ false → no_repeats (us ++ u ∷ []) ≡ true
more_once [] u once new = refl
more_once (v ∷ us) u once new =
    let here = or_parts (bytes_eq v.0 u.0) (has u.0 us) new in
    let parts = and_parts (not (has v.0 us)) (no_repeats us) once in
    and_from (not (has v.0 (us ++ u ∷ []))) (no_repeats (us ++ u ∷ []))
    (by (has v.0 us) (not-true (has v.0 us) parts.0) (bytes_eq u.0 v.0) refl here.0)
    (more_once us u parts.1 here.1)
  where
    by : (a : Bool) → has v.0 us ≡ false → (b : Bool) → bytes_eq u.0 v.0 ≡ b → bytes_eq v.0 u.0 ≡ false → not (has v.0 (us ++ u ∷ []))
        ≡ true
    by a e true f apart =
        let same : bytes_eq v.0 u.0 ≡ true = ap (bytes_eq v.0) (same_text u.0 v.0 f) ∙ self_text v.0 in
        let bad : true ≡ false = sym same ∙ apart in cc
    by a e false f apart = rw (has_append v.0 us u, e, f) refl

more_fit : (us : List Use) (u : Use) → list_all fits us ≡ true → fits u ≡ true → list_all fits (us ++ u ∷ []) ≡ true
more_fit [] u fit one = and_from (fits u) true one refl
more_fit (v ∷ us) u fit one =
    let parts = and_parts (fits v) (list_all fits us) fit in
    and_from (fits v) (list_all fits (us ++ u ∷ [])) parts.0 (more_fit us u parts.1 one)

abbrev rest_of : List Text → List Use → Option Text → Option (List Use)
rest_of words us waiting = read value_options flags us waiting words

abbrev ReadsGood : List Text → Type 0
ReadsGood words = ((us : List Use) → AreGood us → IfSome (rest_of words us None) AreGood)
    × ((us : List Use) (name : Text) → is_one_of value_options name ≡ true → AreGood us → IfSome (rest_of words us (Some name)) AreGood)

next_good : (words : List Text) → ReadsGood words → (us : List Use) (u : Use) → AreGood us → fits u ≡ true
    → IfSome (next_use (λ x. rest_of words x None) us u) AreGood
next_good words rest us u good fit = by (has u.0 us) refl
  where
    by : (b : Bool) → has u.0 us ≡ b → IfSome (if b then None else rest_of words (us ++ u ∷ []) None) AreGood
    by true e = tt
    by false e = rest.0 (us ++ u ∷ []) (record { once = more_once us u good.once e; fit = more_fit us u good.fit fit })

said_good : (words : List Text) → ReadsGood words → (us : List Use) (s : Said) → AreGood us
    → IfSome (read_said value_options flags (rest_of words) us s) AreGood
said_good words rest us (other w) good = next_good words rest us (source_name, Some w) good refl
said_good words rest us (option name (Some v)) good = by (is_one_of value_options name) refl
  where
    by : (b : Bool) → is_one_of value_options name ≡ b → IfSome (if b then next_use (λ x. rest_of words x None) us (name, Some v)
        else None) AreGood
    by true e = next_good words rest us (name, Some v) good (or_left (is_one_of value_options name) (bytes_eq name source_name) e)
    by false e = tt
said_good words rest us (option name None) good = by (is_one_of value_options name) refl (is_one_of flags name) refl
  where
    by : (b : Bool) → is_one_of value_options name ≡ b → (f : Bool) → is_one_of flags name ≡ f
        → IfSome (if b then rest_of words us (Some name) else (if f then next_use (λ x. rest_of words x None) us (name, None) else None))
        AreGood
    by true e f g = rest.1 us name e good
    by false e true g = next_good words rest us (name, None) good g
    by false e false g = tt

value_good : (words : List Text) → ReadsGood words → (us : List Use) (name : Text) → is_one_of value_options name ≡ true → (s : Said)
    → AreGood us
    → IfSome (read_value (rest_of words) us name s) AreGood
value_good words rest us name known (other w) good = next_good words rest us (name, Some w) good
    (or_left (is_one_of value_options name) (bytes_eq name source_name) known)
value_good words rest us name known (option n v) good = tt

pub reads_good : (words : List Text) → ReadsGood words
unfolding read
reads_good [] = (λ us good. good, λ us name known good. tt)
reads_good (word ∷ words) =
    let rest = reads_good words in
    (λ us good. said_good words rest us (said word) good, λ us name known good. value_good words rest us name known (said word) good)

-- ---- the getters

use_found : (id : Text) (us : List Use) → row_found id (rows_by us) ≡ option_map row_of (find (λ u. bytes_eq u.0 id) us)
use_found id [] = refl
use_found id (u ∷ us) = rw (id_by u.0 u.1) (by (bytes_eq u.0 id) (use_found id us))
  where
    by : (b : Bool) → row_found id (rows_by us) ≡ option_map row_of (find (λ x. bytes_eq x.0 id) us)
        → (if b then Some (row_of u) else row_found id (rows_by us)) ≡ option_map row_of
        (if b then Some u else find (λ x. bytes_eq x.0 id) us)
    by true e = refl
    by false e = e

-- a use that is found has the name, and fits
FoundFits : Text → Option Use → Type 0
FoundFits id o = IfSome o (λ u. (u.0 ≡ id) × (fits u ≡ true))

found_fits : (id : Text) (us : List Use) → list_all fits us ≡ true → FoundFits id (find (λ u. bytes_eq u.0 id) us)
unfolding FoundFits
found_fits id [] fit = tt
found_fits id (u ∷ us) fit =
    let parts = and_parts (fits u) (list_all fits us) fit in
    by (bytes_eq u.0 id) refl (found_fits id us parts.1) parts.0
  where
    by : (b : Bool) → bytes_eq u.0 id ≡ b → FoundFits id (find (λ x. bytes_eq x.0 id) us) → fits u ≡ true
        → FoundFits id (if b then Some u else find (λ x. bytes_eq x.0 id) us)
    by true e rest fit_u = (same_text u.0 id e, fit_u)
    by false e rest fit_u = rest

-- the value of an option or of the source
pub value_read : (vs : List Text) (id : Text) (us : List Use) → list_all fits us ≡ true → is_one_of flags id ≡ false
    → default_found flags id ≡ None
    → first_of id (fold with_default (rows_by us) (rules_by vs flags)) ≡ value_of id us
unfolding FoundFits
value_read vs id us fit no_flag none =
    ap (option_and_then (λ (r : Row). slice_get r.values 0)) (found_after id vs flags (rows_by us)
    ∙ ap (option_or (row_found id (rows_by us))) none ∙ or_none (row_found id (rows_by us)) ∙ use_found id us)
    ∙ by (find (λ u. bytes_eq u.0 id) us) (found_fits id us fit)
  where
    by : (o : Option Use) → FoundFits id o → option_and_then (λ r. slice_get r.values 0) (option_map row_of o) ≡ option_and_then
        (λ u. u.1) o
    by None h = refl
    by (Some u) h = of_use u.0 u.1 h.0 h.1
      where
        of_use : (name : Text) (v : Option Text) → name ≡ id → fits_by name v ≡ true → slice_get (row_of (name, v)).values 0 ≡ v
        of_use name (Some v) e f = refl
        of_use name None e f = let bad : true ≡ false = sym f ∙ ap (is_one_of flags) e ∙ no_flag in cc

has_found : (id : Text) (us : List Use) → has id us ≡ is_some (find (λ u. bytes_eq u.0 id) us)
has_found id [] = refl
has_found id (u ∷ us) = by (bytes_eq u.0 id) (has_found id us)
  where
    by : (b : Bool) → has id us ≡ is_some (find (λ x. bytes_eq x.0 id) us)
        → b || has id us ≡ is_some (if b then Some u else find (λ x. bytes_eq x.0 id) us)
    by true e = refl
    by false e = e

-- whether a flag stands
pub flag_read : (vs : List Text) (id : Text) (us : List Use) → list_all fits us ≡ true → is_one_of value_options id
    || bytes_eq id source_name ≡ false
    → default_found flags id ≡ Some (default_row id) → one_of id (fold with_default (rows_by us) (rules_by vs flags))
    ≡ Some (flag_text (has id us))
unfolding FoundFits
flag_read vs id us fit no_value default =
    ap (option_and_then row_text) (found_after id vs flags (rows_by us) ∙ ap (option_or (row_found id (rows_by us))) default
    ∙ ap (λ (o : Option Row). option_or o (Some (default_row id))) (use_found id us))
    ∙ by (find (λ u. bytes_eq u.0 id) us) (found_fits id us fit)
    ∙ ap (λ (b : Bool). Some (flag_text b)) (sym (has_found id us))
  where
    by : (o : Option Use) → FoundFits id o → option_and_then row_text (option_or (option_map row_of o) (Some (default_row id)))
        ≡ Some (flag_text (is_some o))
    by None h = refl
    by (Some u) h = of_use u.0 u.1 h.0 h.1
      where
        of_use : (name : Text) (v : Option Text) → name ≡ id → fits_by name v ≡ true → row_text (row_of (name, v)) ≡ Some (codes "true")
        of_use name (Some v) e f =
            let bad : true ≡ false = sym f ∙ ap (λ (n : Text). is_one_of value_options n || bytes_eq n source_name) e ∙ no_value in cc
        of_use name None e f = refl
