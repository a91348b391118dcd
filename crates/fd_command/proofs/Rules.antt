-- The arguments as clap fills them in, and how it looks them up.
use Rattle.std.proofs.Common.{◌≡◌, Bool, true, false, List, [], ◌∷◌, Option, Some, None, if◌then◌else◌, refl, ap}
use Rattle.std.specs.Str.{bytes_eq}
use Rattle.std.proofs.lemmas.Slice.Eq.{bytes_eq-Decides}
use Rattle.clap.specs.Walk.{Rule, arg_by_id, arg_by_index, arg_by_long}
use Rattle.clap.specs.Simple.{App, Shape, built, filled, with_index}
use Rattle.fd_command.specs.Options.{Text, value_options, flags, source_name}
use Rattle.fd_command.specs.Uses.{is_one_of}
use Rattle.fd_command.specs.ClapCommand.{new_command, value_rule, flag_rule, source_rule, the_app}

abbrev pub value_made : Text → Rule
value_made name = filled (value_rule name)

abbrev pub flag_made : Text → Rule
flag_made name = filled (flag_rule name)

abbrev pub source_made : Rule
source_made = with_index 1 (filled source_rule)

abbrev pub flag_rules : List Text → List Rule
flag_rules [] = source_made ∷ []
flag_rules (f ∷ fs) = flag_made f ∷ flag_rules fs

-- the arguments of a command with these value options, these flags and a source
abbrev pub rules_by : List Text → List Text → List Rule
rules_by [] fs = flag_rules fs
rules_by (v ∷ vs) fs = value_made v ∷ rules_by vs fs

abbrev pub shape_by : List Rule → Shape
shape_by rules = record new_command.top { rules = rules; disable_help_subcommand = true; is_built = true }

abbrev pub app_by : List Rule → App
app_by rules = record { top = shape_by rules; subs = [] }

pub built_app : built the_app ≡ app_by (rules_by value_options flags)
built_app = refl

abbrev pub flag_looked : List Text → Text → Option Rule
flag_looked fs name = if is_one_of fs name then Some (flag_made name) else None

abbrev pub looked : List Text → List Text → Text → Option Rule
looked vs fs name = if is_one_of vs name then Some (value_made name) else flag_looked fs name

pub same_text : (a b : Text) → bytes_eq a b ≡ true → a ≡ b
same_text a b e = (bytes_eq-Decides a b).0 e

pub self_text : (a : Text) → bytes_eq a a ≡ true
self_text a = (bytes_eq-Decides a a).1 refl

long_in_flags : (fs : List Text) (name : Text) → arg_by_long (flag_rules fs) name ≡ flag_looked fs name
long_in_flags [] name = refl
long_in_flags (f ∷ fs) name = by (bytes_eq f name) refl (long_in_flags fs name)
  where
    by : (b : Bool) → bytes_eq f name ≡ b → arg_by_long (flag_rules fs) name ≡ flag_looked fs name
        → arg_by_long (flag_rules (f ∷ fs)) name ≡ flag_looked (f ∷ fs) name
    by true e rest = rw e (ap (λ (n : Text). Some (flag_made n)) (same_text f name e))
    by false e rest = rw e rest

pub long_found : (vs fs : List Text) (name : Text) → arg_by_long (rules_by vs fs) name ≡ looked vs fs name
long_found [] fs name = long_in_flags fs name
long_found (v ∷ vs) fs name = by (bytes_eq v name) refl (long_found vs fs name)
  where
    by : (b : Bool) → bytes_eq v name ≡ b → arg_by_long (rules_by vs fs) name ≡ looked vs fs name
        → arg_by_long (rules_by (v ∷ vs) fs) name ≡ looked (v ∷ vs) fs name
    by true e rest = rw e (ap (λ (n : Text). Some (value_made n)) (same_text v name e))
    by false e rest = rw e rest

pub value_found : (vs fs : List Text) (name : Text) → is_one_of vs name ≡ true → arg_by_id (rules_by vs fs) name ≡ Some (value_made name)
value_found [] fs name known = cc
value_found (v ∷ vs) fs name known = by (bytes_eq v name) refl (value_found vs fs name)
  where
    by : (b : Bool) → bytes_eq v name ≡ b → (is_one_of vs name ≡ true → arg_by_id (rules_by vs fs) name ≡ Some (value_made name))
        → arg_by_id (rules_by (v ∷ vs) fs) name ≡ Some (value_made name)
    by true e rest = rw e (ap (λ (n : Text). Some (value_made n)) (same_text v name e))
    by false e rest = let more : is_one_of vs name ≡ true = rw e at known in rw e (rest more)

source_in_flags : (fs : List Text) → is_one_of fs source_name ≡ false → arg_by_id (flag_rules fs) source_name ≡ Some source_made
source_in_flags [] other = refl
source_in_flags (f ∷ fs) other = by (bytes_eq f source_name) refl (source_in_flags fs)
  where
    by : (b : Bool) → bytes_eq f source_name ≡ b → (is_one_of fs source_name ≡ false → arg_by_id (flag_rules fs) source_name
        ≡ Some source_made)
        → arg_by_id (flag_rules (f ∷ fs)) source_name ≡ Some source_made
    by true e rest = let bad : true ≡ false = rw e at other in cc
    by false e rest = let more : is_one_of fs source_name ≡ false = rw e at other in rw e (rest more)

pub source_found : (vs fs : List Text) → is_one_of vs source_name ≡ false → is_one_of fs source_name ≡ false
    → arg_by_id (rules_by vs fs) source_name ≡ Some source_made
source_found [] fs other others = source_in_flags fs others
source_found (v ∷ vs) fs other others = by (bytes_eq v source_name) refl (source_found vs fs)
  where
    by : (b : Bool) → bytes_eq v source_name ≡ b
        → (is_one_of vs source_name ≡ false → is_one_of fs source_name ≡ false → arg_by_id (rules_by vs fs) source_name ≡ Some source_made)
        → arg_by_id (rules_by (v ∷ vs) fs) source_name ≡ Some source_made
    by true e rest = let bad : true ≡ false = rw e at other in cc
    by false e rest = let more : is_one_of vs source_name ≡ false = rw e at other in rw e (rest more others)

first_in_flags : (fs : List Text) → arg_by_index (flag_rules fs) 1 ≡ Some source_made
first_in_flags [] = refl
first_in_flags (f ∷ fs) = first_in_flags fs

pub first_found : (vs fs : List Text) → arg_by_index (rules_by vs fs) 1 ≡ Some source_made
first_found [] fs = first_in_flags fs
first_found (v ∷ vs) fs = first_found vs fs

second_in_flags : (fs : List Text) → arg_by_index (flag_rules fs) 2 ≡ None
second_in_flags [] = refl
second_in_flags (f ∷ fs) = second_in_flags fs

pub second_found : (vs fs : List Text) → arg_by_index (rules_by vs fs) 2 ≡ None
second_found [] fs = second_in_flags fs
second_found (v ∷ vs) fs = second_found vs fs
