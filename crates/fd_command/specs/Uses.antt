-- The words of a command line, read from left to right.
use Rattle.std.specs.Prelude.{◌==◌, ◌&&◌, Bool, true, not, List, [], ◌∷◌, Option, Some, None, if◌then◌else◌, find, option_map}
use Rattle.std.specs.Prelude.{option_and_then}
use Rattle.std.specs.List.{list_any, before_first, after_first}
use Rattle.std.specs.Str.{bytes_eq}
use Rattle.fd_command.specs.Options.{Text, value_options, flags, source_name}

abbrev pub is_one_of : List Text → Text → Bool
is_one_of names name = list_any (λ n. bytes_eq n name) names

-- what a word says: an option with the value that it carries, or something else
pub data Said : Type 0 where
  option : Text → Option Text → Said
  other : Text → Said

-- the name before a first `=` (61), and the value behind it
abbrev pub parted : Text → Said
parted text = option (before_first (λ c. c == 61) text)
    (if list_any (λ c. c == 61) text then Some (after_first (λ c. c == 61) text) else None)

-- a word with two dashes (45) before it is an option
abbrev pub said : Text → Said
said [] = other []
said (a ∷ []) = other (a ∷ [])
said (a ∷ b ∷ rest) = if (a == 45) && (b == 45) then parted rest else other (a ∷ b ∷ rest)

-- a use of an option or of the source, with its value; that of a flag has none
abbrev pub Use : Type 0
Use = Text × Option Text

abbrev pub before : Use → Option (List Use) → Option (List Use)
before u rest = option_map (λ us. u ∷ us) rest

-- the uses from a word on, where `rest` are those of the next words, after an option that waits for its value
abbrev pub use_said : (Option Text → Option (List Use)) → Said → Option (List Use)
use_said rest (option name None) =
    if is_one_of value_options name then rest (Some name)
    else (if is_one_of flags name then before (name, None) (rest None) else None)
use_said rest (option name (Some value)) =
    if is_one_of value_options name then before (name, Some value) (rest None) else None
use_said rest (other word) = before (source_name, Some word) (rest None)

-- the uses that words make, in order, where an option may wait for its value; none where a word
-- looks like an option and is none, a flag carries a value, or a value is missing
unfoldable pub uses_of : Option Text → List Text → Option (List Use)
uses_of None [] = Some []
uses_of (Some name) [] = None
uses_of None (word ∷ words) = use_said (λ waiting. uses_of waiting words) (said word)
uses_of (Some name) (word ∷ words) = before (name, Some word) (uses_of None words)

abbrev pub has : Text → List Use → Bool
has name uses = list_any (λ u. bytes_eq u.0 name) uses

-- the value of a name's first use
abbrev pub value_of : Text → List Use → Option Text
value_of name uses = option_and_then (λ u. u.1) (find (λ u. bytes_eq u.0 name) uses)

-- each name is used at most once
abbrev pub no_repeats : List Use → Bool
no_repeats [] = true
no_repeats (u ∷ us) = not (has u.0 us) && no_repeats us
