-- The program's command, as clap sees it.
use Rattle.std.specs.Prelude.{ℕ, ◌==◌, ◌||◌, Bool, true, not, List, [], ◌∷◌, Some, codes, fold, if◌then◌else◌}
use Rattle.clap.specs.Words.{App, Rule, new_app, new_rule, with_rule}
use Rattle.clap.specs.declared.builder.action.ArgAction.TheVariants.{Set, SetTrue}
use Rattle.fd_command.specs.Options.{value_options, flags, source_name}

-- an option with one value
abbrev pub value_rule : List ℕ → Rule
value_rule name = record (new_rule name) { long = Some name; action = Some Set }

-- an option without a value
abbrev pub flag_rule : List ℕ → Rule
flag_rule name = record (new_rule name) { long = Some name; action = Some SetTrue }

abbrev pub source_rule : Rule
source_rule = record (new_rule source_name) { action = Some Set }

-- no option, no help and no version; the program's name is no word
abbrev pub new_command : App
new_command = let a = new_app (codes "chaosplay") in
    record a { top = record a.top { no_binary_name = true; disable_help_flag = true; disable_version_flag = true } }

abbrev pub with_values : App → List (List ℕ) → App
with_values = fold (λ a name. with_rule a (value_rule name))

abbrev pub with_flags : App → List (List ℕ) → App
with_flags = fold (λ a name. with_rule a (flag_rule name))

abbrev pub the_app : App
the_app = with_rule (with_flags (with_values new_command value_options) flags) source_rule

-- clap is handed no `--` alone, and no word that begins with one dash (45): no option and no source is written so
abbrev pub is_clear : List ℕ → Bool
is_clear [] = true
is_clear (a ∷ []) = not (a == 45)
is_clear (a ∷ b ∷ []) = not (a == 45)
is_clear (a ∷ b ∷ c ∷ rest) = not (a == 45) || (b == 45)

-- the text that clap keeps of a flag
abbrev pub flag_text : Bool → List ℕ
flag_text b = if b then codes "true" else codes "false"
