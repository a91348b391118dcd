-- The options of the command line.
use Rattle.std.specs.Prelude.{ℕ, List, [], ◌∷◌, codes}

abbrev pub Text : Type 0
Text = List ℕ

-- the options that take the next word as their value, or carry it after `=`
abbrev pub value_options : List Text
value_options = codes "nodes" ∷ codes "iterations" ∷ codes "mesh" ∷ codes "size" ∷ codes "turns" ∷ []

-- the options without a value
abbrev pub flags : List Text
flags = codes "report" ∷ codes "plain" ∷ []

-- how a use of the source is named
abbrev pub source_name : Text
source_name = codes "source"
