-- The bytes of a source.
use Rattle.std.specs.Prelude.{ℕ, Bool, not, ◌||◌, ◌==◌, [], ◌∷◌}
use Rattle.std.specs.List.{list_any}
use Rattle.std.specs.Char.{is_ascii_alphanumeric}

-- a tab, a carriage return or a space
abbrev pub is_blank : ℕ → Bool
is_blank byte = (byte == 9) || (byte == 13) || (byte == 32)

abbrev pub is_line_end : ℕ → Bool
is_line_end byte = byte == 10

abbrev pub is_inside_line : ℕ → Bool
is_inside_line byte = not (is_line_end byte)

-- what may follow a word's letter
abbrev pub is_word_byte : ℕ → Bool
is_word_byte byte = is_ascii_alphanumeric byte || (byte == 95)

-- the bytes that a text may have outside words and comments: letters, digits, blanks, line ends and `!()*+,-=`
abbrev pub is_listed : ℕ → Bool
is_listed byte = is_ascii_alphanumeric byte
    || list_any (λ other. byte == other) (9 ∷ 10 ∷ 13 ∷ 32 ∷ 33 ∷ 40 ∷ 41 ∷ 42 ∷ 43 ∷ 44 ∷ 45 ∷ 61 ∷ [])

-- the greatest number that a source may write
abbrev pub greatest : ℕ
greatest = 9223372036854775807
