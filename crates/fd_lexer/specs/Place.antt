-- Places by line and column.
use Rattle.std.specs.Prelude.{ℕ, ◌+◌, Bool, true, false, List, length, count_by}
use Rattle.std.specs.List.{after_last}
use Rattle.fd_words.specs.declared.source.SourcePlace.{SourcePlace}
use Rattle.fd_lexer.specs.Bytes.{is_line_end}

-- the place behind these bytes: the line counts their line ends, the column the bytes behind the last one
abbrev pub place_of : List ℕ → SourcePlace
place_of before = record {
  line = 1 + count_by is_line_end before;
  column = 1 + length (after_last is_line_end before);
}

-- the place behind a token or a gap that stays in its line, or behind a line end
abbrev pub passed : Bool → SourcePlace → ℕ → SourcePlace
passed true place len = record { line = place.line; column = place.column + len }
passed false place len = record { line = place.line + 1; column = 1 }
