-- What stands at the front of a text.
use Rattle.std.specs.Prelude.{ℕ, ℤ, pos, ◌==◌, nat_le, if◌then◌else◌, Option, Some, None, List, [], ◌∷◌, map}
use Rattle.std.specs.List.{prefix_len, take_while}
use Rattle.std.specs.Char.{is_ascii_digit, is_ascii_alphabetic, to_ascii_uppercase}
use Rattle.std.specs.Str.Parse.{digits_value}
use Rattle.fd_words.specs.declared.source.SourceCause.TheVariants.{BadByte, NumberTooLarge, NameTooLong}
use Rattle.fd_lexer.specs.declared.token.TokenKind.{TokenKind}
use Rattle.fd_lexer.specs.declared.token.TokenKind.TheVariants.{Word, Number, OpenParen, CloseParen, Comma, Equals, Plus, Minus, Star}
use Rattle.fd_lexer.specs.declared.token.TokenKind.TheVariants.{LineEnd}
use Rattle.fd_lexer.specs.Bytes.{is_blank, is_inside_line, is_word_byte, greatest}
use Rattle.fd_lexer.specs.declared.piece.Opening.{Opening}
use Rattle.fd_lexer.specs.declared.piece.Opening.TheVariants.{Blank, Comment, Digit, Letter, Sign, Unlisted}
use Rattle.fd_lexer.specs.declared.piece.Piece.{Piece}
use Rattle.fd_lexer.specs.declared.piece.Piece.TheVariants.{Nothing, Gap, Lexeme, Fault}

-- the token of one byte
abbrev pub sign_byte : ℕ → Option TokenKind
sign_byte byte =
    if byte == 10 then Some LineEnd else (
    if byte == 40 then Some OpenParen else (
    if byte == 41 then Some CloseParen else (
    if byte == 42 then Some Star else (
    if byte == 43 then Some Plus else (
    if byte == 44 then Some Comma else (
    if byte == 45 then Some Minus else (
    if byte == 61 then Some Equals else None)))))))

abbrev pub sign_or_unlisted : Option TokenKind → Opening
sign_or_unlisted (Some kind) = Sign kind
sign_or_unlisted None = Unlisted

-- what a byte begins
abbrev pub opening_of : ℕ → Opening
opening_of byte =
    if is_blank byte then Blank else (
    if is_ascii_digit byte then Digit else (
    if is_ascii_alphabetic byte then Letter else (
    if byte == 33 then Comment else sign_or_unlisted (sign_byte byte))))

-- the number that digits write, up to the greatest
abbrev pub number_of : List ℕ → Option ℤ
number_of digits = let value = digits_value 10 digits in if nat_le value greatest then Some (pos value) else None

abbrev pub number_or_fault : Option ℤ → ℕ → Piece
number_or_fault (Some value) len = Lexeme (Number value) len
number_or_fault None len = Fault NumberTooLarge

-- the number at the front, as long as digits follow
abbrev pub number_piece : List ℕ → Piece
number_piece text = number_or_fault (number_of (take_while is_ascii_digit text)) (prefix_len is_ascii_digit text)

-- the word at the front in upper case, as long as letters, digits and underscores follow
abbrev pub word_piece : List ℕ → Piece
word_piece text =
    if nat_le (prefix_len is_word_byte text) 31
    then Lexeme (Word (map to_ascii_uppercase (take_while is_word_byte text))) (prefix_len is_word_byte text)
    else Fault NameTooLong

abbrev pub piece_of : Opening → List ℕ → Piece
piece_of Blank text = Gap 1
piece_of Comment text = Gap (prefix_len is_inside_line text)
piece_of Digit text = number_piece text
piece_of Letter text = word_piece text
piece_of (Sign kind) text = Lexeme kind 1
piece_of Unlisted text = Fault BadByte

-- what stands at the front
abbrev pub piece_at : List ℕ → Piece
piece_at [] = Nothing
piece_at (byte ∷ more) = piece_of (opening_of byte) (byte ∷ more)
