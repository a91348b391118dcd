-- The tokens of a text, and its first fault.
use Rattle.std.specs.Prelude.{◌≡◌, ℕ, ℤ, pos, ◌+◌, ◌<◌, ◌≤◌, Bool, true, false, if◌then◌else◌, List, [], ◌∷◌, length, take, drop, map}
use Rattle.std.specs.Prelude.{slice_range, Result, Ok, Err}
use Rattle.std.specs.List.{prefix_len, take_while, list_any, list_all}
use Rattle.std.specs.Char.{is_ascii_digit, is_ascii_alphabetic, to_ascii_uppercase}
use Rattle.std.specs.Str.Parse.{digits_value}
use Rattle.fd_words.specs.declared.source.SourcePlace.{SourcePlace}
use Rattle.fd_words.specs.declared.source.SourceFault.{SourceFault}
use Rattle.fd_words.specs.declared.source.SourceCause.{SourceCause}
use Rattle.fd_words.specs.declared.source.SourceCause.TheVariants.{BadByte, NumberTooLarge, NameTooLong}
use Rattle.fd_words.specs.declared.source.SourceStop.{SourceStop}
use Rattle.fd_words.specs.declared.source.SourceStop.TheVariants as stop
use Rattle.fd_lexer.specs.declared.token.Token.{Token}
use Rattle.fd_lexer.specs.declared.token.TokenList.{TokenList}
use Rattle.fd_lexer.specs.declared.token.TokenKind.{TokenKind}
use Rattle.fd_lexer.specs.declared.token.TokenKind.TheVariants.{Word, Number, OpenParen, CloseParen, Comma, Equals, Plus, Minus, Star}
use Rattle.fd_lexer.specs.declared.token.TokenKind.TheVariants.{LineEnd}
use Rattle.fd_lexer.specs.Bytes.{is_blank, is_inside_line, is_word_byte, is_listed, greatest}
use Rattle.fd_lexer.specs.Place.{place_of}

-- the text goes on with no byte that passes
abbrev pub Ends : (ℕ → Bool) → List ℕ → Type 0
Ends passes [] = Unit {0}
Ends passes (byte ∷ more) = passes byte ≡ false

-- the bytes are the digits of a number, and no digit follows them
pub record IsNumber (value : ℤ) (bytes rest : List ℕ) : Type 0 where
  pub some : 0 < length bytes
  pub digits : list_all is_ascii_digit bytes ≡ true
  pub value_is : value ≡ pos (digits_value 10 bytes)
  pub most : digits_value 10 bytes ≤ greatest
  pub longest : Ends is_ascii_digit rest

-- the bytes are a letter and letters, digits and underscores, and none of these follows them
pub record IsWord (name bytes rest : List ℕ) : Type 0 where
  pub letter : list_any is_ascii_alphabetic (take 1 bytes) ≡ true
  pub word : list_all is_word_byte bytes ≡ true
  pub upper : name ≡ map to_ascii_uppercase bytes
  pub most : length bytes ≤ 31
  pub longest : Ends is_word_byte rest

-- how a token is written: its bytes, before the rest of the text
abbrev pub Spells : TokenKind → List ℕ → List ℕ → Type 0
Spells (Word name) bytes rest = IsWord name bytes rest
Spells (Number value) bytes rest = IsNumber value bytes rest
Spells OpenParen bytes rest = bytes ≡ 40 ∷ []
Spells CloseParen bytes rest = bytes ≡ 41 ∷ []
Spells Comma bytes rest = bytes ≡ 44 ∷ []
Spells Equals bytes rest = bytes ≡ 61 ∷ []
Spells Plus bytes rest = bytes ≡ 43 ∷ []
Spells Minus bytes rest = bytes ≡ 45 ∷ []
Spells Star bytes rest = bytes ≡ 42 ∷ []
Spells LineEnd bytes rest = bytes ≡ 10 ∷ []

-- what may lie between tokens: a blank, or a comment up to the end of its line
pub data IsGap : List ℕ → List ℕ → Type 0 where
  blank : {rest : List ℕ} (byte : ℕ) → is_blank byte ≡ true → IsGap (byte ∷ []) rest
  comment : {rest : List ℕ} (bytes : List ℕ) → list_all is_inside_line bytes ≡ true → Ends is_inside_line rest → IsGap (33 ∷ bytes) rest

-- a gap goes from one place to another
pub record IsGapAt (text : List ℕ) (at to : ℕ) : Type 0 where
  pub within : to ≤ length text
  pub gap : IsGap (slice_range text at to) (drop to text)

-- a token begins at a place, and its text is the slice of its span
pub record IsTokenAt (text : List ℕ) (at : ℕ) (t : Token) : Type 0 where
  pub start : t.start ≡ at
  pub within : t.end ≤ length text
  pub place : t.at ≡ place_of (take at text)
  pub spells : Spells t.kind (slice_range text at t.end) (drop t.end text)

-- whether a line has a token behind this one
abbrev pub opens_line : TokenKind → Bool
opens_line LineEnd = false
opens_line _ = true

-- the token of this kind that begins here and has so many bytes
abbrev pub token_of : ℕ → SourcePlace → TokenKind → ℕ → Token
token_of at place kind len = record { kind = kind; at = place; start = at; end = at + len }

-- the line end that the end of a text gives where a token stands in its last line
abbrev pub line_closed : ℕ → SourcePlace → Bool → List Token
line_closed at place begun = if begun then token_of at place LineEnd 0 ∷ [] else []

-- From this place on the text is these tokens with gaps. The flag says whether a token stands before the
-- place in its line: then the end of the text gives a line end too.
pub data TokensFrom (text : List ℕ) : ℕ → Bool → List Token → Type 0 where
  over : {begun : Bool} → TokensFrom text (length text) begun (line_closed (length text) (place_of text) begun)
  gap : {at : ℕ} {begun : Bool} {ts : List Token} (to : ℕ) → IsGapAt text at to → TokensFrom text to begun ts → TokensFrom text at begun ts
  token : {at : ℕ} {begun : Bool} {ts : List Token} (t : Token) → IsTokenAt text at t → TokensFrom text t.end (opens_line t.kind) ts
      → TokensFrom text at begun (t ∷ ts)

-- the byte that stands at a place, first of the text from there on, shows the fault
abbrev pub ShowsFault : SourceCause → ℕ → List ℕ → Type 0
ShowsFault BadByte byte text = is_listed byte ≡ false
ShowsFault NumberTooLarge byte text = (is_ascii_digit byte ≡ true) × (greatest < digits_value 10 (take_while is_ascii_digit text))
ShowsFault NameTooLong byte text = (is_ascii_alphabetic byte ≡ true) × (31 < prefix_len is_word_byte text)
ShowsFault _ byte text = ⊥

pub record IsFaultAt (text : List ℕ) (at : ℕ) (fault : SourceFault) : Type 0 where
  pub byte : ℕ
  pub more : List ℕ
  pub here : drop at text ≡ byte ∷ more
  pub place : fault.at ≡ place_of (take at text)
  pub shows : ShowsFault fault.cause byte (byte ∷ more)

-- from this place on this is the first fault: before it stand tokens and gaps alone
pub data FaultFrom (text : List ℕ) (fault : SourceFault) : ℕ → Type 0 where
  here : {at : ℕ} → IsFaultAt text at fault → FaultFrom text fault at
  behind_gap : {at : ℕ} (to : ℕ) → IsGapAt text at to → FaultFrom text fault to → FaultFrom text fault at
  behind_token : {at : ℕ} (t : Token) → IsTokenAt text at t → FaultFrom text fault t.end → FaultFrom text fault at

-- the tokens of a text, and the place behind its last byte
pub record HasTokens (text : List ℕ) (list : TokenList) : Type 0 where
  pub tokens : TokensFrom text 0 false list.tokens
  pub end : list.end ≡ place_of text

abbrev pub HasFault : List ℕ → SourceFault → Type 0
HasFault text fault = FaultFrom text fault 0

-- the tokens, or exactly the first fault; want of memory alone is free
abbrev pub IsLexed : List ℕ → Result TokenList SourceStop → Type 0
IsLexed text (Ok list) = HasTokens text list
IsLexed text (Err (stop.Fault fault)) = HasFault text fault
IsLexed text (Err stop.Memory) = Unit {0}
