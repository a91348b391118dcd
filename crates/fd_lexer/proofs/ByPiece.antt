-- The tokens of a text and its first fault by the pieces that stand at the front of what is left.
use Rattle.std.proofs.Common.{◌≡◌, ℕ, ◌+◌, Bool, true, false, List, [], ◌∷◌, take, drop}
use Rattle.fd_words.specs.declared.source.SourceFault.{SourceFault}
use Rattle.fd_words.specs.declared.source.SourceCause.{SourceCause}
use Rattle.fd_lexer.specs.declared.token.Token.{Token}
use Rattle.fd_lexer.specs.declared.token.TokenKind.{TokenKind}
use Rattle.fd_lexer.specs.declared.token.TokenKind.TheVariants.{LineEnd}
use Rattle.fd_lexer.specs.declared.piece.Piece.TheVariants.{Nothing, Gap, Lexeme, Fault}
use Rattle.fd_lexer.specs.Piece.{piece_at}
use Rattle.fd_lexer.specs.Place.{place_of}
use Rattle.fd_lexer.specs.Tokens.{opens_line, token_of}

abbrev pub token_at : List ℕ → ℕ → TokenKind → ℕ → Token
token_at text at kind len = token_of at (place_of (take at text)) kind len

pub data Pieces (text : List ℕ) : ℕ → Bool → List Token → Type 0 where
  over : {at : ℕ} → piece_at (drop at text) ≡ Nothing → Pieces text at false []
  line_over : {at : ℕ} → piece_at (drop at text) ≡ Nothing → Pieces text at true (token_at text at LineEnd 0 ∷ [])
  gap : {at : ℕ} {begun : Bool} {ts : List Token} (len : ℕ) → piece_at (drop at text) ≡ Gap len
      → Pieces text (at + len) begun ts → Pieces text at begun ts
  token : {at : ℕ} {begun : Bool} {ts : List Token} (kind : TokenKind) (len : ℕ) → piece_at (drop at text) ≡ Lexeme kind len
      → Pieces text (at + len) (opens_line kind) ts → Pieces text at begun (token_at text at kind len ∷ ts)

pub data PiecesToFault (text : List ℕ) (fault : SourceFault) : ℕ → Type 0 where
  here : {at : ℕ} (cause : SourceCause) → piece_at (drop at text) ≡ Fault cause
      → fault ≡ record { at = place_of (take at text); cause = cause } → PiecesToFault text fault at
  behind_gap : {at : ℕ} (len : ℕ) → piece_at (drop at text) ≡ Gap len → PiecesToFault text fault (at + len) → PiecesToFault text fault at
  behind_token : {at : ℕ} (kind : TokenKind) (len : ℕ) → piece_at (drop at text) ≡ Lexeme kind len
      → PiecesToFault text fault (at + len) → PiecesToFault text fault at
