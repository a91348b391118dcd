-- A piece has some bytes within the text, and lines and columns are small.
use Rattle.std.proofs.Common.{◌≡◌, ℕ, ◌+◌, ◌<◌, ◌≤◌, Bool, true, false, List, [], length, take, drop, ap, subst, arith, length-drop}
use Rattle.std.proofs.lemmas.List.{take_all, length-take-le}
use Rattle.fd_words.specs.declared.source.SourcePlace.{SourcePlace}
use Rattle.fd_lexer.specs.declared.token.TokenKind.{TokenKind}
use Rattle.fd_lexer.specs.declared.piece.Piece.{Piece}
use Rattle.fd_lexer.specs.declared.piece.Piece.TheVariants.{Gap, Lexeme}
use Rattle.fd_lexer.specs.Piece.{piece_at}
use Rattle.fd_lexer.specs.Place.{place_of}
use Rattle.fd_lexer.specs.Tokens.{opens_line}
use Rattle.fd_lexer.proofs.Pieces.{StaysInLine, PassesToken, Passes, piece_at-passes}
use Rattle.fd_lexer.proofs.Places.{place_of-le}

pub passes : (text : List ℕ) (at : ℕ) (piece : Piece) → piece_at (drop at text) ≡ piece → Passes piece (drop at text)
passes text at piece e = subst (λ p. Passes p (drop at text)) e (piece_at-passes (drop at text))

-- a piece has some bytes, within the text
pub record Fits (text : List ℕ) (at len : ℕ) : Type 0 where
  pub some : 0 < len
  pub within : at + len ≤ length text

gap_within : (rest : List ℕ) (len : ℕ) → StaysInLine len rest → (0 < len) × (len ≤ length rest)
gap_within rest len s = (s.some, s.within)

token_within : (begun : Bool) (len : ℕ) (rest : List ℕ) → PassesToken begun len rest → (0 < len) × (len ≤ length rest)
token_within true len rest s = (s.some, s.within)
token_within false len rest s = (omega (arith, s.0), omega (arith, s.0, s.1))

fits : (text : List ℕ) (at len : ℕ) → at ≤ length text → (0 < len) × (len ≤ length (drop at text)) → Fits text at len
fits text at len within h = record { some = h.0; within = omega (arith, h.1, length-drop at text, within) }

pub gap_fits : (text : List ℕ) (at len : ℕ) → at ≤ length text → piece_at (drop at text) ≡ Gap len → Fits text at len
gap_fits text at len within e = fits text at len within (gap_within (drop at text) len (passes text at (Gap len) e))

pub token_fits : (text : List ℕ) (at len : ℕ) (kind : TokenKind) → at ≤ length text → piece_at (drop at text) ≡ Lexeme kind len
    → Fits text at len
token_fits text at len kind within e =
    fits text at len within (token_within (opens_line kind) len (drop at text) (passes text at (Lexeme kind len) e))

-- lines and columns are small where the text is
pub place_fits : (text : List ℕ) (at : ℕ) (place : SourcePlace) → at ≤ length text → place ≡ place_of (take at text)
    → (place.line ≤ 1 + at) × (place.column ≤ 1 + at)
place_fits text at place within e =
    let bound = place_of-le (take at text) in
    let len = length-take-le at text within in
    (omega (arith, ap (λ (p : SourcePlace). p.line) e, bound.0, len), omega (arith, ap (λ (p : SourcePlace). p.column) e, bound.1, len))

-- at the end of a text
pub at_end : (text : List ℕ) (at : ℕ) → at ≤ length text → drop at text ≡ [] → at ≡ length text
at_end text at within e = let none = ap length e in omega (arith, none, length-drop at text, within)

pub end_place : (text : List ℕ) (at : ℕ) → drop at text ≡ [] → place_of (take at text) ≡ place_of text
end_place text at e =
    let none = ap length e in
    ap place_of (take_all at text (omega (arith, none, length-drop at text)))
