-- The pieces of a text are its tokens and gaps, and a faulty piece is a fault.
use Rattle.std.proofs.Common.{◌≡◌, ℕ, ◌+◌, ◌-◌, ◌≤◌, Bool, true, false, List, [], ◌∷◌, length, take, drop, slice_range, sym, ap, subst}
use Rattle.std.proofs.Common.{refl, arith}
use Rattle.std.proofs.lemmas.List.{drop-drop}
use Rattle.fd_words.specs.declared.source.SourcePlace.{SourcePlace}
use Rattle.fd_words.specs.declared.source.SourceFault.{SourceFault}
use Rattle.fd_words.specs.declared.source.SourceCause.{SourceCause}
use Rattle.fd_lexer.specs.declared.token.Token.{Token}
use Rattle.fd_lexer.specs.declared.token.TokenKind.{TokenKind}
use Rattle.fd_lexer.specs.declared.token.TokenKind.TheVariants.{LineEnd}
use Rattle.fd_lexer.specs.declared.piece.Piece.TheVariants.{Nothing, Gap, Lexeme, Fault}
use Rattle.fd_lexer.specs.Piece.{piece_at}
use Rattle.fd_lexer.specs.Place.{place_of}
use Rattle.fd_lexer.specs.Tokens.{IsGap, IsGapAt, Spells, IsTokenAt, ShowsFault, IsFaultAt, TokensFrom, FaultFrom, token_of, opens_line}
use Rattle.fd_lexer.specs.Tokens as read
use Rattle.fd_lexer.proofs.ByPiece.{Pieces, over, line_over, gap, token, PiecesToFault, here, behind_gap, behind_token, token_at}
use Rattle.fd_lexer.proofs.Fits.{passes, gap_fits, token_fits, at_end, end_place}
use Rattle.fd_lexer.proofs.Spelling.{IsSpelled, piece_spelled}

-- a piece that is there has a first byte
gap_spelled : (len : ℕ) (rest : List ℕ) → piece_at rest ≡ Gap len → IsGap (take len rest) (drop len rest)
gap_spelled len [] e = absurd (let f : Nothing ≡ Gap len = e in cc)
gap_spelled len (b ∷ more) e = subst (λ p. IsSpelled p b (b ∷ more)) e (piece_spelled b more)

token_spelled : (kind : TokenKind) (len : ℕ) (rest : List ℕ) → piece_at rest ≡ Lexeme kind len → Spells kind (take len rest) (drop len rest)
token_spelled kind len [] e = absurd (let f : Nothing ≡ Lexeme kind len = e in cc)
token_spelled kind len (b ∷ more) e = subst (λ p. IsSpelled p b (b ∷ more)) e (piece_spelled b more)

-- a part of a text, from a place on
slice_front : (text : List ℕ) (at len : ℕ) → slice_range text at (at + len) ≡ take len (drop at text)
slice_front text at len = let e : at + len - at ≡ len = omega arith in ap (λ n. take n (drop at text)) e

gap_here : (text : List ℕ) (at len : ℕ) → at ≤ length text → piece_at (drop at text) ≡ Gap len → IsGapAt text at (at + len)
gap_here text at len within e = record {
  within = (gap_fits text at len within e).within;
  gap = subst (λ bytes. IsGap bytes (drop (at + len) text)) (sym (slice_front text at len))
      (subst (λ rest. IsGap (take len (drop at text)) rest) (drop-drop len at text) (gap_spelled len (drop at text) e));
}

token_here : (text : List ℕ) (at len : ℕ) (kind : TokenKind) → at ≤ length text → piece_at (drop at text) ≡ Lexeme kind len
    → IsTokenAt text at (token_at text at kind len)
token_here text at len kind within e = record {
  start = refl;
  within = (token_fits text at len kind within e).within;
  place = refl;
  spells = subst (λ bytes. Spells kind bytes (drop (at + len) text)) (sym (slice_front text at len))
      (subst (λ rest. Spells kind (take len (drop at text)) rest) (drop-drop len at text) (token_spelled kind len (drop at text) e));
}

nothing_more : (text : List ℕ) (at : ℕ) → at ≡ length text → TokensFrom text at false []
nothing_more text at e = subst (λ n. TokensFrom text n false []) (sym e) read.over

last_line : (text : List ℕ) (at : ℕ) → at ≡ length text → place_of (take at text) ≡ place_of text
    → TokensFrom text at true (token_at text at LineEnd 0 ∷ [])
last_line text at e p =
    subst (λ (q : SourcePlace). TokensFrom text at true (token_of at q LineEnd 0 ∷ [])) (sym p)
    (subst (λ n. TokensFrom text n true (token_of n (place_of text) LineEnd 0 ∷ [])) (sym e) read.over)

pub tokens_from : {text : List ℕ} {at : ℕ} {begun : Bool} {ts : List Token} → at ≤ length text → Pieces text at begun ts
    → TokensFrom text at begun ts
tokens_from {text} {at} within (over e) = nothing_more text at (at_end text at within (passes text at Nothing e))
tokens_from {text} {at} within (line_over e) =
    let none = passes text at Nothing e in
    last_line text at (at_end text at within none) (end_place text at none)
tokens_from {text} {at} within (gap len e h) =
    read.gap (at + len) (gap_here text at len within e) (tokens_from (gap_fits text at len within e).within h)
tokens_from {text} {at} within (token kind len e h) =
    read.token (token_at text at kind len) (token_here text at len kind within e)
    (tokens_from (token_fits text at len kind within e).within h)

-- the place of a fault
shown_at : (text : List ℕ) (at : ℕ) (fault : SourceFault) (cause : SourceCause) (rest : List ℕ) → drop at text ≡ rest
    → piece_at rest ≡ Fault cause
    → fault ≡ record { at = place_of (take at text); cause = cause } → IsFaultAt text at fault
shown_at text at fault cause [] e f p = absurd (let g : Nothing ≡ Fault cause = f in cc)
shown_at text at fault cause (b ∷ more) e f p = record {
  byte = b;
  more = more;
  here = e;
  place = ap (λ (x : SourceFault). x.at) p;
  shows = subst (λ (c : SourceCause). ShowsFault c b (b ∷ more)) (sym (ap (λ (x : SourceFault). x.cause) p))
      (subst (λ q. IsSpelled q b (b ∷ more)) f (piece_spelled b more));
}

pub fault_from : {text : List ℕ} {fault : SourceFault} {at : ℕ} → at ≤ length text → PiecesToFault text fault at → FaultFrom text fault at
fault_from {text} {fault} {at} within (here cause e p) = read.here (shown_at text at fault cause (drop at text) refl e p)
fault_from {text} {fault} {at} within (behind_gap len e h) =
    read.behind_gap (at + len) (gap_here text at len within e) (fault_from (gap_fits text at len within e).within h)
fault_from {text} {fault} {at} within (behind_token kind len e h) =
    read.behind_token (token_at text at kind len) (token_here text at len kind within e)
    (fault_from (token_fits text at len kind within e).within h)
