-- How far a text is read.
use Rattle.std.proofs.Common.{◌≡◌, ℕ, ◌+◌, ◌-◌, ◌≤◌, Bool, true, false, List, [], ◌∷◌, ◌++◌, length, take, drop, Result, Ok, Err}
use Rattle.std.proofs.Common.{MatchResult, sym, ap, ◌∙◌, subst, arith, append_assoc}
use Rattle.std.proofs.lemmas.List.{take_rest}
use Rattle.fd_words.specs.declared.source.SourcePlace.{SourcePlace}
use Rattle.fd_words.specs.declared.source.SourceFault.{SourceFault}
use Rattle.fd_words.specs.declared.source.SourceCause.{SourceCause}
use Rattle.fd_words.specs.declared.source.SourceStop.{SourceStop}
use Rattle.fd_words.specs.declared.source.SourceStop.TheVariants as stop
use Rattle.fd_lexer.specs.declared.token.Token.{Token}
use Rattle.fd_lexer.specs.declared.token.TokenKind.{TokenKind}
use Rattle.fd_lexer.specs.declared.token.TokenKind.TheVariants.{LineEnd}
use Rattle.fd_lexer.specs.declared.token.TokenList.{TokenList}
use Rattle.fd_lexer.specs.declared.piece.Piece.{Piece}
use Rattle.fd_lexer.specs.declared.piece.Piece.TheVariants.{Nothing, Gap, Lexeme, Fault}
use Rattle.fd_lexer.specs.Piece.{piece_at}
use Rattle.fd_lexer.specs.Place.{place_of, passed}
use Rattle.fd_lexer.specs.Tokens.{HasFault, IsLexed, opens_line, token_of, line_closed}
use Rattle.fd_lexer.proofs.ByPiece.{Pieces, over, line_over, gap, token, PiecesToFault, here, behind_gap, behind_token, token_at}
use Rattle.fd_lexer.proofs.Fits.{passes, gap_fits, token_fits, end_place}
use Rattle.fd_lexer.proofs.Places.{next_place}
use Rattle.fd_lexer.proofs.Cover.{tokens_from, fault_from}

-- what is found so far and what follows are the tokens of the text, and a fault that follows is its first
pub record Reads (text : List ℕ) (at : ℕ) (place : SourcePlace) (begun : Bool) (found : List Token) : Type 0 where
  pub within : at ≤ length text
  pub here : place ≡ place_of (take at text)
  pub tokens : (ts : List Token) → Pieces text at begun ts → Pieces text 0 false (found ++ ts)
  pub faults : (fault : SourceFault) → PiecesToFault text fault at → PiecesToFault text fault 0

pub front : (text : List ℕ) (at : ℕ) (piece : Piece) → piece ≡ piece_at (take (length text - at) (drop at text))
    → piece_at (drop at text) ≡ piece
front text at piece e = ap piece_at (sym (take_rest text at)) ∙ sym e

module _ (text : List ℕ) (at : ℕ) (place : SourcePlace) (begun : Bool) (found : List Token) (r : Reads text at place begun found) where
  pub reads_gap : (len : ℕ) → piece_at (drop at text) ≡ Gap len
      → (at' : ℕ) (place' : SourcePlace) (begun' : Bool) → at' ≡ at + len → place' ≡ passed true place len → begun' ≡ begun
      → Reads text at' place' begun' found
  reads_gap len e at' place' begun' eat eplace ebegun = record {
    within = omega (arith, eat, (gap_fits text at len r.within e).within);
    here = eplace ∙ ap (λ (p : SourcePlace). passed true p len) r.here ∙ sym (next_place text at len true (passes text at (Gap len) e))
        ∙ ap (λ n. place_of (take n text)) (sym eat);
    tokens = λ ts h. r.tokens ts (gap len e (subst (λ n. Pieces text n begun ts) eat (subst (λ b. Pieces text at' b ts) ebegun h)));
    faults = λ fault h. r.faults fault (behind_gap len e (subst (λ n. PiecesToFault text fault n) eat h));
  }

  same_token : (kind : TokenKind) (len : ℕ) → token_of at place kind len ≡ token_at text at kind len
  same_token kind len = ap (λ (p : SourcePlace). token_of at p kind len) r.here

  pub reads_token : (kind : TokenKind) (len : ℕ) (t : Token) → piece_at (drop at text) ≡ Lexeme kind len → t ≡ token_of at place kind len
      → (at' : ℕ) (place' : SourcePlace) (begun' : Bool) (found' : List Token) → at' ≡ at + len
      → place' ≡ passed (opens_line kind) place len
      → begun' ≡ opens_line kind → found' ≡ found ++ t ∷ [] → Reads text at' place' begun' found'
  reads_token kind len t e et at' place' begun' found' eat eplace ebegun efound = record {
    within = omega (arith, eat, (token_fits text at len kind r.within e).within);
    here = eplace ∙ ap (λ (p : SourcePlace). passed (opens_line kind) p len) r.here
        ∙ sym (next_place text at len (opens_line kind) (passes text at (Lexeme kind len) e)) ∙ ap (λ n. place_of (take n text)) (sym eat);
    tokens = λ ts h.
        let rest = subst (λ n. Pieces text n (opens_line kind) ts) eat (subst (λ b. Pieces text at' b ts) ebegun h) in
        let all = r.tokens (token_at text at kind len ∷ ts) (token kind len e rest) in
        let joined = ap (λ us. us ++ ts) efound ∙ append_assoc found (t ∷ []) ts ∙ ap (λ (u : Token). found ++ (u ∷ ts)) (et
        ∙ same_token kind len) in
        subst (λ us. Pieces text 0 false us) (sym joined) all;
    faults = λ fault h. r.faults fault (behind_token kind len e (subst (λ n. PiecesToFault text fault n) eat h));
  }

  pub reads_fault : (cause : SourceCause) → piece_at (drop at text) ≡ Fault cause → HasFault text (record { at = place; cause = cause })
  reads_fault cause e =
      fault_from (omega arith) (r.faults _
      (here cause e (ap (λ (p : SourcePlace). let f : SourceFault = record { at = p; cause = cause } in f) r.here)))

-- at the end of the text
closes : (text : List ℕ) (at : ℕ) (place : SourcePlace) (begun : Bool) (found : List Token) → Reads text at place begun found
    → piece_at (drop at text) ≡ Nothing → Pieces text 0 false (found ++ line_closed at place begun)
closes text at place false found r e = r.tokens [] (over e)
closes text at place true found r e =
    subst (λ (t : Token). Pieces text 0 false (found ++ (t ∷ []))) (sym (same_token text at place true found r LineEnd 0))
    (r.tokens (token_at text at LineEnd 0 ∷ []) (line_over e))

pub reads_over : (text : List ℕ) (at : ℕ) (place : SourcePlace) (begun : Bool) (found : List Token) → Reads text at place begun found
    → piece_at (drop at text) ≡ Nothing → (result : Result TokenList SourceStop)
    → MatchResult result (λ list. (list.tokens ≡ found ++ line_closed at place begun) × (list.end ≡ place)) (λ s. s ≡ stop.Memory)
    → IsLexed text result
reads_over text at place begun found r e (Ok list) h = record {
  tokens = tokens_from (omega arith) (subst (λ ts. Pieces text 0 false ts) (sym h.0) (closes text at place begun found r e));
  end = h.1 ∙ r.here ∙ end_place text at (passes text at Nothing e);
}
reads_over text at place begun found r e (Err s) h = subst (λ (x : SourceStop). IsLexed text (Err x)) (sym h) tt
