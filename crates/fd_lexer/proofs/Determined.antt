-- A text has either tokens or a first fault, and one of them.
use Rattle.std.proofs.Common.{◌≡◌, ℕ, suc, zero, ◌+◌, ◌≤◌, Bool, true, false, List, [], ◌∷◌, length, drop, take, ◌⊎◌, inl, inr, sym, ap}
use Rattle.std.proofs.Common.{◌∙◌, subst, refl, arith}
use Rattle.std.proofs.lemmas.List.{drop_all}
use Rattle.fd_words.specs.declared.source.SourcePlace.{SourcePlace}
use Rattle.fd_words.specs.declared.source.SourceFault.{SourceFault}
use Rattle.fd_lexer.specs.declared.token.Token.{Token}
use Rattle.fd_lexer.specs.declared.token.TokenKind.{TokenKind}
use Rattle.fd_lexer.specs.declared.token.TokenKind.TheVariants.{LineEnd}
use Rattle.fd_lexer.specs.declared.token.TokenList.{TokenList}
use Rattle.fd_lexer.specs.declared.piece.Piece.{Piece}
use Rattle.fd_lexer.specs.declared.piece.Piece.TheVariants.{Nothing, Gap, Lexeme, Fault}
use Rattle.fd_lexer.specs.Piece.{piece_at}
use Rattle.fd_lexer.specs.Place.{place_of}
use Rattle.fd_lexer.specs.Tokens.{HasTokens, HasFault, TokensFrom, opens_line, line_closed}
use Rattle.fd_lexer.specs.Tokens as read
use Rattle.fd_lexer.specs.Laws.{IsInOrder}
use Rattle.fd_lexer.proofs.ByPiece.{Pieces, over, line_over, gap, token, PiecesToFault, here, behind_gap, behind_token, token_at}
use Rattle.fd_lexer.proofs.Fits.{gap_fits, token_fits}
use Rattle.fd_lexer.proofs.Cover.{tokens_from, fault_from}
use Rattle.fd_lexer.proofs.Back.{gap_back, token_back, pieces_from, pieces_to_fault}

same_tokens : {text : List ℕ} {at : ℕ} {begun : Bool} {ts us : List Token} → Pieces text at begun ts → Pieces text at begun us → ts ≡ us
same_tokens (over e) (over f) = refl
same_tokens (over e) (gap len f h) = cc
same_tokens (over e) (token kind len f h) = cc
same_tokens (line_over e) (line_over f) = refl
same_tokens (line_over e) (gap len f h) = cc
same_tokens (line_over e) (token kind len f h) = cc
same_tokens (gap len e g) (over f) = cc
same_tokens (gap len e g) (line_over f) = cc
same_tokens {text} {at} {begun} {ts} {us} (gap len e g) (gap len' f h) =
    let same : len' ≡ len = cc in
    same_tokens g (subst (λ n. Pieces text (at + n) begun us) same h)
same_tokens (gap len e g) (token kind len' f h) = cc
same_tokens (token kind len e g) (over f) = cc
same_tokens (token kind len e g) (line_over f) = cc
same_tokens (token kind len e g) (gap len' f h) = cc
same_tokens {text} {at} (token {ts = ts} kind len e g) (token {ts = us} kind' len' f h) =
    let same_len : len' ≡ len = cc in
    let same_kind : kind' ≡ kind = cc in
    let rest = same_tokens g (subst (λ k. Pieces text (at + len) (opens_line k) us) same_kind
    (subst (λ n. Pieces text (at + n) (opens_line kind') us) same_len h)) in
    cc

same_fault : {text : List ℕ} {fault other : SourceFault} {at : ℕ} → PiecesToFault text fault at → PiecesToFault text other at
    → fault ≡ other
same_fault (here cause e p) (here cause' f q) = let same : cause ≡ cause' = cc in cc
same_fault (here cause e p) (behind_gap len f h) = cc
same_fault (here cause e p) (behind_token kind len f h) = cc
same_fault (behind_gap len e g) (here cause f q) = cc
same_fault {text} {fault} {other} {at} (behind_gap len e g) (behind_gap len' f h) =
    let same : len' ≡ len = cc in
    same_fault g (subst (λ n. PiecesToFault text other (at + n)) same h)
same_fault (behind_gap len e g) (behind_token kind len' f h) = cc
same_fault (behind_token kind len e g) (here cause f q) = cc
same_fault (behind_token kind len e g) (behind_gap len' f h) = cc
same_fault {text} {fault} {other} {at} (behind_token kind len e g) (behind_token kind' len' f h) =
    let same : len' ≡ len = cc in
    same_fault g (subst (λ n. PiecesToFault text other (at + n)) same h)

never_both : {text : List ℕ} {fault : SourceFault} {at : ℕ} {begun : Bool} {ts : List Token} → Pieces text at begun ts
    → PiecesToFault text fault at → ⊥
never_both (over e) (here cause f q) = cc
never_both (over e) (behind_gap len f h) = cc
never_both (over e) (behind_token kind len f h) = cc
never_both (line_over e) (here cause f q) = cc
never_both (line_over e) (behind_gap len f h) = cc
never_both (line_over e) (behind_token kind len f h) = cc
never_both (gap len e g) (here cause f q) = cc
never_both {text} {fault} {at} {begun} {ts} (gap len e g) (behind_gap len' f h) =
    let same : len' ≡ len = cc in
    never_both g (subst (λ n. PiecesToFault text fault (at + n)) same h)
never_both (gap len e g) (behind_token kind len' f h) = cc
never_both (token kind len e g) (here cause f q) = cc
never_both (token kind len e g) (behind_gap len' f h) = cc
never_both {text} {fault} {at} {begun} {ts} (token kind len e g) (behind_token kind' len' f h) =
    let same : len' ≡ len = cc in
    never_both g (subst (λ n. PiecesToFault text fault (at + n)) same h)

-- from a place on there are tokens or a fault
abbrev Outcome : List ℕ → ℕ → Bool → Type 0
Outcome text at begun = ((ts : List Token) × Pieces text at begun ts) ⊎ ((fault : SourceFault) × PiecesToFault text fault at)

nothing_left : (text : List ℕ) (at : ℕ) (begun : Bool) → piece_at (drop at text) ≡ Nothing → Outcome text at begun
nothing_left text at false e = inl ([], over e)
nothing_left text at true e = inl (token_at text at LineEnd 0 ∷ [], line_over e)

after_gap : (text : List ℕ) (at len : ℕ) (begun : Bool) → piece_at (drop at text) ≡ Gap len → Outcome text (at + len) begun
    → Outcome text at begun
after_gap text at len begun e (inl h) = inl (h.0, gap len e h.1)
after_gap text at len begun e (inr h) = inr (h.0, behind_gap len e h.1)

after_token : (text : List ℕ) (at len : ℕ) (kind : TokenKind) (begun : Bool) → piece_at (drop at text) ≡ Lexeme kind len
    → Outcome text (at + len) (opens_line kind) → Outcome text at begun
after_token text at len kind begun e (inl h) = inl (token_at text at kind len ∷ h.0, token kind len e h.1)
after_token text at len kind begun e (inr h) = inr (h.0, behind_token kind len e h.1)

abbrev Later : List ℕ → ℕ → Type 0
Later text fuel = (at : ℕ) (begun : Bool) → at ≤ length text → length text ≤ at + fuel → Outcome text at begun

by_piece : (text : List ℕ) (fuel at : ℕ) (begun : Bool) (piece : Piece) → Later text fuel → at ≤ length text → length text ≤ at + suc fuel
    → piece_at (drop at text) ≡ piece → Outcome text at begun
by_piece text fuel at begun Nothing later within short e = nothing_left text at begun e
by_piece text fuel at begun (Gap len) later within short e =
    let fits = gap_fits text at len within e in
    after_gap text at len begun e (later (at + len) begun fits.within (omega (arith, fits.some, short)))
by_piece text fuel at begun (Lexeme kind len) later within short e =
    let fits = token_fits text at len kind within e in
    after_token text at len kind begun e (later (at + len) (opens_line kind) fits.within (omega (arith, fits.some, short)))
by_piece text fuel at begun (Fault cause) later within short e = inr (
  record { at = place_of (take at text); cause = cause },
  here cause e refl,
)

outcome : (text : List ℕ) (fuel : ℕ) → Later text fuel
outcome text zero at begun within short = nothing_left text at begun (ap piece_at (drop_all at text (omega (arith, short))))
outcome text (suc fuel) at begun within short = by_piece text fuel at begun _ (outcome text fuel) within short refl

list_of : (text : List ℕ) → Outcome text 0 false → ((list : TokenList) × HasTokens text list)
    ⊎ ((fault : SourceFault) × HasFault text fault)
list_of text (inl h) = inl (record { tokens = h.0; end = place_of text }, record { tokens = tokens_from (omega arith) h.1; end = refl })
list_of text (inr h) = inr (h.0, fault_from (omega arith) h.1)

pub has_either : (text : List ℕ) → ((list : TokenList) × HasTokens text list) ⊎ ((fault : SourceFault) × HasFault text fault)
has_either text = list_of text (outcome text (length text) 0 false (omega arith) (omega arith))

pub tokens_determined : (text : List ℕ) (list other : TokenList) → HasTokens text list → HasTokens text other → list ≡ other
tokens_determined text list other h k =
    let tokens = same_tokens (pieces_from h.tokens) (pieces_from k.tokens) in
    let end : list.end ≡ other.end = h.end ∙ sym k.end in
    ap (λ (ts : List Token). let l : TokenList = record { tokens = ts; end = list.end } in l) tokens
    ∙ ap (λ (e : SourcePlace). let l : TokenList = record { tokens = other.tokens; end = e } in l) end

pub fault_determined : (text : List ℕ) (fault other : SourceFault) → HasFault text fault → HasFault text other → fault ≡ other
fault_determined text fault other h k = same_fault (pieces_to_fault h) (pieces_to_fault k)

pub has_not_both : (text : List ℕ) (list : TokenList) (fault : SourceFault) → HasTokens text list → HasFault text fault → ⊥
has_not_both text list fault h k = never_both (pieces_from h.tokens) (pieces_to_fault k)

order_from : (ts : List Token) (from at : ℕ) → from ≤ at → IsInOrder at ts → IsInOrder from ts
order_from [] from at le h = tt
order_from (t ∷ ts) from at le h = (omega (arith, h.0, le), h.1, h.2)

closed_in_order : (at : ℕ) (place : SourcePlace) (begun : Bool) → IsInOrder at (line_closed at place begun)
closed_in_order at place false = tt
closed_in_order at place true = (omega arith, omega arith, tt)

in_order : {text : List ℕ} {at : ℕ} {begun : Bool} {ts : List Token} → TokensFrom text at begun ts → IsInOrder at ts
in_order {text} (read.over {begun = begun}) = closed_in_order (length text) (place_of text) begun
in_order {text} {at} {begun} {ts} (read.gap to g h) = order_from ts at to (omega (arith, (gap_back text at to g).span)) (in_order h)
in_order {text} {at} (read.token t is h) = (omega (arith, is.start), omega (arith, is.start, (token_back text at t is).span), in_order h)

pub spans_are_in_order : (text : List ℕ) (list : TokenList) → HasTokens text list → IsInOrder 0 list.tokens
spans_are_in_order text list h = in_order h.tokens
