-- Tokens, gaps and faults of a text are the pieces that stand at the front of what is left.
use Rattle.std.proofs.Common.{◌≡◌, ◌==◌, ℕ, suc, ◌+◌, ◌-◌, ◌<◌, ◌≤◌, Bool, true, false, cond, List, [], ◌∷◌, ◌++◌, length, take, drop}
use Rattle.std.proofs.Common.{slice_range, map, ⊎_elim, Some, None, ℤ, pos, sym, ap, ◌∙◌, subst, refl, arith, length-drop, length-take}
use Rattle.std.specs.List.{prefix_len, take_while, list_all, list_any}
use Rattle.std.specs.Char.{is_ascii_digit, is_ascii_alphabetic, is_ascii_alphanumeric, to_ascii_uppercase}
use Rattle.std.specs.Str.Parse.{digits_value}
use Rattle.std.proofs.lemmas.Bool.{false_from_ne_true, eqb-true, and_parts, or_parts, or_from, or_cases, cond-true, cond-false, le-leb}
use Rattle.std.proofs.lemmas.Bool.{lt-leb}
use Rattle.std.proofs.lemmas.Bool.Decides.{nat_tests}
use Rattle.std.proofs.lemmas.List.{take-append-drop, drop-drop, take_at, drop_all}
use Rattle.fd_words.specs.declared.source.SourcePlace.{SourcePlace}
use Rattle.fd_words.specs.declared.source.SourceFault.{SourceFault}
use Rattle.fd_words.specs.declared.source.SourceCause.{SourceCause}
use Rattle.fd_words.specs.declared.source.SourceCause.TheVariants.{BadByte, NumberTooLarge, NameTooLong}
use Rattle.fd_lexer.specs.declared.token.Token.{Token}
use Rattle.fd_lexer.specs.declared.token.TokenKind.{TokenKind}
use Rattle.fd_lexer.specs.declared.token.TokenKind.TheVariants.{Word, Number, OpenParen, CloseParen, Comma, Equals, Plus, Minus, Star}
use Rattle.fd_lexer.specs.declared.token.TokenKind.TheVariants.{LineEnd}
use Rattle.fd_lexer.specs.declared.piece.Opening.TheVariants.{Digit, Letter, Sign, Unlisted}
use Rattle.fd_lexer.specs.declared.piece.Piece.{Piece}
use Rattle.fd_lexer.specs.declared.piece.Piece.TheVariants.{Gap, Lexeme, Fault}
use Rattle.fd_lexer.specs.Bytes.{is_blank, is_inside_line, is_word_byte, is_listed, greatest}
use Rattle.fd_lexer.specs.Piece.{sign_byte, sign_or_unlisted, opening_of, number_of, number_or_fault, number_piece, word_piece, piece_of}
use Rattle.fd_lexer.specs.Piece.{piece_at}
use Rattle.fd_lexer.specs.Place.{place_of}
use Rattle.fd_lexer.specs.Tokens.{Ends, IsNumber, IsWord, Spells, IsGap, blank, comment, IsGapAt, IsTokenAt, ShowsFault, IsFaultAt}
use Rattle.fd_lexer.specs.Tokens.{TokensFrom, FaultFrom, token_of, line_closed, opens_line}
use Rattle.fd_lexer.specs.Tokens as read
use Rattle.fd_lexer.proofs.ByPiece.{Pieces, over, line_over, gap, token, PiecesToFault, here, behind_gap, behind_token, token_at}
use Rattle.fd_lexer.proofs.Fits.{end_place}

-- bytes that pass, before a rest that doesn't go on with them, are the longest front
none_more : (p : ℕ → Bool) (rest : List ℕ) → Ends p rest → prefix_len p rest ≡ 0
none_more p [] e = refl
none_more p (b ∷ more) e = cond-false _ _ _ e

front_len : (p : ℕ → Bool) (bytes rest : List ℕ) → list_all p bytes ≡ true → Ends p rest → prefix_len p (bytes ++ rest) ≡ length bytes
front_len p [] rest all ends = none_more p rest ends
front_len p (b ∷ bytes) rest all ends =
    let parts = and_parts (p b) (list_all p bytes) all in
    let more = front_len p bytes rest parts.1 ends in
    let longer : 1 + prefix_len p (bytes ++ rest) ≡ suc (length bytes) = omega (arith, more) in
    cond-true _ _ _ parts.0 ∙ longer

front_bytes : (p : ℕ → Bool) (bytes rest : List ℕ) → list_all p bytes ≡ true → Ends p rest → take_while p (bytes ++ rest) ≡ bytes
front_bytes p bytes rest all ends = take_at bytes rest (prefix_len p (bytes ++ rest)) (sym (front_len p bytes rest all ends))

gap_piece : {bytes rest : List ℕ} → IsGap bytes rest → piece_at (bytes ++ rest) ≡ Gap (length bytes)
gap_piece {bytes} {rest} (blank b e) = ap (λ o. piece_of o (b ∷ rest)) (cond-true _ _ _ e)
gap_piece {rest = rest} (comment bytes all ends) =
    let len = front_len is_inside_line bytes rest all ends in
    let same : 1 + prefix_len is_inside_line (bytes ++ rest) ≡ suc (length bytes) = omega (arith, len) in
    ap Gap same

digit_opens : (b : ℕ) → is_ascii_digit b ≡ true → opening_of b ≡ Digit
digit_opens b e =
    let other : is_blank b ≡ false = grind (arith, nat_tests) in
    cond-false _ _ _ other ∙ cond-true _ _ _ e

letter_opens : (b : ℕ) → is_ascii_alphabetic b ≡ true → opening_of b ≡ Letter
letter_opens b e =
    let other : is_blank b ≡ false = grind (arith, nat_tests) in
    let digit : is_ascii_digit b ≡ false = grind (arith, nat_tests) in
    cond-false _ _ _ other ∙ (cond-false _ _ _ digit ∙ cond-true _ _ _ e)

number_within : (digits : List ℕ) → digits_value 10 digits ≤ greatest → number_of digits ≡ Some (pos (digits_value 10 digits))
number_within digits h = cond-true _ _ _ (le-leb (digits_value 10 digits) greatest h)

number_back : (bytes rest : List ℕ) (value : ℤ) → IsNumber value bytes rest → number_piece (bytes ++ rest) ≡ Lexeme (Number value)
    (length bytes)
number_back bytes rest value h =
    let front = front_bytes is_ascii_digit bytes rest h.digits h.longest in
    let len = front_len is_ascii_digit bytes rest h.digits h.longest in
    let number = ap number_of front ∙ number_within bytes h.most ∙ ap Some (sym h.value_is) in
    ap (λ o. number_or_fault o (prefix_len is_ascii_digit (bytes ++ rest))) number ∙ ap (λ n. Lexeme (Number value) n) len

number_spelled : (bytes rest : List ℕ) (value : ℤ) → IsNumber value bytes rest → piece_at (bytes ++ rest) ≡ Lexeme (Number value)
    (length bytes)
number_spelled [] rest value h = absurd (omega (arith, h.some))
number_spelled (b ∷ bytes) rest value h =
    ap (λ o. piece_of o (b ∷ (bytes ++ rest))) (digit_opens b (and_parts _ _ h.digits).0) ∙ number_back (b ∷ bytes) rest value h

word_back : (bytes rest name : List ℕ) → IsWord name bytes rest → word_piece (bytes ++ rest) ≡ Lexeme (Word name) (length bytes)
word_back bytes rest name h =
    let front = front_bytes is_word_byte bytes rest h.word h.longest in
    let len = front_len is_word_byte bytes rest h.word h.longest in
    let short : prefix_len is_word_byte (bytes ++ rest) ≤ 31 = omega (arith, len, h.most) in
    let upper = ap (map to_ascii_uppercase) front ∙ sym h.upper in
    cond-true _ _ _ (le-leb (prefix_len is_word_byte (bytes ++ rest)) 31 short)
    ∙ ap (λ w. Lexeme (Word w) (prefix_len is_word_byte (bytes ++ rest))) upper ∙ ap (λ n. Lexeme (Word name) n) len

first_letter : (b : ℕ) (bytes : List ℕ) → list_any is_ascii_alphabetic (take 1 (b ∷ bytes)) ≡ true → is_ascii_alphabetic b ≡ true
first_letter b bytes h = ⊎_elim (λ e. e) (λ e. absurd (let f : false ≡ true = e in cc)) (or_cases _ _ h)

word_spelled : (bytes rest name : List ℕ) → IsWord name bytes rest → piece_at (bytes ++ rest) ≡ Lexeme (Word name) (length bytes)
word_spelled [] rest name h = absurd (let f : false ≡ true = h.letter in cc)
word_spelled (b ∷ bytes) rest name h =
    ap (λ o. piece_of o (b ∷ (bytes ++ rest))) (letter_opens b (first_letter b bytes h.letter)) ∙ word_back (b ∷ bytes) rest name h

-- a sign is one byte
sign_back : (kind : TokenKind) (c : ℕ) (bytes rest : List ℕ) → bytes ≡ c ∷ [] → opening_of c ≡ Sign kind
    → piece_at (bytes ++ rest) ≡ Lexeme kind (length bytes)
sign_back kind c bytes rest e o =
    subst (λ bs. piece_at (bs ++ rest) ≡ Lexeme kind (length bs)) (sym e) (ap (λ p. piece_of p (c ∷ rest)) o)

token_piece : (kind : TokenKind) (bytes rest : List ℕ) → Spells kind bytes rest → piece_at (bytes ++ rest) ≡ Lexeme kind (length bytes)
token_piece (Word name) bytes rest h = word_spelled bytes rest name h
token_piece (Number value) bytes rest h = number_spelled bytes rest value h
token_piece OpenParen bytes rest h = sign_back OpenParen 40 bytes rest h refl
token_piece CloseParen bytes rest h = sign_back CloseParen 41 bytes rest h refl
token_piece Comma bytes rest h = sign_back Comma 44 bytes rest h refl
token_piece Equals bytes rest h = sign_back Equals 61 bytes rest h refl
token_piece Plus bytes rest h = sign_back Plus 43 bytes rest h refl
token_piece Minus bytes rest h = sign_back Minus 45 bytes rest h refl
token_piece Star bytes rest h = sign_back Star 42 bytes rest h refl
token_piece LineEnd bytes rest h = sign_back LineEnd 10 bytes rest h refl

-- a fault at the front
no_digit : (b : ℕ) → is_ascii_alphanumeric b ≡ false → is_ascii_digit b ≡ false
no_digit b h = grind (arith, nat_tests)

no_letter : (b : ℕ) → is_ascii_alphanumeric b ≡ false → is_ascii_alphabetic b ≡ false
no_letter b h = grind (arith, nat_tests)

-- a byte that isn't listed is none that is
other_byte : (b c : ℕ) → is_listed b ≡ false → is_listed c ≡ true → (b == c) ≡ false
other_byte b c unlisted listed =
    false_from_ne_true (b == c) (λ e. let same = ap is_listed (eqb-true b c e) in let both : false ≡ true = sym unlisted ∙ same
    ∙ listed in cc)

skip : {A : Type 0} (t : Bool) (x y z : A) → t ≡ false → y ≡ z → cond t x y ≡ z
skip t x y z e f = cond-false t x y e ∙ f

no_sign : (b : ℕ) → is_listed b ≡ false → sign_byte b ≡ None
no_sign b h =
    skip _ _ _ _ (other_byte b 10 h refl) (skip _ _ _ _ (other_byte b 40 h refl) (skip _ _ _ _ (other_byte b 41 h refl)
    (skip _ _ _ _ (other_byte b 42 h refl) (skip _ _ _ _ (other_byte b 43 h refl) (skip _ _ _ _ (other_byte b 44 h refl)
    (skip _ _ _ _ (other_byte b 45 h refl) (skip _ _ _ _ (other_byte b 61 h refl) refl)))))))

no_blank : (b : ℕ) → is_listed b ≡ false → is_blank b ≡ false
no_blank b h = or_from _ _ (or_from _ _ (other_byte b 9 h refl) (other_byte b 13 h refl)) (other_byte b 32 h refl)

unlisted_opens : (b : ℕ) → is_listed b ≡ false → opening_of b ≡ Unlisted
unlisted_opens b h =
    let alphanumeric = (or_parts (is_ascii_alphanumeric b) _ h).0 in
    skip _ _ _ _ (no_blank b h) (skip _ _ _ _ (no_digit b alphanumeric) (skip _ _ _ _ (no_letter b alphanumeric)
    (skip _ _ _ _ (other_byte b 33 h refl) (ap sign_or_unlisted (no_sign b h)))))

fault_piece : (cause : SourceCause) (b : ℕ) (more : List ℕ) → ShowsFault cause b (b ∷ more) → piece_at (b ∷ more) ≡ Fault cause
fault_piece BadByte b more h = ap (λ o. piece_of o (b ∷ more)) (unlisted_opens b h)
fault_piece NumberTooLarge b more h =
    ap (λ o. piece_of o (b ∷ more)) (digit_opens b h.0)
    ∙ ap (λ o. number_or_fault o (prefix_len is_ascii_digit (b ∷ more)))
    (cond-false _ _ _ (lt-leb (digits_value 10 (take_while is_ascii_digit (b ∷ more))) greatest h.1))
fault_piece NameTooLong b more h =
    ap (λ o. piece_of o (b ∷ more)) (letter_opens b h.0) ∙ cond-false _ _ _ (lt-leb (prefix_len is_word_byte (b ∷ more)) 31 h.1)
fault_piece _ b more h = absurd h

-- the part of a text from a place to another one
length_slice : (text : List ℕ) (at to : ℕ) → to ≤ length text → length (slice_range text at to) ≡ to - at
length_slice text at to h = omega (arith, length-take (to - at) (drop at text), length-drop at text)

slice_parts : (text : List ℕ) (at to : ℕ) → at + (to - at) ≡ to → drop at text ≡ slice_range text at to ++ drop to text
slice_parts text at to e =
    sym (take-append-drop (to - at) (drop at text)) ∙ ap (λ rest. slice_range text at to ++ rest) (drop-drop (to - at) at text
    ∙ ap (λ n. drop n text) e)

-- bytes are the piece at a place
pub record IsPieceTo (text : List ℕ) (at to : ℕ) (make : ℕ → Piece) : Type 0 where
  pub span : at + (to - at) ≡ to
  pub piece : piece_at (drop at text) ≡ make (to - at)

piece_to : (text : List ℕ) (at to : ℕ) (make : ℕ → Piece) → to ≤ length text → 0 < length (slice_range text at to)
    → piece_at (slice_range text at to ++ drop to text) ≡ make (length (slice_range text at to)) → IsPieceTo text at to make
piece_to text at to make within some e =
    let len = length_slice text at to within in
    let span : at + (to - at) ≡ to = omega (arith, len, some) in
    record { span = span; piece = ap piece_at (slice_parts text at to span) ∙ e ∙ ap make len }

gap_some : {bytes rest : List ℕ} → IsGap bytes rest → 0 < length bytes
gap_some (blank b e) = omega arith
gap_some (comment bytes e f) = omega arith

one_some : (c : ℕ) (bytes : List ℕ) → bytes ≡ c ∷ [] → 0 < length bytes
one_some c bytes e = omega (arith, ap length e)

word_some : (bytes rest name : List ℕ) → IsWord name bytes rest → 0 < length bytes
word_some [] rest name h = absurd (let f : false ≡ true = h.letter in cc)
word_some (b ∷ bytes) rest name h = omega arith

token_some : (kind : TokenKind) (bytes rest : List ℕ) → Spells kind bytes rest → 0 < length bytes
token_some (Word name) bytes rest h = word_some bytes rest name h
token_some (Number value) bytes rest h = h.some
token_some OpenParen bytes rest h = one_some 40 bytes h
token_some CloseParen bytes rest h = one_some 41 bytes h
token_some Comma bytes rest h = one_some 44 bytes h
token_some Equals bytes rest h = one_some 61 bytes h
token_some Plus bytes rest h = one_some 43 bytes h
token_some Minus bytes rest h = one_some 45 bytes h
token_some Star bytes rest h = one_some 42 bytes h
token_some LineEnd bytes rest h = one_some 10 bytes h

pub gap_back : (text : List ℕ) (at to : ℕ) → IsGapAt text at to → IsPieceTo text at to (λ n. Gap n)
gap_back text at to g = piece_to text at to (λ n. Gap n) g.within (gap_some g.gap) (gap_piece g.gap)

pub token_back : (text : List ℕ) (at : ℕ) (t : Token) → IsTokenAt text at t → IsPieceTo text at t.end (λ n. Lexeme t.kind n)
token_back text at t h =
    piece_to text at t.end (λ n. Lexeme t.kind n) h.within (token_some t.kind (slice_range text at t.end) (drop t.end text) h.spells)
    (token_piece t.kind (slice_range text at t.end) (drop t.end text) h.spells)

same_token : (text : List ℕ) (at : ℕ) (t : Token) → IsTokenAt text at t → token_at text at t.kind (t.end - at) ≡ t
same_token text at t h =
    ap (λ (p : SourcePlace). let u : Token = record { kind = t.kind; at = p; start = at; end = at + (t.end - at) } in u) (sym h.place)
    ∙ ap (λ (n : ℕ). let u : Token = record { kind = t.kind; at = t.at; start = n; end = at + (t.end - at) } in u) (sym h.start)
    ∙ ap (λ (n : ℕ). let u : Token = record { kind = t.kind; at = t.at; start = t.start; end = n } in u) (token_back text at t h).span

-- a text's end
nothing_at_end : (text : List ℕ) → drop (length text) text ≡ []
nothing_at_end text = drop_all (length text) text (omega arith)

pieces_over : (text : List ℕ) (begun : Bool) → Pieces text (length text) begun (line_closed (length text) (place_of text) begun)
pieces_over text false = over (ap piece_at (nothing_at_end text))
pieces_over text true =
    subst (λ (p : SourcePlace). Pieces text (length text) true (token_of (length text) p LineEnd 0 ∷ []))
    (end_place text (length text) (nothing_at_end text))
    (line_over (ap piece_at (nothing_at_end text)))

pub pieces_from : {text : List ℕ} {at : ℕ} {begun : Bool} {ts : List Token} → TokensFrom text at begun ts → Pieces text at begun ts
pieces_from {text} (read.over {begun = begun}) = pieces_over text begun
pieces_from {text} {at} (read.gap {begun = begun} {ts = ts} to g h) =
    let back = gap_back text at to g in
    gap (to - at) back.piece (subst (λ n. Pieces text n begun ts) (sym back.span) (pieces_from h))
pieces_from {text} {at} (read.token {begun = begun} {ts = ts} t is h) =
    let back = token_back text at t is in
    let rest = subst (λ n. Pieces text n (opens_line t.kind) ts) (sym back.span) (pieces_from h) in
    let all : Pieces text at begun (token_at text at t.kind (t.end - at) ∷ ts) = token t.kind (t.end - at) back.piece rest in
    subst (λ (u : Token). Pieces text at begun (u ∷ ts)) (same_token text at t is) all

faulty : (text : List ℕ) (at : ℕ) (fault : SourceFault) → IsFaultAt text at fault → PiecesToFault text fault at
faulty text at fault h =
    here fault.cause (ap piece_at h.here ∙ fault_piece fault.cause h.byte h.more h.shows)
    (ap (λ (p : SourcePlace). let f : SourceFault = record { at = p; cause = fault.cause } in f) h.place)

pub pieces_to_fault : {text : List ℕ} {fault : SourceFault} {at : ℕ} → FaultFrom text fault at → PiecesToFault text fault at
pieces_to_fault {text} {fault} {at} (read.here h) = faulty text at fault h
pieces_to_fault {text} {fault} {at} (read.behind_gap to g h) =
    let back = gap_back text at to g in
    behind_gap (to - at) back.piece (subst (λ n. PiecesToFault text fault n) (sym back.span) (pieces_to_fault h))
pieces_to_fault {text} {fault} {at} (read.behind_token t is h) =
    let back = token_back text at t is in
    behind_token t.kind (t.end - at) back.piece (subst (λ n. PiecesToFault text fault n) (sym back.span) (pieces_to_fault h))
