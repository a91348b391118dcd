-- What the piece at the front is, in the words of the definition.
use Rattle.std.proofs.Common.{◌≡◌, ◌==◌, ℕ, suc, ◌+◌, Bool, true, false, List, [], ◌∷◌, length, take, drop, Option, Some, None, pos, nat_le}
use Rattle.std.proofs.Common.{sym, ap, ◌∙◌, subst, refl, arith}
use Rattle.std.specs.List.{prefix_len, take_while, list_all}
use Rattle.std.specs.Char.{is_ascii_digit, is_ascii_alphabetic, is_ascii_alphanumeric}
use Rattle.std.specs.Str.Parse.{digits_value}
use Rattle.std.proofs.lemmas.Bool.{cond_both, and_from, or_parts, or_from, eqb-true, leb-true, leb-false}
use Rattle.std.proofs.lemmas.Bool.Decides.{nat_tests}
use Rattle.std.proofs.lemmas.List.{length-take-le}
use Rattle.std.proofs.lemmas.List.Sums.{take_while-cons, prefix_len-le-length}
use Rattle.fd_lexer.specs.declared.token.TokenKind.{TokenKind}
use Rattle.fd_lexer.specs.declared.piece.Opening.{Opening}
use Rattle.fd_lexer.specs.declared.piece.Piece.{Piece}
use Rattle.fd_lexer.specs.declared.piece.Piece.TheVariants.{Nothing, Gap, Lexeme, Fault}
use Rattle.fd_lexer.specs.Bytes.{is_blank, is_inside_line, is_word_byte, greatest}
use Rattle.fd_lexer.specs.Piece.{sign_byte, sign_or_unlisted, opening_of, number_or_fault, number_piece, word_piece, piece_of, piece_at}
use Rattle.fd_lexer.specs.Tokens.{Ends, Spells, IsGap, blank, comment, ShowsFault}
use Rattle.fd_lexer.proofs.Pieces.{letter_in_word}

-- the rest behind the longest front
front_ends : (p : ℕ → Bool) (xs : List ℕ) → Ends p (drop (prefix_len p xs) xs)
front_ends p [] = tt
front_ends p (x ∷ xs) =
    cond_both (p x) (1 + prefix_len p xs) 0 (λ n. Ends p (drop n (x ∷ xs)))
    (λ _. let one : 1 + prefix_len p xs ≡ suc (prefix_len p xs) = omega arith in subst (λ n. Ends p (drop n (x ∷ xs))) (sym one)
    (front_ends p xs))
    (λ e. e)

front_passes : (p : ℕ → Bool) (xs : List ℕ) → list_all p (take_while p xs) ≡ true
front_passes p [] = refl
front_passes p (x ∷ xs) =
    subst (λ ys. list_all p ys ≡ true) (sym (take_while-cons p x xs))
    (cond_both (p x) (x ∷ take_while p xs) [] (λ ys. list_all p ys ≡ true) (λ e. and_from _ _ e (front_passes p xs)) (λ _. refl))

length_front : (p : ℕ → Bool) (xs : List ℕ) → length (take_while p xs) ≡ prefix_len p xs
length_front p xs = length-take-le (prefix_len p xs) xs (prefix_len-le-length p xs)

-- the longest front of a text whose first byte passes
front_first : (p : ℕ → Bool) (b : ℕ) (more : List ℕ) → p b ≡ true → take_while p (b ∷ more) ≡ b ∷ take_while p more
front_first p b more e = rw take_while-cons (rw e refl)

abbrev pub IsSpelled : Piece → ℕ → List ℕ → Type 0
IsSpelled Nothing byte text = Unit {0}
IsSpelled (Gap len) byte text = IsGap (take len text) (drop len text)
IsSpelled (Lexeme kind len) byte text = Spells kind (take len text) (drop len text)
IsSpelled (Fault cause) byte text = ShowsFault cause byte text

number_spelled : (b : ℕ) (more : List ℕ) → is_ascii_digit b ≡ true → IsSpelled (number_piece (b ∷ more)) b (b ∷ more)
number_spelled b more digit =
    let text : List ℕ = b ∷ more in
    let value = digits_value 10 (take_while is_ascii_digit text) in
    cond_both (nat_le value greatest) (Some (pos value)) None (λ o. IsSpelled (number_or_fault o (prefix_len is_ascii_digit text)) b text)
    (λ small. record {
      some = rw (front_first is_ascii_digit b more digit) (omega arith);
      digits = front_passes is_ascii_digit text;
      value_is = refl;
      most = leb-true value greatest small;
      longest = front_ends is_ascii_digit text;
    })
    (λ large. (digit, leb-false value greatest large))

word_spelled : (b : ℕ) (more : List ℕ) → is_ascii_alphabetic b ≡ true → IsSpelled (word_piece (b ∷ more)) b (b ∷ more)
word_spelled b more letter =
    let text : List ℕ = b ∷ more in
    let len = prefix_len is_word_byte text in
    cond_both (nat_le len 31) _ _ (λ piece. IsSpelled piece b text)
    (λ short. record {
      letter = rw (front_first is_word_byte b more (letter_in_word b letter)) (rw letter refl);
      word = front_passes is_word_byte text;
      upper = refl;
      most = omega (arith, length_front is_word_byte text, leb-true len 31 short);
      longest = front_ends is_word_byte text;
    })
    (λ long. (letter, leb-false len 31 long))

comment_spelled : (b : ℕ) (more : List ℕ) → (b == 33) ≡ true → is_inside_line b ≡ true
    → IsSpelled (Gap (prefix_len is_inside_line (b ∷ more))) b (b ∷ more)
comment_spelled b more e inside =
    let front = front_first is_inside_line b more inside ∙ ap (λ c. c ∷ take_while is_inside_line more) (eqb-true b 33 e) in
    subst (λ bytes. IsGap bytes (drop (prefix_len is_inside_line (b ∷ more)) (b ∷ more))) (sym front)
    (comment (take_while is_inside_line more) (front_passes is_inside_line more) (front_ends is_inside_line (b ∷ more)))

not_alphanumeric : (b : ℕ) → is_ascii_digit b ≡ false → is_ascii_alphabetic b ≡ false → is_ascii_alphanumeric b ≡ false
not_alphanumeric b d l = grind (arith, nat_tests)

module _ (b : ℕ) (more : List ℕ) where
  abbrev Opened : Opening → Type 0
  Opened opening = IsSpelled (piece_of opening (b ∷ more)) b (b ∷ more)

  abbrev OpenedSign : Option TokenKind → Type 0
  OpenedSign sign = Opened (sign_or_unlisted sign)

  one : (c : ℕ) → (b == c) ≡ true → b ∷ [] ≡ c ∷ []
  one c e = ap (λ x. x ∷ []) (eqb-true b c e)

  sign_spelled : is_blank b ≡ false → is_ascii_digit b ≡ false → is_ascii_alphabetic b ≡ false → (b == 33) ≡ false
      → OpenedSign (sign_byte b)
  sign_spelled e9 digit letter e33 =
      let blanks = or_parts _ _ e9 in
      let tabs = or_parts _ _ blanks.0 in
      cond_both (b == 10) _ _ OpenedSign (one 10) (λ e1.
      cond_both (b == 40) _ _ OpenedSign (one 40) (λ e2.
      cond_both (b == 41) _ _ OpenedSign (one 41) (λ e3.
      cond_both (b == 42) _ _ OpenedSign (one 42) (λ e4.
      cond_both (b == 43) _ _ OpenedSign (one 43) (λ e5.
      cond_both (b == 44) _ _ OpenedSign (one 44) (λ e6.
      cond_both (b == 45) _ _ OpenedSign (one 45) (λ e7.
      cond_both (b == 61) _ _ OpenedSign (one 61) (λ e8.
      or_from _ _ (not_alphanumeric b digit letter)
      (or_from _ _ tabs.0 (or_from _ _ e1 (or_from _ _ tabs.1 (or_from _ _ blanks.1 (or_from _ _ e33
      (or_from _ _ e2 (or_from _ _ e3
      (or_from _ _ e4 (or_from _ _ e5 (or_from _ _ e6 (or_from _ _ e7 (or_from _ _ e8 refl))))))))))))))))))))

  opening_spelled : Opened (opening_of b)
  opening_spelled =
      cond_both (is_blank b) _ _ Opened (λ e. blank b e) (λ e1.
      cond_both (is_ascii_digit b) _ _ Opened (number_spelled b more) (λ e2.
      cond_both (is_ascii_alphabetic b) _ _ Opened (word_spelled b more) (λ e3.
      cond_both (b == 33) _ _ Opened (λ e. comment_spelled b more e (subst (λ c. is_inside_line c ≡ true) (sym (eqb-true b 33 e)) refl))
      (λ e4. sign_spelled e1 e2 e3 e4))))

pub piece_spelled : (b : ℕ) (more : List ℕ) → IsSpelled (piece_at (b ∷ more)) b (b ∷ more)
piece_spelled b more = opening_spelled b more
