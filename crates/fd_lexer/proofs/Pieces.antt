-- What a piece has at the front of a text: some bytes, within it, and in one line but for a line end.
use Rattle.std.proofs.Common.{◌≡◌, ◌==◌, ℕ, ◌<◌, ◌≤◌, Bool, true, false, List, [], ◌∷◌, length, take, Option, Some, None, ℤ, nat_le, sym}
use Rattle.std.proofs.Common.{subst, refl, arith, ⊎_elim}
use Rattle.std.specs.List.{prefix_len, take_while, list_all}
use Rattle.std.specs.Char.{is_ascii_digit, is_ascii_alphabetic}
use Rattle.std.proofs.lemmas.Bool.{cond_both, and_from, cases_Bool, eqb-true, not_from_false}
use Rattle.std.proofs.lemmas.Bool.Decides.{nat_tests}
use Rattle.std.proofs.lemmas.List.Sums.{take_while-cons, prefix_len-le-length}
use Rattle.fd_lexer.specs.declared.token.TokenKind.{TokenKind}
use Rattle.fd_lexer.specs.declared.piece.Opening.{Opening}
use Rattle.fd_lexer.specs.declared.piece.Piece.{Piece}
use Rattle.fd_lexer.specs.declared.piece.Piece.TheVariants.{Nothing, Gap, Lexeme, Fault}
use Rattle.fd_lexer.specs.Bytes.{is_blank, is_inside_line, is_word_byte}
use Rattle.fd_lexer.specs.Piece.{sign_byte, sign_or_unlisted, opening_of, number_or_fault, word_piece, piece_of, piece_at}
use Rattle.fd_lexer.specs.Tokens.{opens_line}

pub record StaysInLine (len : ℕ) (rest : List ℕ) : Type 0 where
  pub some : 0 < len
  pub within : len ≤ length rest
  pub inside : list_all is_inside_line (take len rest) ≡ true

abbrev pub PassesToken : Bool → ℕ → List ℕ → Type 0
PassesToken true len rest = StaysInLine len rest
PassesToken false len rest = (len ≡ 1) × (1 ≤ length rest) × (take 1 rest ≡ 10 ∷ [])

abbrev pub Passes : Piece → List ℕ → Type 0
Passes Nothing rest = rest ≡ []
Passes (Gap len) rest = StaysInLine len rest
Passes (Lexeme kind len) rest = PassesToken (opens_line kind) len rest
Passes (Fault cause) rest = Unit {0}

front_inside : (p : ℕ → Bool) → ((b : ℕ) → p b ≡ true → is_inside_line b ≡ true) → (xs : List ℕ)
    → list_all is_inside_line (take_while p xs) ≡ true
front_inside p inside [] = refl
front_inside p inside (x ∷ xs) =
    subst (λ ys. list_all is_inside_line ys ≡ true) (sym (take_while-cons p x xs))
    (cond_both (p x) (x ∷ take_while p xs) [] (λ ys. list_all is_inside_line ys ≡ true)
    (λ e. and_from _ _ (inside x e) (front_inside p inside xs)) (λ _. refl))

front_some : (p : ℕ → Bool) (b : ℕ) (more : List ℕ) → p b ≡ true → 0 < prefix_len p (b ∷ more)
front_some p b more e = rw e (omega arith)

front_stays : (p : ℕ → Bool) → ((b : ℕ) → p b ≡ true → is_inside_line b ≡ true) → (b : ℕ) (more : List ℕ) → p b ≡ true
    → StaysInLine (prefix_len p (b ∷ more)) (b ∷ more)
front_stays p inside b more e = record {
  some = front_some p b more e;
  within = prefix_len-le-length p (b ∷ more);
  inside = front_inside p inside (b ∷ more);
}

digit_inside : (b : ℕ) → is_ascii_digit b ≡ true → is_inside_line b ≡ true
digit_inside b h = grind (arith, nat_tests)

word_inside : (b : ℕ) → is_word_byte b ≡ true → is_inside_line b ≡ true
word_inside b h = grind (arith, nat_tests)

pub letter_in_word : (b : ℕ) → is_ascii_alphabetic b ≡ true → is_word_byte b ≡ true
letter_in_word b h = grind (arith, nat_tests)

one_stays : (b : ℕ) (more : List ℕ) → is_inside_line b ≡ true → StaysInLine 1 (b ∷ more)
one_stays b more e = record { some = omega arith; within = omega arith; inside = and_from _ _ e refl }

number_passes : (o : Option ℤ) (len : ℕ) (rest : List ℕ) → StaysInLine len rest → Passes (number_or_fault o len) rest
number_passes (Some value) len rest s = s
number_passes None len rest s = tt

word_passes : (rest : List ℕ) → StaysInLine (prefix_len is_word_byte rest) rest → Passes (word_piece rest) rest
word_passes rest s = cond_both (nat_le (prefix_len is_word_byte rest) 31) _ _ (λ piece. Passes piece rest) (λ _. s) (λ _. tt)

module _ (b : ℕ) (more : List ℕ) (inside : is_inside_line b ≡ true) where
  abbrev Opens : Opening → Type 0
  Opens opening = Passes (piece_of opening (b ∷ more)) (b ∷ more)

  abbrev OpensSign : Option TokenKind → Type 0
  OpensSign sign = Opens (sign_or_unlisted sign)

  sign_passes : (b == 10) ≡ false → OpensSign (sign_byte b)
  sign_passes other =
      let one = one_stays b more inside in
      cond_both (b == 10) _ _ OpensSign (λ e. cc) (λ _.
      cond_both (b == 40) _ _ OpensSign (λ _. one) (λ _.
      cond_both (b == 41) _ _ OpensSign (λ _. one) (λ _.
      cond_both (b == 42) _ _ OpensSign (λ _. one) (λ _.
      cond_both (b == 43) _ _ OpensSign (λ _. one) (λ _.
      cond_both (b == 44) _ _ OpensSign (λ _. one) (λ _.
      cond_both (b == 45) _ _ OpensSign (λ _. one) (λ _.
      cond_both (b == 61) _ _ OpensSign (λ _. one) (λ _. tt))))))))

  inner_passes : (b == 10) ≡ false → Opens (opening_of b)
  inner_passes other =
      cond_both (is_blank b) _ _ Opens (λ _. one_stays b more inside) (λ _.
      cond_both (is_ascii_digit b) _ _ Opens (λ e. number_passes _ _ (b ∷ more) (front_stays is_ascii_digit digit_inside b more e)) (λ _.
      cond_both (is_ascii_alphabetic b) _ _ Opens
      (λ e. word_passes (b ∷ more) (front_stays is_word_byte word_inside b more (letter_in_word b e))) (λ _.
      cond_both (b == 33) _ _ Opens (λ _. front_stays is_inside_line (λ _ e. e) b more inside) (λ _. sign_passes other))))

pub piece_at-passes : (rest : List ℕ) → Passes (piece_at rest) rest
piece_at-passes [] = refl
piece_at-passes (b ∷ more) =
    ⊎_elim
    (λ is. subst (λ c. Passes (piece_at (c ∷ more)) (c ∷ more)) (sym (eqb-true b 10 is)) (refl, omega arith, refl))
    (λ other. inner_passes b more (not_from_false (b == 10) other) other)
    (cases_Bool (b == 10))
