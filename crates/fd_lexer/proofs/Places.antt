-- Lines and columns along a text.
use Rattle.std.proofs.Common.{◌≡◌, ℕ, ◌+◌, ◌-◌, ◌≤◌, Bool, true, false, cond, List, [], ◌∷◌, ◌++◌, length, take, drop, sym, ap, ◌∙◌, refl}
use Rattle.std.proofs.Common.{arith, append-nil, append_assoc, length-drop}
use Rattle.std.specs.List.{prefix_len, suffix_len, after_last, list_all}
use Rattle.std.proofs.lemmas.Bool.{and_parts, cond-true, cond-false, not-true}
use Rattle.std.proofs.lemmas.List.{reverse-append, take-append-drop, take-take, drop-take, length-take-le}
use Rattle.std.proofs.lemmas.List.Sums.{sum_by_push, count_by-le-length, suffix_len-le-length}
use Rattle.fd_words.specs.declared.source.SourcePlace.{SourcePlace}
use Rattle.fd_lexer.specs.Bytes.{is_line_end, is_inside_line}
use Rattle.fd_lexer.specs.Place.{place_of, passed}
use Rattle.fd_lexer.proofs.Pieces.{PassesToken}

length-after_last : (xs : List ℕ) → length (after_last is_line_end xs) ≡ suffix_len is_inside_line xs
length-after_last xs = omega (arith, length-drop (length xs - suffix_len is_inside_line xs) xs, suffix_len-le-length is_inside_line xs)

suffix_push : (before : List ℕ) (b : ℕ) → suffix_len is_inside_line (before ++ b ∷ []) ≡ cond (is_inside_line b)
    (1 + suffix_len is_inside_line before) 0
suffix_push before b = ap (prefix_len is_inside_line) (reverse-append before (b ∷ []))

same_place : (l m c d : ℕ) → l ≡ m → c ≡ d → let p : SourcePlace = record { line = l; column = c } in p ≡ record { line = m; column = d }
same_place l m c d e f = cc

no_line_end : (b : ℕ) → is_inside_line b ≡ true → let n : ℕ = cond (is_line_end b) 1 0 in n ≡ 0
no_line_end b e = cond-false _ _ _ (not-true _ e)

place_push : (before : List ℕ) (b : ℕ) → is_inside_line b ≡ true → place_of (before ++ b ∷ []) ≡ passed true (place_of before) 1
place_push before b e =
    let lines = sum_by_push (λ x. cond (is_line_end x) 1 0) before b in
    let columns = length-after_last (before ++ b ∷ []) ∙ suffix_push before b ∙ cond-true _ _ _ e in
    same_place _ _ _ _ (omega (arith, lines, no_line_end b e)) (omega (arith, columns, length-after_last before))

place_line_end : (before : List ℕ) → place_of (before ++ 10 ∷ []) ≡ passed false (place_of before) 1
place_line_end before =
    let lines = sum_by_push (λ x. cond (is_line_end x) 1 0) before 10 in
    let columns = length-after_last (before ++ 10 ∷ []) ∙ suffix_push before 10 in
    same_place _ _ _ _ (omega (arith, lines)) (omega (arith, columns))

pub place_of-le : (xs : List ℕ) → ((place_of xs).line ≤ 1 + length xs) × ((place_of xs).column ≤ 1 + length xs)
place_of-le xs = (
  omega (arith, count_by-le-length is_line_end xs),
  omega (arith, length-after_last xs, suffix_len-le-length is_inside_line xs),
)

pub place_stays : (before xs : List ℕ) → list_all is_inside_line xs ≡ true → place_of (before ++ xs) ≡ passed true (place_of before)
    (length xs)
place_stays before [] e = ap place_of (append-nil before) ∙ same_place _ _ _ _ refl (omega arith)
place_stays before (x ∷ xs) e =
    let parts = and_parts _ _ e in
    let here = place_push before x parts.0 in
    let more = place_stays (before ++ x ∷ []) xs parts.1 in
    let regrouped = append_assoc before (x ∷ []) xs in
    sym (ap place_of regrouped) ∙ more ∙ ap (λ (p : SourcePlace). passed true p (length xs)) here ∙ same_place _ _ _ _ refl (omega arith)

take_more_bytes : (text : List ℕ) (at n : ℕ) → take (at + n) text ≡ take at text ++ take n (drop at text)
take_more_bytes text at n =
    let le : at ≤ at + n = omega arith in
    let parts = take-append-drop at (take (at + n) text) in
    let front = take-take at (at + n) text le in
    let back = drop-take at n text in
    cc

-- the place behind a token or a gap
pub next_place : (text : List ℕ) (at n : ℕ) (begun : Bool) → PassesToken begun n (drop at text) → place_of (take (at + n) text)
    ≡ passed begun (place_of (take at text)) n
next_place text at n true s =
    ap place_of (take_more_bytes text at n) ∙ place_stays (take at text) (take n (drop at text)) s.inside
    ∙ ap (passed true (place_of (take at text))) (length-take-le n (drop at text) s.within)
next_place text at n false s =
    let one = take_more_bytes text at n ∙ ap (λ m. take at text ++ take m (drop at text)) s.0 ∙ ap (λ ys. take at text ++ ys) s.2 in
    ap place_of one ∙ place_line_end (take at text)
