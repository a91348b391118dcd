-- One number more of rows, on a line or not.
use Rattle.std.proofs.Common.{◌≡◌, ◌≢◌, ℕ, ◌+◌, ◌%◌, ◌<◌, ℤ, pos, Bool, true, false, cond, List, [], ◌∷◌, ◌++◌, length, take, get_or, ap}
use Rattle.std.proofs.Common.{sym, ◌∙◌, arith}
use Rattle.std.specs.Prelude.{◌==◌}
use Rattle.std.specs.List.{flat_map}
use Rattle.std.proofs.lemmas.Bool.{eq-eqb}
use Rattle.std.proofs.lemmas.Bool.Decides.{nat_tests}
use Rattle.std.proofs.lemmas.List.{append_assoc, append-nil}
use Rattle.std.proofs.lemmas.List.Concat.{flat_map-append}
use Rattle.bisect_node.specs.Indexed.{filter_from, filter_from-at}
use Rattle.bisect_node.specs.Printing.{lines_of, number_line}

abbrev odd : ℕ → Bool
odd k = k % 2 == 1

lines-at : (rows : List ℤ) (k : ℕ) (b : Bool) → k < length rows → odd k ≡ b
    → lines_of (take (k + 1) rows) ≡ lines_of (take k rows) ++ flat_map number_line (cond b (get_or rows k (pos 0) ∷ []) [])
lines-at rows k b less e =
    ap (flat_map number_line) (filter_from-at odd rows k (pos 0) less)
    ∙ flat_map-append number_line (filter_from odd 0 (take k rows)) (cond (odd k) (get_or rows k (pos 0) ∷ []) [])
    ∙ ap (λ (c : Bool). lines_of (take k rows) ++ flat_map number_line (cond c (get_or rows k (pos 0) ∷ []) [])) e

pub line_more : (base text new : List ℕ) (rows : List ℤ) (k : ℕ) → k < length rows → text ≡ base ++ lines_of (take k rows) → k % 2 ≡ 1
    → new ≡ text ++ number_line (get_or rows k (pos 0)) → new ≡ base ++ lines_of (take (k + 1) rows)
line_more base text new rows k less before is more =
    let line = number_line (get_or rows k (pos 0)) in
    more
    ∙ ap (λ (l : List ℕ). l ++ line) before
    ∙ append_assoc base (lines_of (take k rows)) line
    ∙ ap (λ (l : List ℕ). base ++ (lines_of (take k rows) ++ l)) (sym (append-nil line))
    ∙ sym (ap (λ (l : List ℕ). base ++ l) (lines-at rows k true less (eq-eqb (k % 2) 1 is)))

other : (n : ℕ) → n ≢ 1 → (n == 1) ≡ false
other n h = grind (arith, nat_tests)

pub line_same : (base text new : List ℕ) (rows : List ℤ) (k : ℕ) → k < length rows → text ≡ base ++ lines_of (take k rows) → k % 2 ≢ 1
    → new ≡ text → new ≡ base ++ lines_of (take (k + 1) rows)
line_same base text new rows k less before is same =
    same
    ∙ before
    ∙ ap (λ (l : List ℕ). base ++ l) (sym (append-nil (lines_of (take k rows))) ∙ sym (lines-at rows k false less (other (k % 2) is)))
