-- The number that digits write grows with each digit.
use Rattle.std.proofs.Common.{◌≡◌, ℕ, ◌+◌, ◌*◌, ◌-◌, ◌<◌, ◌≤◌, Bool, true, List, [], ◌∷◌, ◌++◌, length, take, drop, get_or, Option, Some}
use Rattle.std.proofs.Common.{None, pos, nat_le, if◌then◌else◌, ℤ, sym, ap, ◌∙◌, refl, arith}
use Rattle.std.proofs.lemmas.Bool.Decides.{nat_tests}
use Rattle.std.specs.List.{prefix_len}
use Rattle.std.proofs.lemmas.List.{take-append-drop, length-take, get_or-take}
use Rattle.std.proofs.lemmas.List.Sums.{prefix_len_passes}
use Rattle.std.proofs.lemmas.Int.Digits.{digits_value_more}
use Rattle.std.specs.Char.{digit_value, is_ascii_digit}
use Rattle.std.specs.Str.Parse.{digits_value, digits_value_after}
use Rattle.fd_lexer.specs.Bytes.{greatest}
use Rattle.fd_lexer.specs.Piece.{number_of}

value_after_append : (n : ℕ) (xs ys : List ℕ) → digits_value_after 10 n (xs ++ ys) ≡ digits_value_after 10 (digits_value_after 10 n xs) ys
value_after_append n [] ys = refl
value_after_append n (c ∷ cs) ys = value_after_append (n * 10 + digit_value c) cs ys

value_after-ge : (n : ℕ) (ys : List ℕ) → n ≤ digits_value_after 10 n ys
value_after-ge n [] = omega arith
value_after-ge n (c ∷ cs) = let more = value_after-ge (n * 10 + digit_value c) cs in omega (arith, more)

value-take-le : (ds : List ℕ) (i : ℕ) → digits_value 10 (take i ds) ≤ digits_value 10 ds
value-take-le ds i =
    let whole = ap (digits_value 10) (sym (take-append-drop i ds)) ∙ value_after_append 0 (take i ds) (drop i ds) in
    let more = value_after-ge (digits_value 10 (take i ds)) (drop i ds) in
    omega (arith, whole, more)

none_over : (v : ℕ) → greatest < v → let r : Option ℤ = if nat_le v greatest then Some (pos v) else None in r ≡ None
none_over v h = grind (arith, nat_tests)

pub number_of-over : (ds : List ℕ) (i : ℕ) → i < length ds → greatest < digits_value 10 (take i ds) * 10 + digit_value (get_or ds i 0)
    → number_of ds ≡ None
number_of-over ds i within over =
    none_over (digits_value 10 ds) (omega (arith, digits_value_more 10 ds i within, value-take-le ds (i + 1), over))

pub digit_value-is : (c : ℕ) → is_ascii_digit c ≡ true → digit_value c ≡ c - 48
digit_value-is c h = grind (arith, nat_tests)

pub value_more : (ds : List ℕ) (i : ℕ) → i < length ds → digits_value 10 (take (i + 1) ds) ≡ digits_value 10 (take i ds) * 10
    + digit_value (get_or ds i 0)
value_more ds i within = digits_value_more 10 ds i within

-- each byte of the longest front of digits is a digit
pub front_passes : (p : ℕ → Bool) (text : List ℕ) (k : ℕ) → k < length (take (prefix_len p text) text)
    → p (get_or (take (prefix_len p text) text) k 0) ≡ true
front_passes p text k h =
    let within : k < prefix_len p text = omega (arith, length-take (prefix_len p text) text, h) in
    ap p (get_or-take (prefix_len p text) text k 0 within) ∙ prefix_len_passes p text k 0 within
