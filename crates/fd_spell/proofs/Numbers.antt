-- Numbers in a range, by std's `parse`.
use Rattle.std.proofs.Common.{◌≡◌, ◌∙◌, ◌⊎◌, inl, inr, ◌<◌, ◌≤◌, ◌+◌, ◌-◌, ◌*◌, ◌^◌, ◌&&◌, ◌==◌, not, refl, ap, sym, rules, arith}
use Rattle.std.proofs.Common.{ℕ, Bool, true, false, List, [], ◌∷◌, length, Some, None, fold}
use Rattle.std.specs.List.{list_all}
use Rattle.std.specs.Char.{is_ascii_digit}
use Rattle.std.specs.Prelude.{Ok, Err, nat_le}
use Rattle.std.specs.Str.Parse.{ParsesUnsigned}
use Rattle.std.proofs.lemmas.Bool.{le-leb, lt-leb, cases_lt, and_parts}
use Rattle.std.proofs.lemmas.Str.Parse.{IsNumeralModel, numerals_by_fold, parse_digits}
use Rattle.fd_spell.specs.Spelled.{is_canonical, number_in, number_of}

own : IsNumeralModel (λ ds. list_all is_ascii_digit ds ≡ true) (fold (λ n c. n * 10 + (c - 48)) 0)
own = numerals_by_fold _ (search rules) (fold (λ n c. n * 10 + (c - 48))) (search rules)

canonical_digits : (t : List ℕ) → is_canonical t ≡ true → list_all is_ascii_digit t ≡ true
canonical_digits [] can = cc
canonical_digits (d ∷ []) can = rw can refl
canonical_digits (d ∷ e ∷ rest) can = (and_parts (not (d == 48)) (list_all is_ascii_digit (d ∷ e ∷ rest)) can).1

canonical_some : (t : List ℕ) → is_canonical t ≡ true → 0 < length t
canonical_some [] can = cc
canonical_some (d ∷ rest) can = omega arith

still : (b : Bool) → b && false ≡ false
still true = refl
still false = refl

within : (low high : ℕ) (t : List ℕ) → is_canonical t ≡ true → low ≤ number_of t → number_of t ≤ high
    → number_in low high t ≡ Some (number_of t)
within low high t can a b = rw (can, le-leb low (number_of t) a, le-leb (number_of t) high b) refl

pub below : (low high : ℕ) (t : List ℕ) → is_canonical t ≡ true → number_of t < low → number_in low high t ≡ None
below low high t can a = rw (can, lt-leb low (number_of t) a) refl

pub above : (low high : ℕ) (t : List ℕ) → is_canonical t ≡ true → high < number_of t → number_in low high t ≡ None
above low high t can b = rw (can, lt-leb (number_of t) high b, still (nat_le low (number_of t))) refl

pub parsed_is : (t : List ℕ) (n : ℕ) → is_canonical t ≡ true → ParsesUnsigned {E = ℕ} 32 10 t (Ok n) → n ≡ number_of t
parsed_is t n can h = (parse_digits own {E = ℕ} 32 t (Ok n) h (canonical_digits t can)).1

pub parsed_within : (low high : ℕ) (t : List ℕ) (n : ℕ) → is_canonical t ≡ true → ParsesUnsigned {E = ℕ} 32 10 t (Ok n)
    → low ≤ n → n ≤ high → Some n ≡ number_in low high t
parsed_within low high t n can h a b =
    let e : n ≡ number_of t = parsed_is t n can h in
    ap (λ (x : ℕ). Some x) e ∙ sym (within low high t can (omega (arith, e)) (omega (arith, e)))

pub too_great : (low high : ℕ) (t : List ℕ) → is_canonical t ≡ true → high < 2 ^ 32 → ParsesUnsigned {E = ℕ} 32 10 t (Err 0)
    → number_in low high t ≡ None
too_great low high t can fit h = by (cases_lt (number_of t) (2 ^ 32))
  where
    by : (number_of t < 2 ^ 32) ⊎ (2 ^ 32 ≤ number_of t) → number_in low high t ≡ None
    by (inl a) = absurd (parse_digits own {E = ℕ} 32 t (Err 0) h (canonical_digits t can) (canonical_some t can, a))
    by (inr b) = above low high t can (omega arith)
