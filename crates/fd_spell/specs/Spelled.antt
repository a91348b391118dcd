-- What a word spells.
use Rattle.std.specs.Prelude.{ℕ, ◌+◌, ◌-◌, ◌*◌, ◌==◌, ◌&&◌, Bool, false, not, List, [], ◌∷◌, Option, Some, None, if◌then◌else◌, fold}
use Rattle.std.specs.Prelude.{nat_le}
use Rattle.std.specs.List.{list_all}
use Rattle.std.specs.Char.{is_ascii_digit}

-- decimal digits without needless zeros
abbrev pub is_canonical : List ℕ → Bool
is_canonical [] = false
is_canonical (d ∷ []) = is_ascii_digit d
is_canonical (d ∷ e ∷ rest) = not (d == 48) && list_all is_ascii_digit (d ∷ e ∷ rest)

abbrev pub number_of : List ℕ → ℕ
number_of digits = fold (λ n c. n * 10 + (c - 48)) 0 digits

-- the number from `low` to `high` that a text writes
abbrev pub number_in : ℕ → ℕ → List ℕ → Option ℕ
number_in low high text =
    if is_canonical text && (nat_le low (number_of text) && nat_le (number_of text) high)
    then Some (number_of text) else None

-- the name of a file isn't empty and doesn't begin with a dash
abbrev pub is_name : List ℕ → Bool
is_name [] = false
is_name (c ∷ rest) = not (c == 45)
