-- How values are combined.
use Rattle.std.specs.Prelude.{◌≡◌, ℤ, pos, negsuc, ◌+ℤ◌, FitsSigned}
use Rattle.std.specs.Int.{w64, int_min, int_max}
use Rattle.fd_words.specs.Value.{wrapped}
use Rattle.fd_words.specs.declared.combine.Combine.{Combine}
use Rattle.fd_words.specs.declared.combine.Combine.TheVariants.{Add, Min, Max}

-- two values combined
abbrev pub combined : Combine → ℤ → ℤ → ℤ
combined Add a b = wrapped (a +ℤ b)
combined Min a b = int_min a b
combined Max a b = int_max a b

-- the value that changes no other
abbrev pub unit_of : Combine → ℤ
unit_of Add = pos 0
unit_of Min = pos 9223372036854775807
unit_of Max = negsuc 9223372036854775807

abbrev pub IsCommutative : (ℤ → ℤ → ℤ) → Type 0
IsCommutative op = (a b : ℤ) → op a b ≡ op b a

abbrev pub IsAssociative : (ℤ → ℤ → ℤ) → Type 0
IsAssociative op = (a b c : ℤ) → op (op a b) c ≡ op a (op b c)

-- the unit changes no signed 64-bit number
abbrev pub HasUnit : (ℤ → ℤ → ℤ) → ℤ → Type 0
HasUnit op unit = (a : ℤ) → FitsSigned w64 a → op unit a ≡ a
