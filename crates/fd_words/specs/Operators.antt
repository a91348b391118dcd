-- Operators of scalars and expressions.
use Rattle.std.specs.Prelude.{ℤ, ◌+ℤ◌, ◌-ℤ◌, ◌*ℤ◌, Bool, true, false}
use Rattle.fd_words.specs.declared.arith.Arith.{Arith}
use Rattle.fd_words.specs.declared.arith.Arith.TheVariants.{Plus, Minus, Times}

-- the exact sum, difference or product
abbrev pub exactly : Arith → ℤ → ℤ → ℤ
exactly Plus a b = a +ℤ b
exactly Minus a b = a -ℤ b
exactly Times a b = a *ℤ b

-- the operator before a term
abbrev pub sign_of : Bool → Arith
sign_of true = Minus
sign_of false = Plus
