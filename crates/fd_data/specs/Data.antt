-- The numbers of a data file, or its first fault.
use Rattle.std.specs.Prelude.{ℕ, ℤ, pos, neg_ℤ, ◌+◌, ◌-◌, ◌*◌, ◌^◌, ◌==◌, ◌||◌, Bool, true, false, List, [], ◌∷◌, length, Option, Some}
use Rattle.std.specs.Prelude.{None, Result, Ok, Err, if◌then◌else◌, fold, nat_le, reverse}
use Rattle.std.specs.List.{list_all}
use Rattle.std.specs.Char.{is_ascii_digit}
use Rattle.fd_data.specs.CsvRows.{records_of}
use Rattle.fd_data.specs.declared.read.DataFault.{DataFault}
use Rattle.fd_data.specs.declared.read.DataFault.TheVariants as fault
use Rattle.fd_data.specs.declared.field.Spelled.{Spelled}
use Rattle.fd_data.specs.declared.field.Spelled.TheVariants as spelled_as

abbrev pub is_blank : ℕ → Bool
is_blank c = (c == 9) || (c == 32)

abbrev pub without_first_blanks : List ℕ → List ℕ
without_first_blanks [] = []
without_first_blanks (c ∷ rest) = if is_blank c then without_first_blanks rest else c ∷ rest

abbrev pub without_last_blanks : List ℕ → List ℕ
without_last_blanks field = reverse (without_first_blanks (reverse field))

-- a field without the blanks at its ends
abbrev pub core_of : List ℕ → List ℕ
core_of field = without_last_blanks (without_first_blanks field)

-- one or more digits
abbrev pub all_digits : List ℕ → Bool
all_digits text = if length text == 0 then false else list_all is_ascii_digit text

abbrev pub digits_value : List ℕ → ℕ
digits_value digits = fold (λ n c. n * 10 + (c - 48)) 0 digits

-- a signed number of 64 bits
abbrev pub in_range : Bool → ℕ → Spelled
in_range minus n =
    if minus then (if nat_le n (2 ^ 63) then spelled_as.Value (neg_ℤ (pos n)) else spelled_as.OutOfRange)
    else (if nat_le n (2 ^ 63 - 1) then spelled_as.Value (pos n) else spelled_as.OutOfRange)

abbrev pub value_in : Bool → List ℕ → Spelled
value_in minus digits = if all_digits digits then in_range minus (digits_value digits) else spelled_as.NoNumber

-- an optional sign and digits
abbrev pub signed_in : List ℕ → Spelled
signed_in [] = spelled_as.NoNumber
signed_in (c ∷ rest) = if c == 43 then value_in false rest else (if c == 45 then value_in true rest else value_in false (c ∷ rest))

abbrev pub spelled : List ℕ → Spelled
spelled field = signed_in (core_of field)

abbrev pub number_or : ℕ → Spelled → Result ℤ DataFault
number_or row (spelled_as.Value v) = Ok v
number_or row spelled_as.NoNumber = Err (fault.Number row)
number_or row spelled_as.OutOfRange = Err (fault.Range row)

abbrev pub number_of_only : ℕ → Option (List ℕ) → Result ℤ DataFault
number_of_only row None = Err (fault.Field row)
number_of_only row (Some field) = number_or row (spelled field)

-- the first fault, or a number and those after it
abbrev pub before_rest : Result ℤ DataFault → Result (List ℤ) DataFault → Result (List ℤ) DataFault
before_rest (Ok v) (Ok vs) = Ok (v ∷ vs)
before_rest (Ok v) (Err e) = Err e
before_rest (Err e) rest = Err e

-- the field of a record that has one
abbrev pub only_of : List (List ℕ) → Option (List ℕ)
only_of [] = None
only_of (field ∷ []) = Some field
only_of (field ∷ more ∷ fields) = None

-- what one record gives
abbrev pub number_in : ℕ → List (List ℕ) → Result ℤ DataFault
number_in row fields = number_of_only row (only_of fields)

-- the numbers of records, the first of which has the number `row`, or the first fault
abbrev pub numbers_from : ℕ → List (List (List ℕ)) → Result (List ℤ) DataFault
numbers_from row [] = Ok []
numbers_from row (fields ∷ rest) = before_rest (number_in row fields) (numbers_from (row + 1) rest)

-- so many numbers as there are elements
abbrev pub counted : ℕ → Result (List ℤ) DataFault → Result (List ℤ) DataFault
counted extent (Ok values) = if length values == extent then Ok values else Err (fault.Count (length values) extent)
counted extent (Err e) = Err e

-- what a file gives to an array of this extent
abbrev pub data_of : List ℕ → ℕ → Result (List ℤ) DataFault
data_of text extent = counted extent (numbers_from 1 (records_of text))
