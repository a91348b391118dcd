-- The lines for data files that are faulty or can't be read.
use Rattle.std.specs.Prelude.{ℕ, List, [], ◌∷◌, ◌++◌, codes, decimal}
use Rattle.fd_data.specs.declared.read.DataFault.{DataFault}
use Rattle.fd_data.specs.declared.read.DataFault.TheVariants as fault

unfoldable pub record_text : ℕ → List ℕ → List ℕ
record_text row what = codes "record " ++ (decimal row ++ (codes ": " ++ what))

unfoldable pub have_text : ℕ → ℕ → List ℕ
have_text have want = codes "have " ++ (decimal have ++ (codes ", want " ++ decimal want))

unfoldable pub fault_text : DataFault → List ℕ
fault_text (fault.Field row) = record_text row (codes "not one field")
fault_text (fault.Number row) = record_text row (codes "not a number")
fault_text (fault.Range row) = record_text row (codes "out of range")
fault_text (fault.Count have want) = have_text have want
fault_text fault.TooLong = codes "longer than 33554432 bytes"
fault_text fault.Memory = codes "out of memory"

-- `data NAME: F`
abbrev pub data_line : List ℕ → DataFault → List ℕ
data_line name fault = codes "data " ++ (name ++ (codes ": " ++ (fault_text fault ++ 10 ∷ [])))

-- `data NAME: record ROW: WHAT`
abbrev pub record_line : List ℕ → ℕ → List ℕ → List ℕ
record_line name row what = codes "data " ++ (name ++ (codes ": " ++ (record_text row what ++ 10 ∷ [])))

unfoldable pub unread_line : List ℕ → List ℕ
unread_line name = codes "cannot read " ++ (name ++ 10 ∷ [])
