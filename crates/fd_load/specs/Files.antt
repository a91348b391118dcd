-- The data file of an array.
use Rattle.std.specs.Prelude.{ℕ, ℤ, List, ◌++◌, map, codes, Result}
use Rattle.std.specs.Str.{encode_utf8_all}
use Rattle.std.specs.Char.{to_ascii_lowercase}
use Rattle.fd_data.specs.declared.read.DataFault.{DataFault}
use Rattle.fd_edge.specs.Readings.{Told}
use Rattle.fd_edge.specs.Files.{Reads, HasDataFault}
use Rattle.fd_program.specs.declared.array.ArrayFacts.{ArrayFacts}

-- the name in lower case, each byte as a character, and `.csv`
abbrev pub file_name : List ℕ → List ℕ
file_name name = encode_utf8_all (map to_ascii_lowercase name) ++ codes ".csv"

abbrev pub file_of : ArrayFacts → List ℕ
file_of facts = file_name facts.name

-- the file of an array was read, and has bytes that come to this
abbrev pub ReadsArray : Told → ArrayFacts → Result (List ℤ) DataFault → Type 0
ReadsArray contents facts end = Reads contents (file_of facts) facts.extent end

-- the file of an array has this fault
abbrev pub HasArrayFault : Told → ArrayFacts → DataFault → Type 0
HasArrayFault contents facts fault = HasDataFault contents (file_of facts) facts.extent fault
