-- The line of a refused source.
use Rattle.std.specs.Prelude.{ℕ, List, [], ◌∷◌, ◌++◌, codes, decimal}
use Rattle.fd_words.specs.declared.source.SourcePlace.{SourcePlace}
use Rattle.fd_words.specs.declared.source.SourceCause.{SourceCause}
use Rattle.fd_words.specs.declared.source.SourceCause.TheVariants as cause
use Rattle.fd_words.specs.declared.source.SourceFault.{SourceFault}

-- the fault's name
unfoldable pub cause_name : SourceCause → List ℕ
cause_name (cause.Unknown name) = codes "Unknown"
cause_name (cause.NotIndex name) = codes "NotIndex"
cause_name (cause.Twice name) = codes "Twice"
cause_name (cause.TwoAssigns name) = codes "TwoAssigns"
cause_name (cause.AssignAndReduce name) = codes "AssignAndReduce"
cause_name (cause.TwoOperators name) = codes "TwoOperators"
cause_name cause.BadByte = codes "BadByte"
cause_name cause.NumberTooLarge = codes "NumberTooLarge"
cause_name cause.NameTooLong = codes "NameTooLong"
cause_name cause.NoEnd = codes "NoEnd"
cause_name cause.Unexpected = codes "Unexpected"
cause_name cause.TooDeep = codes "TooDeep"
cause_name cause.TooManyNames = codes "TooManyNames"
cause_name cause.ScalarTooLarge = codes "ScalarTooLarge"
cause_name cause.BadExtent = codes "BadExtent"
cause_name cause.AlignOutside = codes "AlignOutside"
cause_name cause.MapLength = codes "MapLength"
cause_name cause.AssignThroughIndex = codes "AssignThroughIndex"
cause_name cause.TooManyReferences = codes "TooManyReferences"
cause_name cause.TooManyStamps = codes "TooManyStamps"
cause_name cause.TooManyLoops = codes "TooManyLoops"
cause_name cause.TraceTooLong = codes "TraceTooLong"
cause_name cause.LoopTooLarge = codes "LoopTooLarge"
cause_name cause.TextTooLong = codes "TextTooLong"

-- the name that the fault carries, behind a blank
abbrev pub carried : SourceCause → List ℕ
carried (cause.Unknown name) = 32 ∷ name
carried (cause.NotIndex name) = 32 ∷ name
carried (cause.Twice name) = 32 ∷ name
carried (cause.TwoAssigns name) = 32 ∷ name
carried (cause.AssignAndReduce name) = 32 ∷ name
carried (cause.TwoOperators name) = 32 ∷ name
carried _ = []

unfoldable pub place_text : SourcePlace → List ℕ
place_text at = codes "source: line " ++ (decimal at.line ++ (codes ", column " ++ decimal at.column))

-- `source: line L, column C: F`, with the name that the fault carries, if any
abbrev pub fault_line : SourceFault → List ℕ
fault_line fault = place_text fault.at ++ (codes ": " ++ (cause_name fault.cause ++ (carried fault.cause ++ 10 ∷ [])))
