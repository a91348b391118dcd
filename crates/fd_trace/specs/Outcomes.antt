-- A value, or the first fault on the way to it.
use Rattle.std.specs.Prelude.{◌≡◌, ℤ, neg_ℤ, List, [], ◌∷◌, Some, Result, Ok, Err}
use Rattle.fd_words.specs.Value.{wrapped}
use Rattle.fd_words.specs.declared.source.SourcePlace.{SourcePlace}
use Rattle.fd_words.specs.declared.source.SourceFault.{SourceFault}
use Rattle.fd_words.specs.declared.source.SourceStop.{SourceStop}
use Rattle.fd_words.specs.declared.source.SourceStop.TheVariants.{Fault, Memory}
use Rattle.fd_words.specs.declared.arith.Arith.{Arith}
use Rattle.fd_program.specs.Loops.{first_of}
use Rattle.fd_program.specs.Scalars.{scalar_value}
use Rattle.fd_words.specs.Operators.{exactly, sign_of}
use Rattle.fd_program.specs.declared.scalar.CheckedTerm.{CheckedTerm}
use Rattle.fd_trace.specs.Sizes.{large, scalar_faults}

-- the value, where there is no fault; else the first
abbrev pub outcome : {X : Type 0} → X → List SourceFault → Result X SourceStop
outcome value [] = Ok value
outcome value (f ∷ fs) = Err (Fault f)

-- the same, or no memory
abbrev pub IsOutcome : {X : Type 0} → X → List SourceFault → Result X SourceStop → Type 0
IsOutcome value faults (Ok v) = (v ≡ value) × (faults ≡ [])
IsOutcome value faults (Err (Fault f)) = first_of faults ≡ Some f
IsOutcome value faults (Err Memory) = Unit {0}

-- ---- from the outcomes of the parts

abbrev pub opposed : Result ℤ SourceStop → Result ℤ SourceStop
opposed (Ok a) = Ok (wrapped (neg_ℤ a))
opposed (Err f) = Err f

abbrev pub joined_scalars : Arith → SourcePlace → Result ℤ SourceStop → Result ℤ SourceStop → Result ℤ SourceStop
joined_scalars op at (Ok a) (Ok b) = outcome (exactly op a b) (large at (exactly op a b))
joined_scalars op at (Ok a) (Err f) = Err f
joined_scalars op at (Err f) r = Err f

abbrev pub term_joined : List ℤ → Result ℤ SourceStop → CheckedTerm → Result ℤ SourceStop
term_joined variables total t =
    joined_scalars (sign_of t.minus) t.at total (outcome (scalar_value variables t.scalar) (scalar_faults variables t.scalar))
