-- Faults, by place and by row of the table of faults.
use Rattle.std.specs.Prelude.{◌⊎◌, ◌≡◌, ℕ, Bool, true, false, nat_lt, nat_eq, ◌||◌, ◌&&◌, if◌then◌else◌, Option, Some, None, List, [], ◌∷◌}
use Rattle.std.specs.Prelude.{◌++◌}
use Rattle.fd_words.specs.declared.source.SourceCause.{SourceCause}
use Rattle.fd_words.specs.declared.source.SourceCause.TheVariants.{BadByte, NumberTooLarge, NameTooLong, NoEnd, Unexpected, TooDeep}
use Rattle.fd_words.specs.declared.source.SourceCause.TheVariants.{TooManyNames, Unknown, NotIndex, Twice, ScalarTooLarge, BadExtent}
use Rattle.fd_words.specs.declared.source.SourceCause.TheVariants.{AlignOutside, MapLength, AssignThroughIndex, TwoAssigns, AssignAndReduce}
use Rattle.fd_words.specs.declared.source.SourceCause.TheVariants.{TwoOperators, TooManyReferences, TooManyStamps, TooManyLoops}
use Rattle.fd_words.specs.declared.source.SourceCause.TheVariants.{TraceTooLong, LoopTooLarge, TextTooLong}
use Rattle.fd_words.specs.declared.source.SourceFault.{SourceFault}
use Rattle.fd_words.specs.declared.source.SourcePlace.{SourcePlace}

-- one fault where a test holds, else none
abbrev pub fault_if : Bool → SourcePlace → SourceCause → List SourceFault
fault_if true at cause = record { at = at; cause = cause } ∷ []
fault_if false at cause = []

-- the faults at each item in turn, seen from the state that the items before it leave
abbrev pub along : {S A : Type 0} → (S → A → S) → (S → A → List SourceFault) → S → List A → List SourceFault
along after faults s [] = []
along after faults s (x ∷ xs) = faults s x ++ along after faults (after s x) xs

-- ---- the first fault

-- the row of the table
abbrev pub row_of : SourceCause → ℕ
row_of BadByte = 0
row_of NumberTooLarge = 1
row_of NameTooLong = 2
row_of NoEnd = 3
row_of Unexpected = 4
row_of TooDeep = 5
row_of TooManyNames = 6
row_of (Unknown name) = 7
row_of (NotIndex name) = 8
row_of (Twice name) = 9
row_of ScalarTooLarge = 10
row_of BadExtent = 11
row_of AlignOutside = 12
row_of MapLength = 13
row_of AssignThroughIndex = 14
row_of (TwoAssigns name) = 15
row_of (AssignAndReduce name) = 16
row_of (TwoOperators name) = 17
row_of TooManyReferences = 18
row_of TooManyStamps = 19
row_of TooManyLoops = 20
row_of TraceTooLong = 21
row_of LoopTooLarge = 22
row_of TextTooLong = 23

-- by line, then by column, then by row
abbrev pub is_before_by : ℕ → ℕ → ℕ → ℕ → ℕ → ℕ → Bool
is_before_by line column row line' column' row' =
    nat_lt line line' || (nat_eq line line' && (nat_lt column column' || (nat_eq column column' && nat_lt row row')))

abbrev pub is_fault_before : SourceFault → SourceFault → Bool
is_fault_before f g = is_before_by f.at.line f.at.column (row_of f.cause) g.at.line g.at.column (row_of g.cause)

abbrev pub IsOneOf : SourceFault → List SourceFault → Type 0
IsOneOf f [] = ⊥
IsOneOf f (g ∷ gs) = (f ≡ g) ⊎ IsOneOf f gs

abbrev pub NoneBefore : SourceFault → List SourceFault → Type 0
NoneBefore f [] = Unit {0}
NoneBefore f (g ∷ gs) = (is_fault_before g f ≡ false) × NoneBefore f gs

-- a fault of the list, and none is before it
pub record IsLeast (f : SourceFault) (fs : List SourceFault) : Type 0 where
  pub among : IsOneOf f fs
  pub least : NoneBefore f fs

-- the first fault of a list, none where the list is empty
abbrev pub IsFirst : Option SourceFault → List SourceFault → Type 0
IsFirst None fs = fs ≡ []
IsFirst (Some f) fs = IsLeast f fs

-- ---- as one walk finds it

abbrev pub is_new_least : SourceFault → Option SourceFault → Bool
is_new_least g None = true
is_new_least g (Some f) = is_fault_before g f

-- the earlier of the two; the first where neither is before the other
abbrev pub lesser : Option SourceFault → SourceFault → Option SourceFault
lesser least g = if is_new_least g least then Some g else least
