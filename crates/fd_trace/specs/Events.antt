-- What happens on the way through a trace, and what it spends.
use Rattle.std.specs.Prelude.{◌≡◌, ℕ, ◌-◌, nat_eq, nat_lt, if◌then◌else◌, List, map, fold, Option, Some, None, Result, Ok, Err}
use Rattle.fd_words.specs.declared.source.SourcePlace.{SourcePlace}
use Rattle.fd_words.specs.declared.source.SourceFault.{SourceFault}
use Rattle.fd_words.specs.declared.source.SourceCause.TheVariants as cause
use Rattle.fd_words.specs.declared.source.SourceStop.{SourceStop}
use Rattle.fd_words.specs.declared.source.SourceStop.TheVariants.{Fault, Memory}
use Rattle.fd_trace.specs.declared.budget.Left.{Left}

-- a fault; a step or the turn of a DO begins; a FORALL is executed with so many iterations times references; elements are printed
pub data Event : Type 0 where
  Bad : SourceFault → Event
  Begins : SourcePlace → Event
  Works : SourcePlace → ℕ → Event
  Prints : SourcePlace → ℕ → Event

-- what may be spent: 20,000 steps and turns, 16,777,216 printed elements
abbrev pub whole : Left
whole = record { turns = 20000; elements = 16777216 }

-- what is left after an event, or its fault: TraceTooLong, LoopTooLarge, TextTooLong
abbrev pub after_event : Left → Event → Result Left SourceFault
after_event left (Bad f) = Err f
after_event left (Begins at) =
    if nat_eq left.turns 0 then Err (record { at = at; cause = cause.TraceTooLong })
    else Ok (record { turns = left.turns - 1; elements = left.elements })
after_event left (Works at n) = if nat_lt 16777216 n then Err (record { at = at; cause = cause.LoopTooLarge }) else Ok left
after_event left (Prints at n) =
    if nat_lt left.elements n then Err (record { at = at; cause = cause.TextTooLong })
    else Ok (record { turns = left.turns; elements = left.elements - n })

-- the first fault stays
abbrev pub further_event : Result Left SourceFault → Event → Result Left SourceFault
further_event (Ok left) e = after_event left e
further_event (Err f) e = Err f

abbrev pub along : Left → List Event → Result Left SourceFault
along left events = fold further_event (Ok left) events

abbrev pub bad : List SourceFault → List Event
bad faults = map Bad faults

-- from what was left the events lead to what is left, or to the fault
abbrev pub Goes : {X : Type 0} → Left → Left → Result X SourceStop → List Event → Type 0
Goes old new (Ok x) events = along old events ≡ Ok new
Goes old new (Err (Fault f)) events = along old events ≡ Err f
Goes old new (Err Memory) events = Unit {0}

abbrev pub fault_in : Result Left SourceFault → Option SourceFault
fault_in (Ok left) = None
fault_in (Err f) = Some f
