-- The way through the trace of a program, and the first fault on it.
use Rattle.std.specs.Prelude.{◌≡◌, ℕ, zero, suc, ◌-◌, ◌*◌, ℤ, List, [], ◌∷◌, ◌++◌, length, map, flat_map, if◌then◌else◌, Option, Some, None}
use Rattle.std.specs.Prelude.{Result, Ok, Err}
use Rattle.fd_words.specs.declared.source.SourcePlace.{SourcePlace}
use Rattle.fd_words.specs.declared.source.SourceFault.{SourceFault}
use Rattle.fd_words.specs.declared.source.SourceStop.{SourceStop}
use Rattle.fd_words.specs.declared.source.SourceStop.TheVariants.{Fault, Memory}
use Rattle.fd_program.specs.Loops.{range_of, count_between}
use Rattle.fd_program.specs.Scalars.{scalar_value, add_of}
use Rattle.fd_program.specs.Stores.{array_at}
use Rattle.fd_program.specs.Trace.{is_empty_range, site_at, inside_of, trace_of}
use Rattle.fd_program.specs.declared.array.OutputName.{OutputName}
use Rattle.fd_program.specs.declared.checked.Checked.{Checked}
use Rattle.fd_program.specs.declared.checked.CheckedStatement.{CheckedStatement}
use Rattle.fd_program.specs.declared.checked.CheckedStatement.TheVariants.{Distribute, Print, Do, Forall}
use Rattle.fd_program.specs.declared.reference.Reference.{Reference}
use Rattle.fd_program.specs.declared.site.Site.{Site}
use Rattle.fd_program.specs.declared.trace.Step.{Step}
use Rattle.fd_trace.specs.Events.{Event, Begins, Works, Prints, bad, along, whole, fault_in}
use Rattle.fd_trace.specs.Sizes.{scalar_faults, adds_faults}

-- the numbers of the subscripts of these references
abbrev pub adds_by : List ℤ → List Reference → List ℤ
adds_by variables references = map (λ (r : Reference). add_of variables r.subscript) references

abbrev pub extent_of : Checked → ℕ → ℕ
extent_of c array = (array_at c.arrays array).extent

-- the work of a FORALL behind its bounds: none where the range is empty
abbrev pub work_way : List ℤ → Site → ℤ → ℤ → List Event
work_way variables site low high =
    if is_empty_range low high then []
    else bad (adds_faults variables site.references) ++ Works site.at (count_between low high * length site.references) ∷ []

abbrev pub loop_way : List ℤ → Site → List Event
loop_way variables site =
    Begins site.at
    ∷ (bad (scalar_faults variables site.low)
    ++ (bad (scalar_faults variables site.high)
    ++ work_way variables site (scalar_value variables site.low) (scalar_value variables site.high)))

-- a turn of a DO, whose body's way `body` gives
abbrev pub turn_way : (List ℤ → ℕ → List Event) → List ℤ → SourcePlace → ℕ → ℤ → List Event
turn_way body variables at inside z = Begins at ∷ body (variables ++ z ∷ []) inside

abbrev pub turns_way : (List ℤ → ℕ → List Event) → List ℤ → SourcePlace → ℕ → ℤ → ℤ → List Event
turns_way body variables at inside low high = flat_map (turn_way body variables at inside) (range_of low high)

-- one statement; `body` gives the way through the first statements behind it
abbrev pub way_of_statement : Checked → (List ℤ → ℕ → List Event) → List ℤ → CheckedStatement → List Event
way_of_statement c body variables (Distribute at decomposition form) = Begins at ∷ []
way_of_statement c body variables (Print at array) = Begins at ∷ (Prints at (extent_of c array) ∷ [])
way_of_statement c body variables (Do at low high inside) =
    bad (scalar_faults variables low)
    ++ (bad (scalar_faults variables high)
    ++ turns_way body variables at inside (scalar_value variables low) (scalar_value variables high))
way_of_statement c body variables (Forall site) = loop_way variables (site_at c.sites site)

-- `count` statements, after `skip` others, which are the body of the DO before them
abbrev pub way_of : Checked → List ℤ → ℕ → ℕ → List CheckedStatement → List Event
way_of c variables skip count [] = []
way_of c variables (suc skip) count (s ∷ rest) = way_of c variables skip count rest
way_of c variables zero zero (s ∷ rest) = []
way_of c variables zero (suc count) (s ∷ rest) =
    way_of_statement c (λ inner inside. way_of c inner 0 inside rest) variables s
    ++ way_of c variables (inside_of s) (count - inside_of s) rest

-- an array that is written after the run is counted before the way begins
abbrev pub output_event : Checked → OutputName → Event
output_event c o = Prints o.at (extent_of c o.array)

abbrev pub way : Checked → List Event
way c = map (output_event c) c.outputs ++ way_of c [] 0 (length c.statements) c.statements

-- the first fault on the way through the trace
abbrev pub first_fault : Checked → Option SourceFault
first_fault c = fault_in (along whole (way c))

-- the trace, where there is no fault, else the first
abbrev pub IsUnrolled : Checked → Result (List Step) SourceStop → Type 0
IsUnrolled c (Ok steps) = (steps ≡ trace_of c) × (first_fault c ≡ None)
IsUnrolled c (Err (Fault f)) = first_fault c ≡ Some f
IsUnrolled c (Err Memory) = Unit {0}
