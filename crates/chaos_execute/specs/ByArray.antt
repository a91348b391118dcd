-- The values of a block joined array by array: those of an array in the order of iterations and statements.
use Rattle.std.specs.Prelude.{◌≡◌, ℕ, ◌+◌, nat_lt, ◌==◌, ℤ, pos, if◌then◌else◌, List, [], ◌∷◌, ◌++◌, length, drop, fold, slice_get}
use Rattle.std.specs.Prelude.{Option, Some, None}
use Rattle.std.specs.Prelude.{option_to_list}
use Rattle.fd_words.specs.Lists.{list_at}
use Rattle.fd_words.specs.declared.combine.Combine.{Combine}
use Rattle.fd_program.specs.Loops.{target_of}
use Rattle.fd_program.specs.declared.body.CheckedBody.{CheckedBody}
use Rattle.chaos_move.specs.Moves.{value_at}
use Rattle.chaos_sched.specs.declared.local_ref.LocalRef.{LocalRef}
use Rattle.chaos_sched.specs.declared.local_ref.LocalRef.TheVariants.{Here, Ghost}
use Rattle.chaos_execute.specs.declared.joining.Joining.{Joining}
use Rattle.chaos_execute.specs.declared.seat.Seat.{Seat}
use Rattle.chaos_execute.specs.declared.targets.Target.{Target}
use Rattle.chaos_execute.specs.Pending.{joined_at}
use Rattle.chaos_execute.specs.Seats.{seat_at}

-- the rows of an array: those of the node's own places, and those of its ghosts
abbrev pub Both : Type 0
Both = List (ℤ × ℤ) × List (ℤ × ℤ)

-- one more value for a place of an array with so many own places and ghosts; outside of them nothing is joined
abbrev pub placed : Option Combine → ℕ → ℕ → ℤ → Option LocalRef → Both → Both
placed operator own slots value None both = both
placed operator own slots value (Some (Here local)) both =
    if nat_lt local own then (joined_at operator both.0 (pos local) value, both.1) else both
placed operator own slots value (Some (Ghost slot)) both =
    if nat_lt slot slots then (both.0, joined_at operator both.1 (pos slot) value) else both

-- ---- the targets in an array

abbrev pub target_in : ℕ → ℕ → Option Seat → Option Target
target_in array column None = None
target_in array column (Some seat) = if seat.array == array then Some record { at = seat.at; column = column } else None

-- their places among the references of an iteration, and the columns of their statements, from a column on
abbrev pub targets_from : List Seat → ℕ → ℕ → List CheckedBody → List Target
targets_from seats array column [] = []
targets_from seats array column (s ∷ body) =
    option_to_list (target_in array column (seat_at seats (target_of s))) ++ targets_from seats array (column + 1) body

-- ---- their values

-- the value at a place of the columns, joined to its target
abbrev pub target_joined : Option Combine → ℕ → ℕ → List (List ℤ) → ℕ → List LocalRef → Both → Target → Both
target_joined operator own slots columns at row both target =
    placed operator own slots (value_at columns target.column at) (slice_get row target.at) both

-- those at the places of these iterations, from a place on
abbrev pub array_block : Option Combine → ℕ → ℕ → List (List ℤ) → ℕ → List Target → ℕ → List ℤ → List LocalRef → Both → Both
array_block operator own slots columns width targets at [] row both = both
array_block operator own slots columns width targets at (i ∷ iterations) row both =
    array_block operator own slots columns width targets (at + 1) iterations (drop width row)
    (fold (target_joined operator own slots columns at row) both targets)

-- ---- all arrays

abbrev pub rows_both : Joining → ℕ → Both
rows_both j array = (list_at j.here array, list_at j.ghosts array)

-- both kinds of rows stand for the same arrays
pub record HasArrays (arrays : ℕ) (j : Joining) : Type 0 where
  pub here : length j.here ≡ arrays
  pub ghosts : length j.ghosts ≡ arrays
