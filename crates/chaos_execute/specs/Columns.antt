-- What an expression is at each iteration of a block, as a list.
use Rattle.std.specs.Prelude.{ℕ, ℤ, pos, List, [], ◌∷◌, drop, slice_get, Option, Some, None}
use Rattle.fd_words.specs.Value.{wrapped}
use Rattle.fd_words.specs.declared.arith.Arith.{Arith}
use Rattle.fd_words.specs.Operators.{exactly}
use Rattle.fd_program.specs.Values.{value_of}
use Rattle.fd_program.specs.declared.body.CheckedExpr.{CheckedExpr}
use Rattle.chaos_move.specs.Moves.{number_at}
use Rattle.chaos_sched.specs.declared.local_ref.LocalRef.{LocalRef}
use Rattle.chaos_sched.specs.declared.local_ref.LocalRef.TheVariants.{Here, Ghost}
use Rattle.chaos_execute.specs.declared.seat.Seat.{Seat}
use Rattle.chaos_execute.specs.Seats.{read_here}

-- f at each of these iterations and the references from it on, where those from the first iteration on are `row`
abbrev pub over : {A : Type 0} → (ℤ → List LocalRef → A) → ℕ → List ℤ → List LocalRef → List A
over f width [] row = []
over f width (i ∷ iterations) row = f i row ∷ over f width iterations (drop width row)

abbrev pub value_at_iteration : List (List ℤ) → List (List ℤ) → List ℤ → List Seat → CheckedExpr → ℤ → List LocalRef → ℤ
value_at_iteration pieces ghosts terms seats e i row = value_of (read_here pieces ghosts seats row) terms i e

-- the values of an expression over a block
abbrev pub column_of : List (List ℤ) → List (List ℤ) → List ℤ → List Seat → ℕ → List ℤ → List LocalRef → CheckedExpr → List ℤ
column_of pieces ghosts terms seats width iterations row e = over (value_at_iteration pieces ghosts terms seats e) width iterations row

-- what the reference with a number reads over a block
abbrev pub read_column : List (List ℤ) → List (List ℤ) → List Seat → ℕ → List ℤ → List LocalRef → ℕ → List ℤ
read_column pieces ghosts seats width iterations row number = over (λ i r. read_here pieces ghosts seats r number) width iterations row

-- the values of two columns side by side; behind the end of the second the first stays
abbrev pub paired : Arith → List ℤ → List ℤ → List ℤ
paired op [] right = []
paired op (a ∷ left) [] = a ∷ left
paired op (a ∷ left) (b ∷ right) = wrapped (exactly op a b) ∷ paired op left right

-- the value at a place of an array, in the node's part or in its ghosts; 0 where there is none
abbrev pub value_in : List ℤ → List ℤ → Option LocalRef → ℤ
value_in part ghosts None = pos 0
value_in part ghosts (Some (Here local)) = number_at part local
value_in part ghosts (Some (Ghost slot)) = number_at ghosts slot

-- what a reference at this place among those of an iteration reads over a block
abbrev pub seated_column : List ℤ → List ℤ → ℕ → ℕ → List ℤ → List LocalRef → List ℤ
seated_column part ghosts at width iterations row = over (λ i r. value_in part ghosts (slice_get r at)) width iterations row
