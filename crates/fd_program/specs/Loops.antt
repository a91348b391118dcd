-- What one execution of a FORALL does: its offence, if it has one, and else the store after it.
use Rattle.std.specs.Prelude.{ℕ, zero, suc, ℤ, pos, ◌+ℤ◌, ◌-ℤ◌, not, ◌&&◌, if◌then◌else◌, List, [], ◌∷◌, map, fold, flat_map, filter_map}
use Rattle.std.specs.Prelude.{slice_set, Option, Some, None}
use Rattle.fd_words.specs.Combining.{combined}
use Rattle.fd_words.specs.Lists.{list_at}
use Rattle.fd_words.specs.declared.combine.Combine.{Combine}
use Rattle.fd_words.specs.declared.place.Offence.{Offence}
use Rattle.chaos_dist.specs.Homes.{natural}
use Rattle.fd_program.specs.Stores.{is_within, element, place_of}
use Rattle.fd_program.specs.Uses.{uses_of, use_at}
use Rattle.fd_program.specs.Values.{value_of, read_in}
use Rattle.fd_program.specs.declared.array.ArrayFacts.{ArrayFacts}
use Rattle.fd_program.specs.declared.body.CheckedBody.{CheckedBody}
use Rattle.fd_program.specs.declared.body.CheckedBody.TheVariants.{Assign, Reduce}
use Rattle.fd_program.specs.declared.body.CheckedExpr.{CheckedExpr}
use Rattle.fd_program.specs.declared.loop_use.Use.{Use}
use Rattle.fd_program.specs.declared.site.Site.{Site}
use Rattle.fd_program.specs.declared.trace.LoopTurn.{LoopTurn}

-- ---- ranges

-- so many numbers, from z on
abbrev pub counted_from : ℤ → ℕ → List ℤ
counted_from z zero = []
counted_from z (suc n) = z ∷ counted_from (z +ℤ pos 1) n

-- how many numbers low to high are
abbrev pub count_between : ℤ → ℤ → ℕ
count_between low high = natural (high -ℤ low +ℤ pos 1)

-- the numbers low to high, none where high is below low
abbrev pub range_of : ℤ → ℤ → List ℤ
range_of low high = counted_from low (count_between low high)

abbrev pub iterations_of : LoopTurn → List ℤ
iterations_of turn = range_of turn.low turn.high

-- ---- offences

-- a reference whose subscript has a value is an offence where its array has no such element
abbrev pub offence_at : List ArrayFacts → Use → Option Offence
offence_at arrays u =
    if u.defined && not (is_within arrays u.array u.subscript)
    then Some (record { iteration = u.iteration; reference = u.number; subscript = u.subscript }) else None

-- those of some iterations, ascending by iteration and reference
abbrev pub offences_in : List ArrayFacts → Site → LoopTurn → List (List ℤ) → List ℤ → List Offence
offences_in arrays site turn store iterations = filter_map (offence_at arrays) (flat_map (uses_of arrays site turn store) iterations)

abbrev pub first_of : {A : Type 0} → List A → Option A
first_of [] = None
first_of (x ∷ xs) = Some x

-- the offence of the least iteration, and there of the least reference
abbrev pub offence_of : List ArrayFacts → Site → LoopTurn → List (List ℤ) → Option Offence
offence_of arrays site turn store = first_of (offences_in arrays site turn store (iterations_of turn))

-- ---- what is written

-- a value for an element: in place of the old one, or combined with it where there is an operator
pub record Write : Type 0 where
  pub array : ℕ
  pub subscript : ℤ
  pub operator : Option Combine
  pub value : ℤ

abbrev pub target_of : CheckedBody → ℕ
target_of (Assign target value) = target
target_of (Reduce operator target value) = target

abbrev pub operator_of : CheckedBody → Option Combine
operator_of (Assign target value) = None
operator_of (Reduce operator target value) = Some operator

abbrev pub expr_of : CheckedBody → CheckedExpr
expr_of (Assign target value) = value
expr_of (Reduce operator target value) = value

-- what a statement writes to its target, where its expression has this value
abbrev pub write_by : Use → Option Combine → ℤ → Write
write_by target operator value = record { array = target.array; subscript = target.subscript; operator = operator; value = value }

-- what a statement writes at iteration i; its references are `uses`
abbrev pub write_of : List ℤ → List (List ℤ) → ℤ → List Use → CheckedBody → Write
write_of terms store i uses s =
    write_by (use_at uses (target_of s)) (operator_of s) (value_of (read_in store uses) terms i (expr_of s))

abbrev pub writes_at : List ArrayFacts → Site → LoopTurn → List (List ℤ) → ℤ → List Write
writes_at arrays site turn store i = map (write_of turn.terms store i (uses_of arrays site turn store i)) site.body

-- the writes of some iterations, ascending by iteration and statement; every value is read in the store before the loop
abbrev pub writes_in : List ArrayFacts → Site → LoopTurn → List (List ℤ) → List ℤ → List Write
writes_in arrays site turn store iterations = flat_map (writes_at arrays site turn store) iterations

abbrev pub writes_of : List ArrayFacts → Site → LoopTurn → List (List ℤ) → List Write
writes_of arrays site turn store = writes_in arrays site turn store (iterations_of turn)

-- ---- the meaning of the loop

-- a value that is put in place of the old one, or combined with it
abbrev pub changed : Option Combine → ℤ → ℤ → ℤ
changed None old value = value
changed (Some operator) old value = combined operator old value

abbrev pub written : List (List ℤ) → Write → List (List ℤ)
written store w =
    slice_set store w.array (slice_set (list_at store w.array) (place_of w.subscript)
    (changed w.operator (element store w.array w.subscript) w.value))

-- the store after the loop, where it has no offence: all writes, one after another
abbrev pub after_loop : List ArrayFacts → Site → LoopTurn → List (List ℤ) → List (List ℤ)
after_loop arrays site turn store = fold written store (writes_of arrays site turn store)
