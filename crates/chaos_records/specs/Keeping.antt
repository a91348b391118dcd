-- The numbers that are kept for records, and what they are after the steps of a run. `past` has the steps, the latest first.
use Rattle.std.specs.Prelude.{◌≡◌, ℕ, ◌+◌, ℤ, pos, ◌+ℤ◌, Bool, true, false, not, ◌&&◌, ◌==◌, if◌then◌else◌, List, [], ◌∷◌, length, map}
use Rattle.std.specs.Prelude.{filter, fold, replicate, slice_get, slice_set, unwrap_or, Option, Some, None}
use Rattle.std.specs.Option.{option_map_or}
use Rattle.std.specs.Ordering.{int_eq}
use Rattle.chaos_dist.specs.Counting.{below}
use Rattle.chaos_dist.specs.declared.shape.Shape.TheVariants.{Block}
use Rattle.chaos_dist.specs.declared.step_form.StepForm.{StepForm}
use Rattle.chaos_dist.specs.declared.step_form.StepForm.TheVariants.{Regular, Map}
use Rattle.fd_program.specs.Past.{form_set, is_same_shape, is_same_record, change_at, version_at, decompositions_of, index_arrays_of}
use Rattle.fd_program.specs.Places.{decomposition_of}
use Rattle.fd_program.specs.Stores.{number_at}
use Rattle.fd_program.specs.Trace.{site_at}
use Rattle.fd_words.specs.Roles.{is_index}
use Rattle.fd_program.specs.declared.array.ArrayFacts.{ArrayFacts}
use Rattle.fd_program.specs.declared.checked.Checked.{Checked}
use Rattle.fd_program.specs.declared.loop_record.LoopRecord.{LoopRecord}
use Rattle.fd_program.specs.declared.reference.Reference.{Reference}
use Rattle.fd_program.specs.declared.trace.LoopTurn.{LoopTurn}
use Rattle.fd_program.specs.declared.trace.Step.{Step}
use Rattle.chaos_records.specs.declared.records.Records.{Records}
use Rattle.chaos_records.specs.declared.setting.Setting.{Setting}

-- ---- the numbers, and how a note changes them

-- BLOCK from the start, never moved
abbrev pub first_setting : Setting
first_setting = record { form = Regular Block; change = pos 0; version = pos 0 }

abbrev pub no_records : ℕ → ℕ → Records
no_records arrays layouts = record { changes = replicate arrays (pos 0); settings = replicate layouts first_setting }

abbrev pub setting_in : Records → ℕ → Setting
setting_in r d = unwrap_or (slice_get r.settings d) first_setting

-- the change number of a form's array, 0 without one
abbrev pub change_by : Records → StepForm → ℤ
change_by r (Regular shape) = pos 0
change_by r (Map array) = number_at r.changes array

-- a form is the one before, and if it is by a map, its array has the change number of then
abbrev pub is_form_again : StepForm → ℤ → StepForm → ℤ → Bool
is_form_again (Regular old) before (Regular new) now = is_same_shape old new
is_form_again (Regular old) before (Map new) now = false
is_form_again (Map old) before (Regular new) now = false
is_form_again (Map old) before (Map new) now = (old == new) && int_eq before now

abbrev pub is_as : Setting → StepForm → ℤ → Bool
is_as s form change = is_form_again s.form s.change form change

abbrev pub is_repeated : Records → ℕ → StepForm → Bool
is_repeated r d form = is_as (setting_in r d) form (change_by r form)

-- an array is changed by the execution with this number
abbrev pub written_at : ℕ → Records → ℕ → Records
written_at execution r array = record { changes = slice_set r.changes array (pos (execution + 1)); settings = r.settings }

-- a decomposition is given a form
abbrev pub set_to : Records → ℕ → StepForm → Setting
set_to r d form = record { form = form; change = change_by r form; version = (setting_in r d).version +ℤ pos 1 }

abbrev pub moved : Records → ℕ → StepForm → Records
moved r d form =
    if is_repeated r d form then r else (record { changes = r.changes; settings = slice_set r.settings d (set_to r d form) })

-- the record of a FORALL's execution
abbrev pub record_in : Records → Checked → ℕ → LoopTurn → LoopRecord
record_in r c site turn = record {
  low = turn.low;
  high = turn.high;
  adds = turn.adds;
  versions = map (λ d. (setting_in r d).version) (decompositions_of c (site_at c.sites site));
  changes = map (number_at r.changes) (index_arrays_of c (site_at c.sites site));
}

-- ---- the numbers that a FORALL's references name

-- the decompositions of the arrays, and the index arrays
abbrev pub named_decomposition : List ArrayFacts → Reference → Option ℕ
named_decomposition arrays r = Some (decomposition_of arrays r.array)

abbrev pub named_index : Reference → Option ℕ
named_index r = if is_index r.role then Some r.array else None

abbrev pub mark : List Bool → Option ℕ → List Bool
mark marks name = option_map_or (λ k. slice_set marks k true) name marks

abbrev pub marked : (Reference → Option ℕ) → List Bool → List Reference → List Bool
marked name marks references = fold (λ marks r. mark marks (name r)) marks references

abbrev pub is_marked : List Bool → ℕ → Bool
is_marked marks k = unwrap_or (slice_get marks k) false

-- the numbers below n that are marked, ascending
abbrev pub marked_below : List Bool → ℕ → List ℕ
marked_below marks n = filter (is_marked marks) (below n)

abbrev pub given_if : Bool → ℤ → List ℤ
given_if is value = if is then value ∷ [] else []

-- ---- comparing

-- nothing is kept, or another record
abbrev pub differs : LoopRecord → Option LoopRecord → Bool
differs now kept = option_map_or (λ before. not (is_same_record before now)) kept true

-- ---- what they are after the steps of a run

-- for a form by a map the change number that the array had as it was set, else 0
abbrev pub change_set : Checked → StepForm × List Step → ℕ
change_set c (Regular shape, before) = 0
change_set c (Map array, before) = change_at c before array

abbrev pub setting_of : Checked → StepForm × List Step → ℕ → Setting
setting_of c (form, before) version = record { form = form; change = pos (change_set c (form, before)); version = pos version }

abbrev pub setting_at : Checked → List Step → ℕ → Setting
setting_at c past d = setting_of c (form_set past d) (version_at c past d)

-- each array's change number, and each decomposition's form, its array's change number as it was set, and its version
pub record Keeps (c : Checked) (past : List Step) (r : Records) : Type 0 where
  pub changes : r.changes ≡ map (λ array. pos (change_at c past array)) (below (length c.arrays))
  pub settings : r.settings ≡ map (setting_at c past) (below (length c.layouts))
