-- What the steps before a step tell of it: the forms of the decompositions, changes, versions and records, and whether the step inspects.
-- `past` has the steps before it, the latest first: the number of the step is their count, and one step more stands in front.
-- No store is looked at, so all of it is known before the run.
use Rattle.std.specs.Prelude.{ℕ, ◌+◌, pos, Bool, true, false, not, ◌&&◌, ◌==◌, if◌then◌else◌, List, [], ◌∷◌, ◌++◌, length, map, filter}
use Rattle.std.specs.Prelude.{Option, Some, None}
use Rattle.std.specs.Cmp.Lexicographic.{pointwise}
use Rattle.std.specs.List.{list_any}
use Rattle.std.specs.Option.{option_map_or}
use Rattle.std.specs.Ordering.{int_eq}
use Rattle.chaos_dist.specs.Counting.{below}
use Rattle.chaos_dist.specs.declared.shape.Shape.{Shape}
use Rattle.chaos_dist.specs.declared.shape.Shape.TheVariants.{Block, Cyclic, BlockCyclic}
use Rattle.chaos_dist.specs.declared.step_form.StepForm.{StepForm}
use Rattle.chaos_dist.specs.declared.step_form.StepForm.TheVariants.{Regular, Map}
use Rattle.fd_program.specs.Places.{decomposition_of}
use Rattle.fd_program.specs.Trace.{site_at, is_empty_turn}
use Rattle.fd_words.specs.Roles.{is_index, is_target}
use Rattle.fd_program.specs.declared.checked.Checked.{Checked}
use Rattle.fd_program.specs.declared.loop_record.LoopRecord.{LoopRecord}
use Rattle.fd_program.specs.declared.reference.Reference.{Reference}
use Rattle.fd_program.specs.declared.site.Site.{Site}
use Rattle.fd_program.specs.declared.trace.LoopTurn.{LoopTurn}
use Rattle.fd_program.specs.declared.trace.Step.{Step}
use Rattle.fd_program.specs.declared.trace.Step.TheVariants.{Distribute, Print, Forall}

-- ---- forms

-- the form of a decomposition, and the steps before the one that gave it; BLOCK from the start
abbrev pub form_set : List Step → ℕ → StepForm × List Step
form_set [] d = (Regular Block, [])
form_set (Distribute decomposition form ∷ past) d = if decomposition == d then (form, past) else form_set past d
form_set (Print array ∷ past) d = form_set past d
form_set (Forall site turn ∷ past) d = form_set past d

abbrev pub form_at : List Step → ℕ → StepForm
form_at past d = (form_set past d).0

-- ---- changes

abbrev pub has_target : Site → ℕ → Bool
has_target site array = list_any (λ (r : Reference). is_target r.role && (r.array == array)) site.references

-- a FORALL whose range isn't empty changes its targets, whether values differ or not
abbrev pub is_changing : Checked → ℕ → LoopTurn → ℕ → Bool
is_changing c site turn array = not (is_empty_turn turn) && has_target (site_at c.sites site) array

-- 1 more than the number of the latest step that changed the array, else 0
abbrev pub change_at : Checked → List Step → ℕ → ℕ
change_at c [] array = 0
change_at c (Distribute decomposition form ∷ past) array = change_at c past array
change_at c (Print printed ∷ past) array = change_at c past array
change_at c (Forall site turn ∷ past) array = if is_changing c site turn array then length past + 1 else change_at c past array

-- ---- versions

abbrev pub is_same_shape : Shape → Shape → Bool
is_same_shape Block Block = true
is_same_shape Cyclic Cyclic = true
is_same_shape (BlockCyclic a) (BlockCyclic b) = a == b
is_same_shape _ _ = false

-- the form is the one that was set, and if it is by a map, that array hasn't changed since
abbrev pub is_set_again : Checked → List Step → StepForm × List Step → StepForm → Bool
is_set_again c past (Regular old, before) (Regular new) = is_same_shape old new
is_set_again c past (Regular old, before) (Map new) = false
is_set_again c past (Map old, before) (Regular new) = false
is_set_again c past (Map old, before) (Map new) = (old == new) && (change_at c past new == change_at c before new)

-- a DISTRIBUTE after these steps changes nothing
abbrev pub is_repeat : Checked → List Step → ℕ → StepForm → Bool
is_repeat c past d form = is_set_again c past (form_set past d) form

-- a step moves the decomposition
abbrev pub is_moving : Checked → List Step → Step → ℕ → Bool
is_moving c past (Distribute decomposition form) d = (decomposition == d) && not (is_repeat c past d form)
is_moving c past (Print array) d = false
is_moving c past (Forall site turn) d = false

-- how often the decomposition was moved
abbrev pub version_at : Checked → List Step → ℕ → ℕ
version_at c [] d = 0
version_at c (step ∷ past) d = version_at c past d + (if is_moving c past step d then 1 else 0)

-- ---- records

-- the decompositions of the references of a FORALL, and its index arrays, ascending
abbrev pub decompositions_of : Checked → Site → List ℕ
decompositions_of c site =
    filter (λ d. list_any (λ (r : Reference). decomposition_of c.arrays r.array == d) site.references) (below (length c.layouts))

abbrev pub index_arrays_of : Checked → Site → List ℕ
index_arrays_of c site =
    filter (λ array. list_any (λ (r : Reference). is_index r.role && (r.array == array)) site.references) (below (length c.arrays))

-- the record of a FORALL's execution after these steps
abbrev pub record_at : Checked → List Step → ℕ → LoopTurn → LoopRecord
record_at c past site turn = record {
  low = turn.low;
  high = turn.high;
  adds = turn.adds;
  versions = map (λ d. pos (version_at c past d)) (decompositions_of c (site_at c.sites site));
  changes = map (λ array. pos (change_at c past array)) (index_arrays_of c (site_at c.sites site));
}

abbrev pub is_same_record : LoopRecord → LoopRecord → Bool
is_same_record a b =
    int_eq a.low b.low && int_eq a.high b.high && pointwise int_eq a.adds b.adds
    && pointwise int_eq a.versions b.versions && pointwise int_eq a.changes b.changes

-- the latest execution of a FORALL with a range that isn't empty, and the steps before it
abbrev pub latest_of : List Step → ℕ → Option (LoopTurn × List Step)
latest_of [] k = None
latest_of (Distribute decomposition form ∷ past) k = latest_of past k
latest_of (Print array ∷ past) k = latest_of past k
latest_of (Forall site turn ∷ past) k = if (site == k) && not (is_empty_turn turn) then Some (turn, past) else latest_of past k

-- an execution of a FORALL inspects: its range isn't empty, and there was no such execution before, or the record of the latest is another
abbrev pub inspects_at : Checked → List Step → ℕ → LoopTurn → Bool
inspects_at c past site turn =
    not (is_empty_turn turn)
    && option_map_or (λ (latest, before). not (is_same_record (record_at c before site latest) (record_at c past site turn)))
    (latest_of past site) true

-- the steps that inspect, by number, in order
abbrev pub inspects_step : Checked → List Step → Step → Bool
inspects_step c past (Distribute decomposition form) = false
inspects_step c past (Print array) = false
inspects_step c past (Forall site turn) = inspects_at c past site turn

abbrev pub inspecting_of : Checked → List Step → List ℕ
inspecting_of c [] = []
inspecting_of c (step ∷ past) = inspecting_of c past ++ (if inspects_step c past step then length past ∷ [] else [])
