-- How many phases each step of a run has, told from what is kept of the steps before it.
use Rattle.std.specs.Prelude.{ℕ, ◌+◌, pos, Bool, true, false, not, ◌&&◌, ◌||◌, ◌==◌, nat_lt, int_lt, if◌then◌else◌, List, [], ◌∷◌, length}
use Rattle.std.specs.Prelude.{fold, replicate, slice_get, slice_set, unwrap_or, Option, Some, None}
use Rattle.std.specs.List.{list_any}
use Rattle.fd_words.specs.declared.place.Role.{Role}
use Rattle.chaos_dist.specs.declared.step_form.StepForm.{StepForm}
use Rattle.chaos_dist.specs.declared.step_form.StepForm.TheVariants.{Regular, Map}
use Rattle.fd_program.specs.Homes.{first_target}
use Rattle.fd_program.specs.Places.{decomposition_of}
use Rattle.fd_program.specs.Trace.{site_at, is_empty_turn}
use Rattle.fd_program.specs.Uses.{is_plain}
use Rattle.fd_words.specs.Roles.{is_index, is_target}
use Rattle.fd_program.specs.declared.array.ArrayFacts.{ArrayFacts}
use Rattle.fd_program.specs.declared.checked.Checked.{Checked}
use Rattle.fd_program.specs.declared.loop_facts.HomeRule.{HomeRule}
use Rattle.fd_program.specs.declared.loop_facts.HomeRule.TheVariants.{Owner, Most}
use Rattle.fd_program.specs.declared.loop_record.LoopRecord.{LoopRecord}
use Rattle.fd_program.specs.declared.reference.Reference.{Reference}
use Rattle.fd_program.specs.declared.site.Site.{Site}
use Rattle.fd_program.specs.declared.trace.LoopTurn.{LoopTurn}
use Rattle.fd_program.specs.declared.trace.Step.{Step}
use Rattle.fd_program.specs.declared.trace.Step.TheVariants.{Distribute, Print, Forall}
use Rattle.fd_program.specs.Met.{is_map}
use Rattle.plan_loop.specs.LoopLetters.{is_at}
use Rattle.plan_loop.specs.declared.loop_phase.Asking.{Asking}
use Rattle.plan_loop.specs.declared.loop_phase.Asking.TheVariants.{Indexes, Homes, References}
use Rattle.plan_loop.specs.declared.loop_phase.Level.{Level}
use Rattle.plan_loop.specs.declared.loop_phase.Level.TheVariants.{First, Second}
use Rattle.chaos_records.specs.Keeping.{no_records, setting_in, is_repeated, moved, written_at, record_in, differs}
use Rattle.chaos_records.specs.declared.records.Records.{Records}
use Rattle.chaos_count.specs.declared.known.Known.{Known}

-- ---- asking for places, of the reference at a place, whose number is 1 more; `target` has the number of the first statement's target

abbrev pub is_looked_at_in : HomeRule → ℕ → ℕ → Bool
is_looked_at_in Owner target place = place + 1 == target
is_looked_at_in Most target place = true

abbrev pub is_for_in : HomeRule → ℕ → Asking → ℕ → Role → Bool → Bool
is_for_in rule target (Indexes level) place role plain = is_index role && is_at level plain
is_for_in rule target Homes place role plain = is_looked_at_in rule target place
is_for_in rule target References place role plain = not (is_index role)

-- the asking is for the reference, and it has a map layout
abbrev pub is_asked : Records → List ArrayFacts → HomeRule → ℕ → Asking → ℕ → Reference → Bool
is_asked r arrays rule target asking place x =
    is_for_in rule target asking place x.role (is_plain x.subscript) && is_map (setting_in r (decomposition_of arrays x.array)).form

-- these references, the first of them at this place
abbrev pub asks_from : Records → List ArrayFacts → HomeRule → ℕ → Asking → ℕ → List Reference → Bool
asks_from r arrays rule target asking place [] = false
asks_from r arrays rule target asking place (x ∷ xs) =
    is_asked r arrays rule target asking place x || asks_from r arrays rule target asking (place + 1) xs

abbrev pub asks_in : Records → List ArrayFacts → HomeRule → Site → Asking → Bool
asks_in r arrays rule site asking = asks_from r arrays rule (first_target site.body) asking 0 site.references

-- there are index references of this level
abbrev pub has_indexes : List Reference → Level → Bool
has_indexes references level = list_any (λ (x : Reference). is_index x.role && is_at level (is_plain x.subscript)) references

-- ---- how many phases a step has

abbrev pub two_if : Bool → ℕ
two_if is = if is then 2 else 0

-- a round of fetching the values of index arrays
abbrev pub round_count : Records → List ArrayFacts → HomeRule → Site → Level → ℕ
round_count r arrays rule site level =
    two_if (asks_in r arrays rule site (Indexes level)) + two_if (has_indexes site.references level)

abbrev pub inspection_count : Records → List ArrayFacts → HomeRule → Site → ℕ
inspection_count r arrays rule site =
    round_count r arrays rule site First + round_count r arrays rule site Second
    + two_if (asks_in r arrays rule site Homes) + two_if (asks_in r arrays rule site References) + 3

abbrev pub latest_at : List (Option LoopRecord) → ℕ → Option LoopRecord
latest_at latest site = unwrap_or (slice_get latest site) None

-- an execution of a FORALL with this record
abbrev pub loop_count : Known → Checked → HomeRule → ℕ → LoopRecord → ℕ
loop_count k c rule site now =
    if differs now (latest_at k.latest site) then inspection_count k.records c.arrays rule (site_at c.sites site) + 2 else 2

-- a FORALL of the program, and its range isn't empty
abbrev pub is_executed : Checked → ℕ → LoopTurn → Bool
is_executed c site turn = not (is_empty_turn turn) && nat_lt site (length c.sites)

abbrev pub forall_count : Known → Checked → HomeRule → ℕ → LoopTurn → ℕ
forall_count k c rule site turn = if is_executed c site turn then loop_count k c rule site (record_in k.records c site turn) else 0

abbrev pub moving_count : StepForm → ℕ
moving_count (Regular shape) = 1
moving_count (Map array) = 5

abbrev pub stage_count : Known → Checked → HomeRule → Step → ℕ
stage_count k c rule (Distribute decomposition form) = if is_repeated k.records decomposition form then 0 else moving_count form
stage_count k c rule (Print array) = 1
stage_count k c rule (Forall site turn) = forall_count k c rule site turn

-- ---- what is known after a step

abbrev pub nothing_known : Checked → Known
nothing_known c = record { records = no_records (length c.arrays) (length c.layouts); latest = replicate (length c.sites) None }

-- unless there is no such decomposition, or it was moved too often
abbrev pub moved_in : Records → ℕ → StepForm → Records
moved_in r d form =
    if nat_lt d (length r.settings) && int_lt (setting_in r d).version (pos 4294967296) then moved r d form else r

abbrev pub known_after_move : Known → ℕ → StepForm → Known
known_after_move k d form = record { records = moved_in k.records d form; latest = k.latest }

-- the execution with this number changes the array of a target
abbrev pub noted_reference : ℕ → Records → Reference → Records
noted_reference execution r x = if is_target x.role then written_at execution r x.array else r

abbrev pub known_after_loop : ℕ → Known → Checked → ℕ → LoopTurn → Known
known_after_loop execution k c site turn = record {
  records = fold (noted_reference execution) k.records (site_at c.sites site).references;
  latest = slice_set k.latest site (Some (record_in k.records c site turn));
}

abbrev pub known_after_forall : ℕ → Known → Checked → ℕ → LoopTurn → Known
known_after_forall execution k c site turn = if is_executed c site turn then known_after_loop execution k c site turn else k

abbrev pub known_after : ℕ → Known → Checked → Step → Known
known_after execution k c (Distribute decomposition form) = known_after_move k decomposition form
known_after execution k c (Print array) = k
known_after execution k c (Forall site turn) = known_after_forall execution k c site turn

-- ---- all steps; the first of them has this number

abbrev pub count_from : ℕ → Known → Checked → HomeRule → List Step → ℕ
count_from execution k c rule [] = 0
count_from execution k c rule (step ∷ steps) =
    stage_count k c rule step + count_from (execution + 1) (known_after execution k c step) c rule steps
