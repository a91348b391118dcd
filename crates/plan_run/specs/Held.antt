-- What a node holds between the steps of a run, and as a phase begins. `past` has the completed steps, the latest first.
use Rattle.std.specs.Prelude.{◌≡◌, ℕ, ◌≤◌, ℤ, pos, Bool, true, false, not, ◌&&◌, ◌==◌, if◌then◌else◌, List, [], ◌∷◌, ◌++◌, length, map}
use Rattle.std.specs.Prelude.{flat_map, slice_get, take, drop, Option, Some, None, IsSomeAnd, MatchOption, MatchBool}
use Rattle.std.specs.List.{AllZip, list_any}
use Rattle.fd_words.specs.Lists.{list_at}
use Rattle.fd_words.specs.declared.place.Place.{Place}
use Rattle.chaos_dist.specs.Counting.{below}
use Rattle.chaos_dist.specs.Owners.{elements_on, page_of}
use Rattle.chaos_dist.specs.declared.step_form.StepForm.{StepForm}
use Rattle.chaos_dist.specs.declared.step_form.StepForm.TheVariants.{Regular, Map}
use Rattle.chaos_hash.specs.Stamps.{Stamps}
use Rattle.chaos_table.specs.Pages.{look_in}
use Rattle.chaos_table.specs.declared.pages.Pages.{Pages}
use Rattle.chaos_sched.specs.declared.local_ref.LocalRef.{LocalRef}
use Rattle.chaos_sched.specs.declared.prepared.Prepared.{Prepared}
use Rattle.chaos_records.specs.Keeping.{Keeps}
use Rattle.chaos_records.specs.declared.records.Records.{Records}
use Rattle.fd_program.specs.Cells.{Cell}
use Rattle.fd_program.specs.Homes.{owner_met, executed_by, needed_of}
use Rattle.fd_program.specs.Layouts.{Scene, scene_of, store_at, owners_at, loop_at}
use Rattle.fd_program.specs.Past.{form_at, version_at, decompositions_of, record_at, latest_of, inspects_at, inspecting_of}
use Rattle.fd_program.specs.Places.{parts_of}
use Rattle.fd_program.specs.Reports.{count_at, executed_of, completed_of}
use Rattle.fd_program.specs.Runs.{Run}
use Rattle.fd_program.specs.Stores.{number_at}
use Rattle.fd_program.specs.Texts.{printed, refusal_text, output_line}
use Rattle.fd_program.specs.Trace.{site_at}
use Rattle.fd_program.specs.Uses.{read_of}
use Rattle.fd_program.specs.declared.checked.Checked.{Checked}
use Rattle.fd_program.specs.declared.count.SiteCount.{SiteCount}
use Rattle.fd_program.specs.declared.loop_facts.HomeRule.{HomeRule}
use Rattle.fd_program.specs.declared.loop_facts.LoopFacts.{LoopFacts}
use Rattle.fd_program.specs.declared.loop_record.LoopRecord.{LoopRecord}
use Rattle.fd_program.specs.declared.loop_use.Use.{Use}
use Rattle.fd_program.specs.declared.refused.Refused.{Refused}
use Rattle.fd_program.specs.declared.trace.LoopTurn.{LoopTurn}
use Rattle.fd_program.specs.declared.trace.Step.{Step}
use Rattle.fd_program.specs.declared.trace.Step.TheVariants.{Distribute, Print, Forall}
use Rattle.plan_tables.specs.Fits.{Fits, StandsFor, slot_for}
use Rattle.fd_program.specs.Met.{kept_uses, decomposition_met, stands_met, local_met}
use Rattle.plan_loop.specs.LoopLetters.{wanted_of, index_uses_of, indexes_of, iteration_row, value_before}
use Rattle.plan_loop.specs.declared.loop_phase.Asking.{Asking}
use Rattle.plan_loop.specs.declared.loop_phase.Asking.TheVariants.{Indexes, Homes, References}
use Rattle.plan_loop.specs.declared.loop_phase.Level.{Level}
use Rattle.plan_loop.specs.declared.loop_phase.Level.TheVariants.{First, Second}
use Rattle.plan_loop.specs.declared.loop_phase.LoopPhase.{LoopPhase}
use Rattle.plan_loop.specs.declared.loop_phase.LoopPhase.TheVariants as phase
pub use Rattle.chaos_table.specs.Pages.{place_in}
pub use Rattle.plan_tables.specs.Tables.{no_table, entry_at, HasPlaces}
use Rattle.plan_tables.specs.Tables.{slots_entered, IsEntered}
use Rattle.plan_run.specs.Phases.{Phase, phases_of, numbers_at}
pub use Rattle.plan_run.specs.declared.kept.Kept.{Kept}
use Rattle.plan_run.specs.declared.stage.Stage.{Stage}
use Rattle.plan_run.specs.declared.stage.Stage.TheVariants as stage

-- ---- pages

-- the page of p tells the places of the elements that it covers
abbrev pub IsPageOf : ℕ → ℕ → List ℕ → Pages → Type 0
IsPageOf nodes p owners page =
    (g : ℕ) → 1 ≤ g → g ≤ length owners → page_of (length owners) nodes g ≡ p → look_in page g ≡ Some (place_in owners g)

-- a decomposition has a page exactly where its form is a map
abbrev pub HasPage : ℕ → ℕ → StepForm → List ℕ → Option Pages → Type 0
HasPage nodes p (Regular shape) owners page = page ≡ None
HasPage nodes p (Map array) owners page = IsSomeAnd page (IsPageOf nodes p owners)

-- ---- what is held

-- What the earlier phases of a step gave, as far as the present one needs it: of a DISTRIBUTE the pairs of elements and owners that
-- were taken, by sender, and the new page; of an inspection the elements whose places are asked for, each with its decomposition, and
-- their places; the owners of the index references' elements, and their values; the iterations to execute, with the values of their
-- index references; the local references. Of an execution the ghosts of each array.
pub record Hand : Type 0 where
  pub pairs : List (List ℤ)
  pub page : Option Pages
  pub wanted : List (ℕ × ℕ)
  pub places : List Place
  pub asked : List ℕ
  pub index_values : List ℤ
  pub iterations : List ℤ
  pub rows : List (List ℤ)
  pub references : List LocalRef
  pub ghosts : List (List ℤ)

-- The local parts of the arrays, the elements of each decomposition that stand in them, the numbers behind records, the pages, for each
-- FORALL what is kept of it and what it counts, the tables of ghosts, the executions that inspected, the lines so far, the refusal,
-- the list that the node has for itself in this phase, and what is in hand.
pub record Held : Type 0 where
  pub parts : List (List ℤ)
  pub elements : List (List ℤ)
  pub records : Records
  pub pages : List (Option Pages)
  pub kept : List (Option Kept)
  pub counts : List SiteCount
  pub tables : List Stamps
  pub inspected : List ℤ
  pub text : List ℕ
  pub refused : Option Refused
  pub own : List ℤ
  pub hand : Hand

-- ---- between steps

abbrev pub no_hand : Hand
no_hand = record {
  pairs = [];
  page = None;
  wanted = [];
  places = [];
  asked = [];
  index_values = [];
  iterations = [];
  rows = [];
  references = [];
  ghosts = [];
}

-- the elements of each decomposition on p, ascending
abbrev pub elements_held : List (List ℕ) → ℕ → List (List ℤ)
elements_held owners p = map (λ o. map pos (elements_on o p)) owners

-- whatever the completed steps tell
pub record Stands (s : Scene) (past : List Step) (p : ℕ) (v : Held) : Type 0 where
  pub parts : v.parts ≡ parts_of s.checked.arrays (owners_at s past) (store_at s past) p
  pub elements : v.elements ≡ elements_held (owners_at s past) p
  pub records : Keeps s.checked past v.records
  pub pages : AllZip (λ d page. HasPage s.nodes p (form_at past d) (list_at (owners_at s past) d) page) (below (length s.checked.layouts))
      v.pages
  pub counts : v.counts ≡ map (count_at s past p) (below (length s.checked.sites))
  pub places : HasPlaces (owners_at s past) v.tables

-- a decomposition of the FORALL was moved since
abbrev pub was_moved : Checked → List Step → List Step → ℕ → Bool
was_moved c past before k = list_any (λ d. not (version_at c past d == version_at c before d)) (decompositions_of c (site_at c.sites k))

-- the inspection is that of an execution, and its ghosts are entered
pub record IsInspected (f : LoopFacts) (owners : List (List ℕ)) (store : List (List ℤ)) (p : ℕ) (tables : List Stamps)
    (x : Prepared) : Type 0 where
  pub fits : Fits f owners store (slots_entered f tables) p x
  pub entered : IsEntered f owners store p tables

-- the inspection of the execution after `before` is kept, unless a decomposition was moved
abbrev pub KeepsInspection : Scene → List Step → List Step → ℕ → LoopTurn → ℕ → List Stamps → Option Prepared → Type 0
KeepsInspection s past before k turn p tables prepared =
    MatchBool (was_moved s.checked past before k) (prepared ≡ None)
    (IsSomeAnd prepared (IsInspected (loop_at s before k turn) (owners_at s before) (store_at s before) p tables))

abbrev pub KeepsLatest : Scene → List Step → ℕ → ℕ → List Stamps → LoopTurn × List Step → Kept → Type 0
KeepsLatest s past k p tables (turn, before) x = (x.latest ≡ record_at s.checked before k turn)
    × KeepsInspection s past before k turn p tables x.prepared

-- what p keeps of FORALL k: nothing before its first execution with a range that isn't empty
abbrev pub KeepsLoop : Scene → List Step → ℕ → ℕ → List Stamps → Option Kept → Type 0
KeepsLoop s past k p tables kept = MatchOption (latest_of past k) (kept ≡ None)
    (λ latest. IsSomeAnd kept (KeepsLatest s past k p tables latest))

-- the lines of the PRINTs among the steps
abbrev pub lines_of : Scene → List Step → List ℕ
lines_of s [] = []
lines_of s (step ∷ past) = lines_of s past ++ printed s.checked (step, store_at s past)

-- ---- in hand, within an execution of a FORALL

abbrev pub place_met : LoopFacts → List (List ℕ) → Use → Place
place_met f owners u = record { owner = owner_met f owners u; local = local_met f owners u }

abbrev pub HasWanted : LoopFacts → List (List ℕ) → List (List ℤ) → ℕ → Asking → Hand → Type 0
HasWanted f owners store p asking h = h.wanted ≡ map (λ u. (decomposition_met f u, stands_met f u)) (wanted_of f owners store asking p)

abbrev pub HasPlacesFor : LoopFacts → List (List ℕ) → List (List ℤ) → ℕ → Asking → Hand → Type 0
HasPlacesFor f owners store p asking h = h.places ≡ map (place_met f owners) (wanted_of f owners store asking p)

-- the values of the index references at the iterations that p inspects
abbrev pub HasIndexValues : LoopFacts → List (List ℤ) → ℕ → Hand → Type 0
HasIndexValues f store p h = h.index_values ≡ map (read_of store) (index_uses_of f store p)

-- as values of a level are fetched: those of the first, in the round of the second
abbrev pub InRound : LoopFacts → List (List ℤ) → ℕ → Level → Hand → Type 0
InRound f store p First h = Unit {0}
InRound f store p Second h = h.index_values ≡ map (read_of store) (indexes_of f store First p)

-- the iterations that p executes, each with the values of its index references
pub record HasIterations (f : LoopFacts) (owners : List (List ℕ)) (store : List (List ℤ)) (p : ℕ) (h : Hand) : Type 0 where
  pub iterations : h.iterations ≡ executed_by f owners store p
  pub rows : h.rows ≡ map (iteration_row f store) (executed_by f owners store p)

-- the local references of an inspection that fits, their slots being entered
pub record HasReferences (f : LoopFacts) (owners : List (List ℕ)) (store : List (List ℤ)) (p : ℕ) (tables : List Stamps) (h : Hand) : Type
    0 where
  pub iterations : h.iterations ≡ executed_by f owners store p
  pub references : AllZip (StandsFor f owners (slots_entered f tables) p) (kept_uses f store h.iterations) h.references
  pub entered : IsEntered f owners store p tables

-- the ghost of an element has its value
abbrev pub IsGhostOf : LoopFacts → List (List ℤ) → List Stamps → List (List ℤ) → Cell → Type 0
IsGhostOf f store tables ghosts x =
    IsSomeAnd (slot_for f (slots_entered f tables) x.array (pos x.element)) (λ slot. number_at (list_at ghosts x.array) slot
    ≡ value_before store x)

-- those of all elements that p reads of others
abbrev pub HasGhosts : LoopFacts → List (List ℕ) → List (List ℤ) → ℕ → List Stamps → Hand → Type 0
HasGhosts f owners store p tables h =
    (q i : ℕ) (x : Cell) → slice_get (needed_of f owners store p q) i ≡ Some x → IsGhostOf f store tables h.ghosts x

-- what p has in hand as a phase of an execution begins
abbrev pub InHandInLoop : LoopFacts → List (List ℕ) → List (List ℤ) → ℕ → List Stamps → LoopPhase → Hand → Type 0
InHandInLoop f owners store p tables (phase.DerefAsk (Indexes level)) h = InRound f store p level h
InHandInLoop f owners store p tables (phase.DerefAnswer (Indexes level)) h = InRound f store p level h
    × HasWanted f owners store p (Indexes level) h
InHandInLoop f owners store p tables (phase.IndexAsk level) h = InRound f store p level h
    × HasPlacesFor f owners store p (Indexes level) h
InHandInLoop f owners store p tables (phase.IndexValues level) h = InRound f store p level h
    × (h.asked ≡ map (owner_met f owners) (indexes_of f store level p))
InHandInLoop f owners store p tables phase.Vote h = HasIndexValues f store p h
InHandInLoop f owners store p tables (phase.DerefAsk Homes) h = HasIndexValues f store p h
InHandInLoop f owners store p tables (phase.DerefAnswer Homes) h = HasIndexValues f store p h × HasWanted f owners store p Homes h
InHandInLoop f owners store p tables phase.Iterations h = HasIndexValues f store p h × HasPlacesFor f owners store p Homes h
InHandInLoop f owners store p tables (phase.DerefAsk References) h = HasIterations f owners store p h
InHandInLoop f owners store p tables (phase.DerefAnswer References) h = HasIterations f owners store p h
    × HasWanted f owners store p References h
InHandInLoop f owners store p tables phase.ScheduleAsk h = HasReferences f owners store p tables h
InHandInLoop f owners store p tables phase.Gather h = Unit {0}
InHandInLoop f owners store p tables phase.Scatter h = HasGhosts f owners store p tables h

-- ---- in hand, within a DISTRIBUTE

-- the lists that p is owed in a stage of a step, by sender, its own one included
abbrev pub owed_at : Scene → List Step → Step → Stage → ℕ → List (List ℤ)
owed_at s past step stage p = map (λ q. numbers_at s past step stage q p) (below s.nodes)

-- the new page, where the form is a map
abbrev pub HasNewPage : Scene → List Step → ℕ → StepForm → ℕ → Hand → Type 0
HasNewPage s past d form p h = HasPage s.nodes p form (list_at (owners_at s (Distribute d form ∷ past)) d) h.page

abbrev pub InHandInMove : Scene → List Step → ℕ → StepForm → ℕ → Stage → Hand → Type 0
InHandInMove s past d (Regular shape) p stage h = Unit {0}
InHandInMove s past d (Map array) p stage.PageCounts h = h.pairs ≡ owed_at s past (Distribute d (Map array)) (stage.MapPairs array) p
InHandInMove s past d (Map array) p stage.MovingAsk h = HasNewPage s past d (Map array) p h
InHandInMove s past d (Map array) p stage.MovingAnswer h = HasNewPage s past d (Map array) p h
InHandInMove s past d (Map array) p stage.Remap h = HasNewPage s past d (Map array) p h
InHandInMove s past d (Map array) p _ h = Unit {0}

-- ---- in hand

abbrev pub InHand : Scene → List Step → Step → ℕ → List Stamps → Stage → Hand → Type 0
InHand s past (Distribute d form) p tables stage h = InHandInMove s past d form p stage h
InHand s past (Print array) p tables stage h = Unit {0}
InHand s past (Forall site turn) p tables (stage.InLoop l) h = InHandInLoop (loop_at s past site turn) (owners_at s past)
    (store_at s past) p tables l h
InHand s past (Forall site turn) p tables _ h = Unit {0}

-- ---- within a step

-- the step inspects this FORALL
abbrev pub is_inspecting : Checked → List Step → Step → ℕ → Bool
is_inspecting c past (Distribute decomposition form) k = false
is_inspecting c past (Print array) k = false
is_inspecting c past (Forall site turn) k = (site == k) && inspects_at c past site turn

-- an inspection would be over
abbrev pub is_executing : Stage → Bool
is_executing (stage.InLoop phase.Gather) = true
is_executing (stage.InLoop phase.Scatter) = true
is_executing _ = false

-- what is known of a refusal: that of the run, once only the OUTPUT arrays are left
abbrev pub refused_at : Run → Stage → Option Refused
refused_at run (stage.Output j) = run.refused
refused_at run _ = None

-- this FORALL was refused
abbrev pub is_stopped : Option Refused → ℕ → Bool
is_stopped None k = false
is_stopped (Some r) k = r.site == k

-- What p keeps of FORALL k within a step: nothing of a refused one; of the one that is inspected nothing, and what it keeps after the
-- step once the inspection is over; of any other what it kept before.
abbrev pub KeepsInStep : Scene → Run → List Step → Step → Stage → ℕ → List Stamps → ℕ → Option Kept → Type 0
KeepsInStep s run past step stage p tables k kept =
    MatchBool (is_stopped (refused_at run stage) k) (kept ≡ None)
    (MatchBool (is_inspecting s.checked past step k)
    (MatchBool (is_executing stage) (KeepsLoop s (step ∷ past) k p tables kept) (kept ≡ None))
    (KeepsLoop s past k p tables kept))

-- the lines on node 0 as a stage begins: at an OUTPUT also the refusal line, and the OUTPUT arrays before
abbrev pub text_at : Scene → Run → List Step → Stage → List ℕ
text_at s run past (stage.Output j) = lines_of s past ++ refusal_text s.checked run.refused ++ flat_map (output_line s.checked run.last)
    (take j s.checked.outputs)
text_at s run past _ = lines_of s past

abbrev pub text_on : ℕ → List ℕ → List ℕ
text_on p text = if p == 0 then text else []

-- the executed steps that inspect, by number, in order: up to the present one
abbrev pub inspected_at : Scene → Run → List Step → Step → Stage → List ℤ
inspected_at s run past step (stage.Output j) = map pos (inspecting_of s.checked (executed_of run))
inspected_at s run past step _ = map pos (inspecting_of s.checked (step ∷ past))

-- one of each for the FORALLs of the program
abbrev pub EachLoop : Checked → (ℕ → Option Kept → Type 0) → List (Option Kept) → Type 0
EachLoop c P kept = AllZip P (below (length c.sites)) kept

-- what p holds as phase f begins
pub record AtPhase (s : Scene) (run : Run) (f : Phase) (p : ℕ) (v : Held) : Type 0 where
  pub stands : Stands s f.past p v
  pub keeps : EachLoop s.checked (KeepsInStep s run f.past f.step f.stage p v.tables) v.kept
  pub inspected : v.inspected ≡ inspected_at s run f.past f.step f.stage
  pub text : v.text ≡ text_on p (text_at s run f.past f.stage)
  pub refused : v.refused ≡ refused_at run f.stage
  pub own : v.own ≡ numbers_at s f.past f.step f.stage p p
  pub hand : InHand s f.past f.step p v.tables f.stage v.hand

abbrev pub KeepsAtEnd : Scene → Run → List Step → ℕ → List Stamps → ℕ → Option Kept → Type 0
KeepsAtEnd s run past p tables k kept = MatchBool (is_stopped run.refused k) (kept ≡ None) (KeepsLoop s past k p tables kept)

abbrev pub whole_text : Scene → Run → List Step → List ℕ
whole_text s run past = lines_of s past ++ refusal_text s.checked run.refused ++ flat_map (output_line s.checked run.last) s.checked.outputs

-- what p holds where no phase is left
pub record AtEnd (s : Scene) (run : Run) (past : List Step) (p : ℕ) (v : Held) : Type 0 where
  pub stands : Stands s past p v
  pub keeps : EachLoop s.checked (KeepsAtEnd s run past p v.tables) v.kept
  pub inspected : v.inspected ≡ map pos (inspecting_of s.checked (executed_of run))
  pub text : v.text ≡ text_on p (whole_text s run past)
  pub refused : v.refused ≡ run.refused

-- what p holds where these phases are left
abbrev pub AtLeft : Scene → Run → List Phase → ℕ → Held → Type 0
AtLeft s run [] p v = AtEnd s run (completed_of run) p v
AtLeft s run (f ∷ rest) p v = AtPhase s run f p v

-- what p holds as phase t begins
abbrev pub At : Checked → ℕ → HomeRule → Run → ℕ → ℕ → Held → Type 0
At c nodes rule run t p v = AtLeft (scene_of c nodes rule run) run (drop t (phases_of c nodes rule run)) p v
