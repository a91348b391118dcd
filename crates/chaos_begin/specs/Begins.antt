-- What a step begins with on a node, in a run.
use Rattle.std.specs.Prelude.{◌≡◌, ℕ, ◌<◌, ◌≤◌, ℤ, pos, int_le, Bool, true, false, ◌&&◌, ◌==◌, List, [], ◌∷◌, length, map, filter, Option}
use Rattle.std.specs.Prelude.{slice_get, IsSomeAnd}
use Rattle.std.specs.List.{AllZip, list_all}
use Rattle.std.specs.Option.{option_map, option_map_or, option_and_then}
use Rattle.fd_words.specs.Lists.{list_at}
use Rattle.chaos_dist.specs.Counting.{below}
use Rattle.chaos_dist.specs.Homes.{natural}
use Rattle.chaos_dist.specs.declared.shape.Shape.{Shape}
use Rattle.chaos_dist.specs.declared.step_form.StepForm.{StepForm}
use Rattle.chaos_dist.specs.declared.step_form.StepForm.TheVariants.{Regular, Map}
use Rattle.chaos_dist.specs.Owners.{regular_owners}
use Rattle.chaos_facts.specs.FactsLaws.{IsRun}
use Rattle.chaos_moving.specs.InRun.{owners_after}
use Rattle.chaos_moving.specs.IsMoving.{HasMap, HasShare, IsMoving}
use Rattle.chaos_moving.specs.Stages.{left_in}
use Rattle.chaos_moving.specs.declared.moving.Moving.{Moving}
use Rattle.chaos_moving.specs.declared.share.Share.{Share}
use Rattle.inspect_uses.specs.Accepted.{AreOwners, IsAccepted}
use Rattle.plan_run.specs.Held.{Held, Stands}
use Rattle.plan_run.specs.Phases.{arrays_in, loop_stages, moving_stages}
use Rattle.plan_run.specs.declared.kept.Kept.{Kept}
use Rattle.plan_run.specs.declared.stage.Stage.{Stage}
use Rattle.plan_run.specs.declared.stage.Stage.TheVariants as stage
use Rattle.plan_loop.specs.LoopLetters.{executor_phases}
use Rattle.fd_program.specs.Checks.{IsChecked}
use Rattle.fd_program.specs.Layouts.{Scene, loop_at, owners_by_map, owners_at, store_at}
use Rattle.fd_program.specs.Past.{inspects_at, is_repeat, latest_of, record_at}
use Rattle.fd_program.specs.Places.{decomposition_of}
use Rattle.fd_program.specs.StepLaws.{IsStepIn}
use Rattle.fd_program.specs.Stores.{array_at}
use Rattle.fd_program.specs.Trace.{is_empty_turn}
use Rattle.fd_program.specs.declared.array.ArrayFacts.{ArrayFacts}
use Rattle.fd_program.specs.declared.array.LayoutName.{LayoutName}
use Rattle.fd_program.specs.declared.checked.Checked.{Checked}
use Rattle.fd_program.specs.declared.loop_facts.LoopFacts.{LoopFacts}
use Rattle.fd_program.specs.declared.loop_record.LoopRecord.{LoopRecord}
use Rattle.fd_program.specs.declared.trace.LoopTurn.{LoopTurn}
use Rattle.fd_program.specs.declared.trace.Step.{Step}
use Rattle.fd_program.specs.declared.trace.Step.TheVariants.{Distribute, Print, Forall}
use Rattle.chaos_begin.specs.declared.begun.Begun.{Begun}
use Rattle.chaos_begin.specs.declared.begun.Begun.TheVariants as begun
use Rattle.chaos_begin.specs.declared.between.Between.{Between}

-- ---- what is kept

-- the record that is kept of a FORALL
abbrev pub latest_kept : Option Kept → Option LoopRecord
latest_kept kept = option_map (λ (x : Kept). x.latest) kept

abbrev pub latest_in : List (Option Kept) → ℕ → Option LoopRecord
latest_in kept k = option_and_then latest_kept (slice_get kept k)

-- that of its latest execution with a range that isn't empty
abbrev pub HasLatest : Checked → List Step → ℕ → Option Kept → Type 0
HasLatest c past k kept = latest_kept kept ≡ option_map (λ (latest, before). record_at c before k latest) (latest_of past k)

abbrev pub LatestAreKept : Checked → List Step → List (Option Kept) → Type 0
LatestAreKept c past kept = AllZip (HasLatest c past) (below (length c.sites)) kept

-- ---- before a step

-- the program is a checked one, and the node one of at most 16
pub record IsSoundBetween (b : Between) : Type 0 where
  pub checked : IsChecked b.checked.now
  pub some_nodes : 1 ≤ b.nodes
  pub few_nodes : b.nodes ≤ 16
  pub node : b.me < b.nodes

-- what is held is what the run tells after these steps
pub record IsBetween (s : Scene) (past : List Step) (v : Held) (b : Between) : Type 0 where
  pub checked : s.checked ≡ b.checked.now
  pub nodes : s.nodes ≡ b.nodes
  pub rule : s.rule ≡ b.rule
  pub run : IsRun s past
  pub stands : Stands s past b.me v
  pub elements : v.elements ≡ b.elements.now
  pub parts : v.parts ≡ b.parts.now
  pub records : v.records ≡ b.records.now
  pub kept : LatestAreKept s.checked past b.kept.now

-- ---- a share

-- the number is that of an element
abbrev pub is_within_extent : ℕ → ℤ → Bool
is_within_extent extent v = int_le (pos 1) v && int_le v (pos extent)

-- the lists of a decomposition's arrays
abbrev pub lists_in : Checked → List (List ℤ) → ℕ → List (List ℤ)
lists_in c lists d = map (λ array. list_at lists array) (arrays_in c d)

-- those of these arrays, of which there are so many
abbrev pub lists_of : List ArrayFacts → ℕ → List (List ℤ) → ℕ → List (List ℤ)
lists_of arrays count lists d = map (λ array. list_at lists array) (filter (λ array. decomposition_of arrays array == d) (below count))

-- what is held of a decomposition
pub record IsShareOf (b : Between) (d extent : ℕ) (share : Share) : Type 0 where
  pub there : d < length b.checked.now.layouts
  pub me : share.me ≡ b.me
  pub nodes : share.nodes ≡ b.nodes
  pub decomposition : share.decomposition ≡ d
  pub size : share.extent ≡ extent
  pub elements : share.elements ≡ list_at b.elements.now d
  pub pieces : share.pieces ≡ lists_in b.checked.now b.parts.now d

-- the decomposition is there, and what is held of it are elements
abbrev pub has_share : Between → ℕ → Bool
has_share b d = option_map_or (λ (l : LayoutName). list_all (is_within_extent l.extent) (list_at b.elements.now d))
    (slice_get b.checked.now.layouts d) false

-- ---- a move

-- the move of a share to a regular shape, and to the owners that a map array names
pub record IsByShape (share : Share) (shape : Shape) (m : Moving) : Type 0 where
  pub mine : m.share ≡ share
  pub form : m.form ≡ Regular shape
  pub stages : left_in m.stage ≡ moving_stages (Regular shape)
  pub moving : (s : Scene) (owners : List (List ℕ)) (store : List (List ℤ)) → HasShare share s owners store
      → IsMoving m s owners store (regular_owners shape share.extent s.nodes)

abbrev pub HasMapHere : Between → Share → ℕ → Scene → List (List ℕ) → List (List ℤ) → Type 0
HasMapHere b share array s owners store =
    HasMap share s owners store array (natural (array_at b.checked.now.arrays array).offset)
    (list_at b.elements.now (decomposition_of b.checked.now.arrays array)) (list_at b.parts.now array)

pub record IsByMap (b : Between) (share : Share) (array : ℕ) (m : Moving) : Type 0 where
  pub mine : m.share ≡ share
  pub form : m.form ≡ Map array
  pub stages : left_in m.stage ≡ moving_stages (Map array)
  pub moving : (s : Scene) (owners : List (List ℕ)) (store : List (List ℤ)) → HasShare share s owners store
      → HasMapHere b share array s owners store → IsMoving m s owners store (owners_by_map s.nodes (list_at store array))

-- the move of this share to this form, before its first phase
pub record IsMoveOf (share : Share) (form : StepForm) (m : Moving) : Type 0 where
  pub mine : m.share ≡ share
  pub given : m.form ≡ form
  pub stages : left_in m.stage ≡ moving_stages form

-- a DISTRIBUTE of a decomposition in a run, before its first phase
pub record IsMoveIn (s : Scene) (past : List Step) (p d : ℕ) (form : StepForm) (m : Moving) : Type 0 where
  pub node : m.share.me ≡ p
  pub decomposition : m.share.decomposition ≡ d
  pub given : m.form ≡ form
  pub stages : left_in m.stage ≡ moving_stages form
  pub moving : IsMoving m s (owners_at s past) (store_at s past) (owners_after s past d form)

-- that of a decomposition to a form, whatever the run
abbrev pub BeginsMoveTo : Between → ℕ → StepForm → Option Moving → Type 0
BeginsMoveTo b d form o =
    (s : Scene) (past : List Step) (v : Held) → IsBetween s past v b → IsStepIn s.checked (Distribute d form)
    → IsSomeAnd o (IsMoveIn s past b.me d form)

-- ---- what a step begins with

-- a DISTRIBUTE that isn't a repeat
pub record BeginsMove (s : Scene) (past : List Step) (step : Step) (p : ℕ) (m : Moving) : Type 0 where
  pub d : ℕ
  pub form : StepForm
  pub is : step ≡ Distribute d form
  pub moves : is_repeat s.checked past d form ≡ false
  pub begins : IsMoveIn s past p d form m

-- an execution of a FORALL with a range that isn't empty, which inspects or doesn't
pub record IsLoopAt (s : Scene) (past : List Step) (site : ℕ) (turn : LoopTurn) (does : Bool) : Type 0 where
  pub there : site < length s.checked.sites
  pub some : is_empty_turn turn ≡ false
  pub inspects : inspects_at s.checked past site turn ≡ does

pub record BeginsLoop (s : Scene) (past : List Step) (step : Step) (does : Bool) : Type 0 where
  pub site : ℕ
  pub turn : LoopTurn
  pub is : step ≡ Forall site turn
  pub at : IsLoopAt s past site turn does

-- one that inspects, with its facts
pub record BeginsInspection (s : Scene) (past : List Step) (step : Step) (f : LoopFacts) : Type 0 where
  pub loop : BeginsLoop s past step true
  pub facts : f ≡ loop_at s past loop.site loop.turn
  pub owners : AreOwners f (owners_at s past)

abbrev pub IsBegun : Scene → List Step → Step → ℕ → Begun → Type 0
IsBegun s past step p (begun.Print array) = step ≡ Print array
IsBegun s past step p (begun.Move m) = BeginsMove s past step p m
IsBegun s past step p (begun.Inspect f) = BeginsInspection s past step f
IsBegun s past step p begun.Execute = BeginsLoop s past step false

-- ---- what is known without a run

-- the stages of what is begun
abbrev pub stages_begun : Begun → List Stage
stages_begun (begun.Print array) = stage.Print ∷ []
stages_begun (begun.Move m) = left_in m.stage
stages_begun (begun.Inspect f) = loop_stages f true
stages_begun begun.Execute = map stage.InLoop executor_phases

pub record IsFitMove (b : Between) (m : Moving) : Type 0 where
  pub node : m.share.me ≡ b.me
  pub nodes : m.share.nodes ≡ b.nodes
  pub there : m.share.decomposition < length b.checked.now.layouts
  pub stages : left_in m.stage ≡ moving_stages m.form

pub record IsFit (b : Between) (f : LoopFacts) : Type 0 where
  pub accepted : IsAccepted f
  pub node : b.me < f.nodes
  pub arrays : f.arrays ≡ b.checked.now.arrays
  pub few_arrays : length f.arrays ≤ 64
  pub layouts : length f.layouts ≡ length b.checked.now.layouts
  pub nodes : f.nodes ≡ b.nodes

abbrev pub IsFitBegun : Between → Begun → Type 0
IsFitBegun b (begun.Print array) = Unit {0}
IsFitBegun b (begun.Move m) = IsFitMove b m
IsFitBegun b (begun.Inspect f) = IsFit b f
IsFitBegun b begun.Execute = Unit {0}
