-- What is kept of all FORALLs as an inspection begins, and as it is over.
use Rattle.std.specs.Prelude.{◌≡◌, ◌≢◌, refl, ℕ, ◌+◌, Bool, true, false, not, ◌&&◌, ◌==◌, List, ◌∷◌, length, slice_set, Option, Some, None}
use Rattle.std.specs.Prelude.{MatchBool}
use Rattle.std.specs.Option.{option_map_or}
use Rattle.std.proofs.Common.{ap, sym, ◌∙◌, subst, arith}
use Rattle.chaos_hash.specs.Stamps.{Stamps}
use Rattle.fd_program.specs.Layouts.{Scene, store_at, owners_at, loop_at}
use Rattle.fd_program.specs.Past.{record_at, is_same_record, latest_of, inspects_at}
use Rattle.fd_program.specs.Runs.{Run}
use Rattle.fd_program.specs.Trace.{is_empty_turn}
use Rattle.fd_program.specs.declared.trace.LoopTurn.{LoopTurn}
use Rattle.fd_program.specs.declared.trace.Step.{Step}
use Rattle.fd_program.specs.declared.trace.Step.TheVariants.{Forall}
use Rattle.plan_loop.specs.declared.loop_phase.LoopPhase.{LoopPhase}
use Rattle.plan_loop.specs.declared.loop_phase.LoopPhase.TheVariants as phase
use Rattle.chaos_sched.specs.declared.prepared.Prepared.{Prepared}
use Rattle.plan_run.specs.Held.{Kept, IsInspected, KeepsLoop, KeepsInStep, EachLoop, is_executing}
use Rattle.plan_run.specs.KeptLaws.{inspected_is_kept, differ}
use Rattle.plan_run.specs.OwnerLaws.{equals_itself}
use Rattle.plan_run.specs.StandLaws.{zip_set}
use Rattle.plan_run.specs.TableLaws.{StaysInspected, tables_keep_loops}
use Rattle.plan_run.specs.declared.stage.Stage.TheVariants as stage

-- an inspection of each other FORALL than this one stays right
abbrev pub OthersStayInspected : Scene → ℕ → List Stamps → List Stamps → Type 0
OthersStayInspected s site before after = (k : ℕ) → site ≢ k → (steps : List Step) (turn : LoopTurn)
    → StaysInspected (loop_at s steps k turn) before after

-- Nothing is kept of a FORALL that is inspected now, and of each other what was kept: the tables changed for this one alone.
abbrev pub InspectionBegins : Type 0
InspectionBegins =
    (s : Scene) (run : Run) (past : List Step) (site : ℕ) (turn : LoopTurn) (first : LoopPhase) (p : ℕ) (before after : List Stamps)
    (kept : List (Option Kept))
    → inspects_at s.checked past site turn ≡ true → is_executing (stage.InLoop first) ≡ false → OthersStayInspected s site before after
    → EachLoop s.checked (λ k. KeepsLoop s past k p before) kept
    → EachLoop s.checked (KeepsInStep s run past (Forall site turn) (stage.InLoop first) p after) (slice_set kept site None)

-- Once it is over, its record and the inspection are kept, and of each other what was kept: the tables changed for this one alone.
abbrev pub InspectionEnds : Type 0
InspectionEnds =
    (s : Scene) (run : Run) (past : List Step) (site : ℕ) (turn : LoopTurn) (last : LoopPhase) (p : ℕ) (before after : List Stamps)
    (kept : List (Option Kept)) (x : Prepared)
    → inspects_at s.checked past site turn ≡ true → is_executing (stage.InLoop last) ≡ false → OthersStayInspected s site before after
    → IsInspected (loop_at s past site turn) (owners_at s past) (store_at s past) p after x
    → EachLoop s.checked (KeepsInStep s run past (Forall site turn) (stage.InLoop last) p before) kept
    → EachLoop s.checked (KeepsInStep s run past (Forall site turn) (stage.InLoop phase.Gather) p after)
    (slice_set kept site (Some (record { latest = record_at s.checked past site turn; prepared = Some x })))

-- ---- proofs

-- within an execution that isn't refused
abbrev KeptWithin : Scene → List Step → ℕ → LoopTurn → ℕ → List Stamps → ℕ → Option Kept → Bool → Bool → Type 0
KeptWithin s past site turn p tables k kept inspecting executing =
    MatchBool inspecting (MatchBool executing (KeepsLoop s (Forall site turn ∷ past) k p tables kept) (kept ≡ None))
    (KeepsLoop s past k p tables kept)

-- this one, and another
inspects_it : (s : Scene) (past : List Step) (site : ℕ) (turn : LoopTurn) → inspects_at s.checked past site turn ≡ true
    → ((site == site) && inspects_at s.checked past site turn) ≡ true
inspects_it s past site turn e = ap (λ b. b && inspects_at s.checked past site turn) (equals_itself site) ∙ e

inspects_not : (s : Scene) (past : List Step) (site k : ℕ) (turn : LoopTurn) → site ≢ k
    → ((site == k) && inspects_at s.checked past site turn) ≡ false
inspects_not s past site k turn other = ap (λ b. b && inspects_at s.checked past site turn) (differ site k other)

some_range : (s : Scene) (past : List Step) (site : ℕ) (turn : LoopTurn) → inspects_at s.checked past site turn ≡ true
    → is_empty_turn turn ≡ false
some_range s past site turn e = by (is_empty_turn turn) e
  where
    by : (b : Bool)
        → (not b && option_map_or (λ (latest, before). not (is_same_record (record_at s.checked before site latest)
        (record_at s.checked past site turn))) (latest_of past site) true) ≡ true
        → b ≡ false
    by false e = refl
    by true e = cc

pub inspection_begins : InspectionBegins
inspection_begins s run past site turn first p before after kept inspects early stamps h =
    let at : 0 + site ≡ site = omega arith in
    zip_set (λ k. KeepsLoop s past k p before) (KeepsInStep s run past (Forall site turn) (stage.InLoop first) p after) 0
    (length s.checked.sites) site None kept
    (subst (λ k. KeptWithin s past site turn p after k None ((site == k) && inspects_at s.checked past site turn)
    (is_executing (stage.InLoop first))) (sym at)
    (subst (λ b. KeptWithin s past site turn p after site None b (is_executing (stage.InLoop first)))
    (sym (inspects_it s past site turn inspects))
    (subst (λ b. KeptWithin s past site turn p after site None true b) (sym early) refl)))
    (λ k x other held.
    let differs : site ≢ k = λ same. other (at ∙ same) in
    subst (λ b. KeptWithin s past site turn p after k x b (is_executing (stage.InLoop first)))
    (sym (inspects_not s past site k turn differs))
    (tables_keep_loops s past k p before after x (stamps k differs) held)) h

pub inspection_ends : InspectionEnds
inspection_ends s run past site turn last p before after kept x inspects early stamps it h =
    let at : 0 + site ≡ site = omega arith in
    let now : Option Kept = Some (record { latest = record_at s.checked past site turn; prepared = Some x }) in
    zip_set (KeepsInStep s run past (Forall site turn) (stage.InLoop last) p before) (KeepsInStep s run past (Forall site turn)
    (stage.InLoop phase.Gather) p after)
    0 (length s.checked.sites) site now kept
    (subst (λ k. KeptWithin s past site turn p after k now ((site == k) && inspects_at s.checked past site turn) true) (sym at)
    (subst (λ b. KeptWithin s past site turn p after site now b true) (sym (inspects_it s past site turn inspects))
    (inspected_is_kept s past site turn p after x (some_range s past site turn inspects) it)))
    (λ k y other held.
    let differs : site ≢ k = λ same. other (at ∙ same) in
    subst (λ b. KeptWithin s past site turn p after k y b true) (sym (inspects_not s past site k turn differs))
    (tables_keep_loops s past k p before after y (stamps k differs)
    (subst (λ b. KeptWithin s past site turn p before k y b (is_executing (stage.InLoop last))) (inspects_not s past site k turn differs)
    held))) h
