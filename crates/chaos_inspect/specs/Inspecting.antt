-- How far an inspection has come, and what it has in hand there.
use Rattle.std.specs.Prelude.{◌≡◌, ℕ, ◌<◌, ◌≤◌, ℤ, Bool, if◌then◌else◌, List, length, map, Option, Some, None, is_some, IfSome}
use Rattle.std.specs.Prelude.{Result, OnErr}
use Rattle.std.specs.Option.{option_and_then}
use Rattle.inspect_places.specs.Asks.{IsAsked}
use Rattle.inspect_places.specs.Laws.{uses_wanted}
use Rattle.chaos_hash.specs.Stamps.{Stamps}
use Rattle.plan_tables.specs.Fits.{Fits}
use Rattle.inspect_enter.specs.Preparing.{IsEntering}
use Rattle.plan_tables.specs.Tables.{IsEntered, KeepsOtherStamps, slots_entered}
use Rattle.chaos_sched.specs.declared.prepared.Prepared.{Prepared}
use Rattle.fd_words.specs.declared.place.Offence.{Offence}
use Rattle.fd_program.specs.Homes.{inspected_by}
use Rattle.fd_program.specs.Loops.{offence_of}
use Rattle.fd_program.specs.declared.loop_facts.LoopFacts.{LoopFacts}
use Rattle.plan_loop.specs.LoopLetters.{asks_places, has_level, indexes_of, owed_in, sent_in}
use Rattle.plan_loop.specs.declared.loop_phase.Asking.{Asking}
use Rattle.plan_loop.specs.declared.loop_phase.Asking.TheVariants.{Indexes, Homes, References}
use Rattle.plan_loop.specs.declared.loop_phase.Level.{Level}
use Rattle.plan_loop.specs.declared.loop_phase.Level.TheVariants.{First, Second}
use Rattle.plan_loop.specs.declared.loop_phase.LoopPhase.{LoopPhase}
use Rattle.plan_loop.specs.declared.loop_phase.LoopPhase.TheVariants.{DerefAsk, DerefAnswer, Gather, IndexAsk, IndexValues, Iterations}
use Rattle.plan_loop.specs.declared.loop_phase.LoopPhase.TheVariants.{Scatter, ScheduleAsk, Vote}
use Rattle.inspect_uses.specs.Accepted.{AreOwners, IsAccepted}
use Rattle.chaos_inspect.specs.Met.{firsts_of, places_asked, rows_of, spot_met, values_of}
use Rattle.chaos_inspect.specs.declared.inspection.Inspection.{Inspection}
use Rattle.chaos_inspect.specs.declared.stage.Stage.{Stage}
use Rattle.chaos_inspect.specs.declared.stage.Stage.TheVariants.{Seeking, Telling, Fetching, Answering, Voting, Refused, Homing, Entered}
use Rattle.chaos_inspect.specs.declared.stage.Stage.TheVariants.{Ready}

-- the phase that is due
abbrev pub phase_of : Stage → Option LoopPhase
phase_of (Seeking asking) = Some (DerefAsk asking)
phase_of (Telling asking asked) = Some (DerefAnswer asking)
phase_of (Fetching level) = Some (IndexAsk level)
phase_of (Answering level asked) = Some (IndexValues level)
phase_of Voting = Some Vote
phase_of (Refused offence) = None
phase_of (Homing told) = Some Iterations
phase_of (Entered entering) = Some ScheduleAsk
phase_of (Ready prepared) = None

abbrev pub offence_in : Stage → Option Offence
offence_in (Refused offence) = Some offence
offence_in _ = None

-- ---- what the earlier phases gave

abbrev pub HasNoOffence : Inspection → List (List ℤ) → Type 0
HasNoOffence x store = offence_of x.facts.arrays x.facts.site x.facts.turn store ≡ None

abbrev pub HasValues : Inspection → List (List ℤ) → Type 0
HasValues x store = x.values ≡ values_of x.facts store x.me

abbrev pub HasSpots : Inspection → List (List ℕ) → List (List ℤ) → Level → Type 0
HasSpots x owners store level = x.spots ≡ map (spot_met x.facts owners) (indexes_of x.facts store level x.me)

-- the values that are known as those of a level are fetched
abbrev pub AreKnown : LoopFacts → List (List ℤ) → ℕ → Level → List ℤ → Type 0
AreKnown f store p First values = Unit {0}
AreKnown f store p Second values = values ≡ firsts_of f store p

-- before a round of asking for places
abbrev pub InRound : Inspection → List (List ℕ) → List (List ℤ) → Asking → Type 0
InRound x owners store (Indexes level) = AreKnown x.facts store x.me level x.values
InRound x owners store Homes = HasValues x store × HasNoOffence x store
InRound x owners store References = HasNoOffence x store × (x.rows ≡ rows_of x.facts owners store x.me)

-- in it, the asks for just the references whose places are asked for
abbrev pub IsSeeking : Inspection → List (List ℕ) → List (List ℤ) → Asking → Type 0
IsSeeking x owners store asking = IsAsked x.facts (uses_wanted x.facts owners store asking x.me) x.asked × InRound x owners store asking

abbrev pub InHand : Inspection → List (List ℕ) → List (List ℤ) → List Stamps → Stage → Type 0
InHand x owners store tables (Seeking asking) = IsSeeking x owners store asking
InHand x owners store tables (Telling asking asked) = IsSeeking x owners store asking
    × (asked ≡ owed_in x.facts owners store (DerefAsk asking) x.me)
InHand x owners store tables (Fetching level) = HasSpots x owners store level × AreKnown x.facts store x.me level x.values
InHand x owners store tables (Answering level asked) = (HasSpots x owners store level × AreKnown x.facts store x.me level x.values)
    × (asked ≡ owed_in x.facts owners store (IndexAsk level) x.me)
InHand x owners store tables Voting = HasValues x store
InHand x owners store tables (Refused offence) = offence_of x.facts.arrays x.facts.site x.facts.turn store ≡ Some offence
InHand x owners store tables (Homing told) = HasValues x store × HasNoOffence x store
    × (told ≡ places_asked x.facts owners store Homes x.me)
InHand x owners store tables (Entered entering) = HasNoOffence x store × IsEntering x.facts owners store x.me tables entering
InHand x owners store tables (Ready prepared) =
    HasNoOffence x store × Fits x.facts owners store (slots_entered x.facts tables) x.me prepared
    × IsEntered x.facts owners store x.me tables

-- the loop is one of a checked program with so few arrays
pub record IsInspected (f : LoopFacts) : Type 0 where
  pub accepted : IsAccepted f
  pub few : length f.arrays ≤ 64

-- the inspection of this loop on this node has come to its stage
pub record IsInspecting (x : Inspection) (owners : List (List ℕ)) (store : List (List ℤ)) (tables : List Stamps) : Type 0 where
  pub loop : IsInspected x.facts
  pub owned : AreOwners x.facts owners
  pub node : x.me < x.facts.nodes
  pub mine : x.mine ≡ inspected_by x.facts x.me
  pub hand : InHand x owners store tables x.stage

-- the same loop on the same node, and all as before where memory is wanting
pub record IsSame {T E : Type 0} (old new : Inspection) (result : Result T E) : Type 0 where
  pub facts : new.facts ≡ old.facts
  pub me : new.me ≡ old.me
  pub err : OnErr result (new ≡ old)

-- and the tables keep other loops' stamps
pub record StaysKept {T E : Type 0} (old new : Inspection) (before after : List Stamps) (result : Result T E) : Type 0 where
  pub same : IsSame old new result
  pub others : KeepsOtherStamps old.facts before after
  pub count : length after ≡ length before

-- the tables are those of the loop's decompositions
pub record IsGiven (f : LoopFacts) (all : List Stamps) : Type 0 where
  pub accepted : IsAccepted f
  pub tables : length all ≡ length f.layouts

-- these are the letters that the node sends in the phase that is due, and those that it is owed
abbrev pub IsDue : Inspection → List (List ℕ) → List (List ℤ) → List (List ℤ) → Type 0
IsDue x owners store lists = IfSome (phase_of x.stage) (λ l. lists ≡ sent_in x.facts owners store l x.me)

abbrev pub IsOwed : Inspection → List (List ℕ) → List (List ℤ) → List (List ℤ) → Type 0
IsOwed x owners store lists = IfSome (phase_of x.stage) (λ l. lists ≡ owed_in x.facts owners store l x.me)

-- ---- from stage to stage

-- where the inspection begins: places of index references are asked for, or their values, or there are none
abbrev pub first_stage : Bool → Bool → Stage
first_stage asks has = if asks then Seeking (Indexes First) else if has then Fetching First else Voting

-- into a round of fetching, if there is anything to ask for in it, else past it
abbrev pub phase_into : Bool → Bool → Level → LoopPhase → LoopPhase
phase_into asks has level next = if asks then DerefAsk (Indexes level) else if has then IndexAsk level else next

abbrev pub second_phase : LoopFacts → LoopPhase
second_phase f = phase_into (asks_places f (Indexes Second)) (has_level f Second) Second Vote

abbrev pub first_phase : LoopFacts → LoopPhase
first_phase f = phase_into (asks_places f (Indexes First)) (has_level f First) First (second_phase f)

-- the phase that follows one of an inspection, where no node has an offence: `second` follows the first round of fetching; places of
-- the references that tell homes are asked for or not, and those of other references
abbrev pub phase_behind : LoopPhase → Bool → Bool → LoopPhase → Option LoopPhase
phase_behind second homes references (DerefAsk asking) = Some (DerefAnswer asking)
phase_behind second homes references (DerefAnswer (Indexes level)) = Some (IndexAsk level)
phase_behind second homes references (DerefAnswer Homes) = Some Iterations
phase_behind second homes references (DerefAnswer References) = Some ScheduleAsk
phase_behind second homes references (IndexAsk level) = Some (IndexValues level)
phase_behind second homes references (IndexValues First) = Some second
phase_behind second homes references (IndexValues Second) = Some Vote
phase_behind second homes references Vote = Some (if homes then DerefAsk Homes else Iterations)
phase_behind second homes references Iterations = Some (if references then DerefAsk References else ScheduleAsk)
phase_behind second homes references ScheduleAsk = None
phase_behind second homes references Gather = None
phase_behind second homes references Scatter = None

abbrev pub phase_after : LoopFacts → LoopPhase → Option LoopPhase
phase_after f phase = phase_behind (second_phase f) (asks_places f Homes) (asks_places f References) phase

-- the stage is one without an offence, of the phase that follows
abbrev pub Follows : LoopFacts → LoopPhase → Stage → Type 0
Follows f phase stage = (offence_in stage ≡ None) × (phase_of stage ≡ phase_after f phase)

-- the stage is that of the phase that follows, or no phase follows where there is an offence
abbrev pub IsNext : LoopFacts → Stage → Stage → Type 0
IsNext f before after = phase_of after ≡ (if is_some (offence_in after) then None else option_and_then (phase_after f) (phase_of before))

-- the vote alone tells an offence
abbrev pub IsVoted : Stage → Stage → Type 0
IsVoted Voting after = Unit {0}
IsVoted (Refused offence) after = Unit {0}
IsVoted before after = offence_in after ≡ None

-- ---- the end

abbrev pub IsReady : Stage → Type 0
IsReady (Ready prepared) = Unit {0}
IsReady _ = ⊥

abbrev pub prepared_in : Stage → Option Prepared
prepared_in (Ready prepared) = Some prepared
prepared_in _ = None
