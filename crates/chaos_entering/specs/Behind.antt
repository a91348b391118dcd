-- The stages of a FORALL that follow a phase of its inspection.
use Rattle.std.specs.Prelude.{◌≡◌, refl, ◌+◌, Bool, true, false, if◌then◌else◌, List, [], ◌∷◌, ◌++◌, map, Some, None}
use Rattle.std.proofs.Common.{ap, subst, ◌∙◌}
use Rattle.plan_run.specs.Phases.{loop_stages}
use Rattle.chaos_inspect.specs.PhaseLaws.{indexes_from}
use Rattle.chaos_inspect.specs.Inspecting.{first_phase, phase_after, phase_into, second_phase}
use Rattle.fd_program.specs.declared.loop_facts.LoopFacts.{LoopFacts}
use Rattle.plan_loop.specs.LoopLetters.{asking_phases, asks_places, executor_phases, has_level, phases_from_vote}
use Rattle.plan_loop.specs.LoopLetters.{round_phases}
use Rattle.plan_loop.specs.declared.loop_phase.Asking.TheVariants.{Indexes, Homes, References}
use Rattle.plan_loop.specs.declared.loop_phase.Level.{Level}
use Rattle.plan_loop.specs.declared.loop_phase.Level.TheVariants.{First, Second}
use Rattle.plan_loop.specs.declared.loop_phase.LoopPhase.{LoopPhase}
use Rattle.plan_loop.specs.declared.loop_phase.LoopPhase.TheVariants as phase
use Rattle.plan_run.specs.declared.stage.Stage.{Stage}
use Rattle.plan_run.specs.declared.stage.Stage.TheVariants as stage

-- those that follow a round of fetching
abbrev pub behind_round : LoopFacts → Level → List LoopPhase
behind_round f First = round_phases f Second ++ phase.Vote ∷ phases_from_vote f
behind_round f Second = phase.Vote ∷ phases_from_vote f

-- the phases of an inspection that follow a phase, where the vote has no offence
abbrev pub phases_behind : LoopFacts → LoopPhase → List LoopPhase
phases_behind f (phase.DerefAsk (Indexes level)) =
    phase.DerefAnswer (Indexes level) ∷ phase.IndexAsk level ∷ phase.IndexValues level ∷ behind_round f level
phases_behind f (phase.DerefAnswer (Indexes level)) = phase.IndexAsk level ∷ phase.IndexValues level ∷ behind_round f level
phases_behind f (phase.IndexAsk level) = phase.IndexValues level ∷ behind_round f level
phases_behind f (phase.IndexValues level) = behind_round f level
phases_behind f phase.Vote = phases_from_vote f
phases_behind f (phase.DerefAsk Homes) = phase.DerefAnswer Homes ∷ phase.Iterations ∷ asking_phases f References ++ phase.ScheduleAsk ∷ []
phases_behind f (phase.DerefAnswer Homes) = phase.Iterations ∷ asking_phases f References ++ phase.ScheduleAsk ∷ []
phases_behind f phase.Iterations = asking_phases f References ++ phase.ScheduleAsk ∷ []
phases_behind f (phase.DerefAsk References) = phase.DerefAnswer References ∷ phase.ScheduleAsk ∷ []
phases_behind f (phase.DerefAnswer References) = phase.ScheduleAsk ∷ []
phases_behind f phase.ScheduleAsk = []
phases_behind f phase.Gather = []
phases_behind f phase.Scatter = []

-- the stages of the step that follow it
abbrev pub stages_behind : LoopFacts → LoopPhase → List Stage
stages_behind f l = map stage.InLoop (phases_behind f l ++ executor_phases)

-- ---- one after another

some_of : {A : Type 0} (P : A → Type 0) (x y : A) → Some x ≡ Some y → P x → P y
some_of P x y e h = subst P (let same : x ≡ y = cc in same) h

behind_vote : (f : LoopFacts) (b : Bool)
    → (if b then phase.DerefAsk Homes ∷ phase.DerefAnswer Homes ∷ [] else []) ++ phase.Iterations ∷ [] ++ asking_phases f References
    ++ phase.ScheduleAsk ∷ []
    ≡ (if b then phase.DerefAsk Homes else phase.Iterations) ∷ phases_behind f (if b then phase.DerefAsk Homes else phase.Iterations)
behind_vote f true = refl
behind_vote f false = refl

behind_rows : (f : LoopFacts) (b : Bool)
    → (if b then phase.DerefAsk References ∷ phase.DerefAnswer References ∷ [] else []) ++ phase.ScheduleAsk ∷ []
    ≡ (if b then phase.DerefAsk References else phase.ScheduleAsk) ∷ phases_behind f (if b then phase.DerefAsk References
    else phase.ScheduleAsk)
behind_rows f true = refl
behind_rows f false = refl

-- a round of fetching, where this is the next phase behind it
into_round : (f : LoopFacts) (level : Level) (next : LoopPhase) → behind_round f level ≡ next ∷ phases_behind f next
    → round_phases f level ++ behind_round f level
    ≡ phase_into (asks_places f (Indexes level)) (has_level f level) level next
    ∷ phases_behind f (phase_into (asks_places f (Indexes level)) (has_level f level) level next)
into_round f level next follows =
    by (asks_places f (Indexes level)) (has_level f level) (indexes_from f level 1 f.site.references)
  where
    by : (a h : Bool) → (a ≡ true → h ≡ true)
        → ((if a then phase.DerefAsk (Indexes level) ∷ phase.DerefAnswer (Indexes level) ∷ [] else [])
        ++ (if h then phase.IndexAsk level ∷ phase.IndexValues level ∷ [] else [])) ++ behind_round f level
        ≡ phase_into a h level next ∷ phases_behind f (phase_into a h level next)
    by true true e = refl
    by true false e = absurd (none (e refl))
      where
        none : false ≡ true → ⊥
        none e = cc
    by false true e = refl
    by false false e = follows

into_second : (f : LoopFacts) → behind_round f First ≡ second_phase f ∷ phases_behind f (second_phase f)
into_second f = into_round f Second phase.Vote refl

-- the phase that follows is the first of those behind
pub phases_go_on : (f : LoopFacts) (l next : LoopPhase) → phase_after f l ≡ Some next → phases_behind f l ≡ next ∷ phases_behind f next
phases_go_on f (phase.DerefAsk (Indexes level)) next e =
    some_of (λ x. phases_behind f (phase.DerefAsk (Indexes level)) ≡ x ∷ phases_behind f x) (phase.DerefAnswer (Indexes level)) next e refl
phases_go_on f (phase.DerefAsk Homes) next e = some_of (λ x. phases_behind f (phase.DerefAsk Homes) ≡ x ∷ phases_behind f x)
    (phase.DerefAnswer Homes) next e refl
phases_go_on f (phase.DerefAsk References) next e = some_of (λ x. phases_behind f (phase.DerefAsk References) ≡ x ∷ phases_behind f x)
    (phase.DerefAnswer References) next e refl
phases_go_on f (phase.DerefAnswer (Indexes level)) next e =
    some_of (λ x. phases_behind f (phase.DerefAnswer (Indexes level)) ≡ x ∷ phases_behind f x) (phase.IndexAsk level) next e refl
phases_go_on f (phase.DerefAnswer Homes) next e = some_of (λ x. phases_behind f (phase.DerefAnswer Homes) ≡ x ∷ phases_behind f x)
    phase.Iterations next e refl
phases_go_on f (phase.DerefAnswer References) next e = some_of (λ x. phases_behind f (phase.DerefAnswer References) ≡ x
    ∷ phases_behind f x) phase.ScheduleAsk next e refl
phases_go_on f (phase.IndexAsk level) next e =
    some_of (λ x. phases_behind f (phase.IndexAsk level) ≡ x ∷ phases_behind f x) (phase.IndexValues level) next e refl
phases_go_on f (phase.IndexValues First) next e =
    some_of (λ x. phases_behind f (phase.IndexValues First) ≡ x ∷ phases_behind f x) (second_phase f) next e (into_second f)
phases_go_on f (phase.IndexValues Second) next e =
    some_of (λ x. phases_behind f (phase.IndexValues Second) ≡ x ∷ phases_behind f x) phase.Vote next e refl
phases_go_on f phase.Vote next e =
    some_of (λ x. phases_behind f phase.Vote ≡ x ∷ phases_behind f x) (if asks_places f Homes then phase.DerefAsk Homes
    else phase.Iterations) next e (behind_vote f (asks_places f Homes))
phases_go_on f phase.Iterations next e =
    some_of (λ x. phases_behind f phase.Iterations ≡ x ∷ phases_behind f x) (if asks_places f References then phase.DerefAsk References
    else phase.ScheduleAsk) next e
    (behind_rows f (asks_places f References))
phases_go_on f phase.ScheduleAsk next e = cc
phases_go_on f phase.Gather next e = cc
phases_go_on f phase.Scatter next e = cc

-- none is behind the last
pub phases_end : (f : LoopFacts) (l : LoopPhase) → phase_after f l ≡ None → phases_behind f l ≡ []
phases_end f (phase.DerefAnswer (Indexes level)) e = cc
phases_end f (phase.DerefAnswer Homes) e = cc
phases_end f (phase.DerefAnswer References) e = cc
phases_end f phase.ScheduleAsk e = refl
phases_end f phase.Gather e = refl
phases_end f phase.Scatter e = refl
phases_end f (phase.IndexValues First) e = cc
phases_end f (phase.IndexValues Second) e = cc
phases_end f l e = cc

pub stages_go_on : (f : LoopFacts) (l next : LoopPhase) → phase_after f l ≡ Some next → stages_behind f l ≡ stage.InLoop next
    ∷ stages_behind f next
stages_go_on f l next e = ap (λ ls. map stage.InLoop (ls ++ executor_phases)) (phases_go_on f l next e)

pub stages_end : (f : LoopFacts) (l : LoopPhase) → phase_after f l ≡ None → stages_behind f l ≡ stage.InLoop phase.Gather
    ∷ stage.InLoop phase.Scatter ∷ []
stages_end f l e = ap (λ ls. map stage.InLoop (ls ++ executor_phases)) (phases_end f l e)

-- ---- from the first on

vote_in_turn : (xs ys zs : List LoopPhase) → ((xs ++ ys) ++ phase.Vote ∷ []) ++ zs ≡ xs ++ (ys ++ phase.Vote ∷ zs)
vote_in_turn [] [] zs = refl
vote_in_turn [] (y ∷ ys) zs = ap (λ l. y ∷ l) (vote_in_turn [] ys zs)
vote_in_turn (x ∷ xs) ys zs = ap (λ l. x ∷ l) (vote_in_turn xs ys zs)

-- an inspection begins with its first phase
pub inspection_from_first : (f : LoopFacts) → loop_stages f true ≡ stage.InLoop (first_phase f) ∷ stages_behind f (first_phase f)
inspection_from_first f =
    ap (λ ls. map stage.InLoop (ls ++ executor_phases))
    (vote_in_turn (round_phases f First) (round_phases f Second) (phases_from_vote f)
    ∙ into_round f First (second_phase f) (into_second f))
