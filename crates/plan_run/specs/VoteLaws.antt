-- A step that inspects has a vote, behind the stages that lead to it.
use Rattle.std.specs.Prelude.{◌≡◌, refl, Bool, true, false, not, ◌&&◌, if◌then◌else◌, List, [], ◌∷◌, ◌++◌, ℕ, map}
use Rattle.std.specs.List.{AllByRecursion}
use Rattle.std.proofs.Common.{ap, sym, subst}
use Rattle.fd_program.specs.ListLaws.{all_append, all_map}
use Rattle.fd_program.specs.Layouts.{facts_at}
use Rattle.fd_program.specs.Past.{inspects_at, inspects_step}
use Rattle.fd_program.specs.Trace.{is_empty_turn}
use Rattle.fd_program.specs.declared.checked.Checked.{Checked}
use Rattle.fd_program.specs.declared.loop_facts.HomeRule.{HomeRule}
use Rattle.fd_program.specs.declared.loop_facts.LoopFacts.{LoopFacts}
use Rattle.fd_program.specs.declared.trace.Step.{Step}
use Rattle.fd_program.specs.declared.trace.Step.TheVariants.{Distribute, Print, Forall}
use Rattle.plan_loop.specs.LoopLetters.{asks_places, asking_phases, has_level, fetching_phases, round_phases, phases_to_vote}
use Rattle.plan_loop.specs.LoopLetters.{phases_from_vote, executor_phases}
use Rattle.plan_loop.specs.declared.loop_phase.Asking.TheVariants.{Indexes}
use Rattle.plan_loop.specs.declared.loop_phase.Level.{Level}
use Rattle.plan_loop.specs.declared.loop_phase.Level.TheVariants.{First, Second}
use Rattle.plan_loop.specs.declared.loop_phase.LoopPhase.{LoopPhase}
use Rattle.plan_loop.specs.declared.loop_phase.LoopPhase.TheVariants as phase
use Rattle.plan_run.specs.Phases.{is_vote, loop_stages, stages_of}
use Rattle.plan_run.specs.declared.stage.Stage.{Stage}
use Rattle.plan_run.specs.declared.stage.Stage.TheVariants as stage

-- the stages of a step through its vote
abbrev pub stages_to_vote : Checked → ℕ → HomeRule → List Step → Step → List Stage
stages_to_vote c nodes rule past (Distribute decomposition form) = []
stages_to_vote c nodes rule past (Print array) = []
stages_to_vote c nodes rule past (Forall site turn) = map stage.InLoop (phases_to_vote (facts_at c nodes rule past site turn))

-- the stages of a step have a vote, and those through it are `through`
pub record HasVote (through stages : List Stage) : Type 0 where
  pub first : List Stage
  pub behind : List Stage
  pub all : stages ≡ first ++ stage.InLoop phase.Vote ∷ behind
  pub none : AllByRecursion (λ u. is_vote u ≡ false) first
  pub through_it : first ++ stage.InLoop phase.Vote ∷ [] ≡ through

-- stages with a vote, behind some without one
vote_behind : (before behind last : List LoopPhase) → map stage.InLoop (((before ++ phase.Vote ∷ []) ++ behind) ++ last)
    ≡ map stage.InLoop before ++ stage.InLoop phase.Vote ∷ map stage.InLoop (behind ++ last)
vote_behind [] behind last = refl
vote_behind (l ∷ ls) behind last = ap (λ rest. stage.InLoop l ∷ rest) (vote_behind ls behind last)

vote_last : (before : List LoopPhase) → map stage.InLoop before ++ stage.InLoop phase.Vote ∷ [] ≡ map stage.InLoop
    (before ++ phase.Vote ∷ [])
vote_last [] = refl
vote_last (l ∷ ls) = ap (λ rest. stage.InLoop l ∷ rest) (vote_last ls)

abbrev IsNoVote : LoopPhase → Type 0
IsNoVote l = is_vote (stage.InLoop l) ≡ false

-- a round of fetching has none
round_votes : (f : LoopFacts) (level : Level) → AllByRecursion IsNoVote (round_phases f level)
round_votes f level =
    all_append IsNoVote (asking_phases f (Indexes level)) (fetching_phases f level) (asks (asks_places f (Indexes level)))
    (fetches (has_level f level))
  where
    asks : (b : Bool)
        → AllByRecursion IsNoVote (if b then phase.DerefAsk (Indexes level) ∷ phase.DerefAnswer (Indexes level) ∷ [] else [])
    asks true = (refl, (refl, tt))
    asks false = tt

    fetches : (b : Bool) → AllByRecursion IsNoVote (if b then phase.IndexAsk level ∷ phase.IndexValues level ∷ [] else [])
    fetches true = (refl, (refl, tt))
    fetches false = tt

inspection_votes : (f : LoopFacts) → HasVote (map stage.InLoop (phases_to_vote f)) (loop_stages f true)
inspection_votes f =
    let rounds : List LoopPhase = round_phases f First ++ round_phases f Second in
    record {
      first = map stage.InLoop rounds;
      behind = map stage.InLoop (phases_from_vote f ++ executor_phases);
      all = vote_behind rounds (phases_from_vote f) executor_phases;
      none = all_map (λ u. is_vote u ≡ false) stage.InLoop rounds
          (all_append IsNoVote (round_phases f First) (round_phases f Second) (round_votes f First) (round_votes f Second));
      through_it = vote_last rounds;
    }

some_range : (a b : Bool) → (not a && b) ≡ true → a ≡ false
some_range false b e = refl
some_range true b e = cc

pub inspecting_votes : (c : Checked) (nodes : ℕ) (rule : HomeRule) (past : List Step) (step : Step) → inspects_step c past step ≡ true
    → HasVote (stages_to_vote c nodes rule past step) (stages_of c nodes rule past step)
inspecting_votes c nodes rule past (Distribute d form) e = cc
inspecting_votes c nodes rule past (Print array) e = cc
inspecting_votes c nodes rule past (Forall site turn) e =
    let f = facts_at c nodes rule past site turn in
    let through = map stage.InLoop (phases_to_vote f) in
    subst (λ b. HasVote through (if b then [] else loop_stages f (inspects_at c past site turn)))
    (sym (some_range (is_empty_turn turn) _ e))
    (subst (λ b. HasVote through (loop_stages f b)) (sym e) (inspection_votes f))
