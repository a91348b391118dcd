-- What is read from the stages of a step, where most of them tell nothing; and what that makes of the steps of a run.
use Rattle.std.specs.Prelude.{◌≡◌, refl, ℕ, suc, ◌<◌, ◌≤◌, ℤ, Bool, true, false, ◌&&◌, ◌||◌, ◌==◌, if◌then◌else◌, cond, List, [], ◌∷◌, ◌++◌}
use Rattle.std.specs.Prelude.{length, map, filter, flat_map, Option, Some, None}
use Rattle.std.specs.List.{list_any}
use Rattle.std.specs.Option.{option_map_or}
use Rattle.std.proofs.Common.{ap, sym, ◌∙◌, subst, arith, append_assoc, append-nil}
use Rattle.std.proofs.lemmas.Bool.{eqb-true}
use Rattle.std.proofs.lemmas.Bool.Decides.{nat_tests}
use Rattle.chaos_dist.specs.declared.step_form.StepForm.{StepForm}
use Rattle.chaos_dist.specs.declared.step_form.StepForm.TheVariants.{Regular, Map}
use Rattle.chaos_letter.specs.declared.kind.Kind.{Kind}
use Rattle.chaos_letter.specs.declared.kind.Kind.TheVariants as kind
use Rattle.chaos_letter.specs.declared.letter.Letter.{Letter}
use Rattle.fd_program.specs.declared.checked.Checked.{Checked}
use Rattle.fd_program.specs.declared.loop_facts.HomeRule.{HomeRule}
use Rattle.fd_program.specs.declared.loop_facts.LoopFacts.{LoopFacts}
use Rattle.fd_program.specs.declared.trace.Step.{Step}
use Rattle.plan_loop.specs.LoopLetters.{asks_places, asking_phases, has_level, fetching_phases, round_phases, phases_to_vote}
use Rattle.plan_loop.specs.LoopLetters.{phases_from_vote, executor_phases}
use Rattle.plan_loop.specs.declared.loop_phase.Asking.{Asking}
use Rattle.plan_loop.specs.declared.loop_phase.Asking.TheVariants.{Indexes, Homes, References}
use Rattle.plan_loop.specs.declared.loop_phase.Level.{Level}
use Rattle.plan_loop.specs.declared.loop_phase.Level.TheVariants.{First, Second}
use Rattle.plan_loop.specs.declared.loop_phase.LoopPhase.{LoopPhase}
use Rattle.plan_loop.specs.declared.loop_phase.LoopPhase.TheVariants as phase
use Rattle.plan_run.specs.Phases.{moving_stages, loop_stages, kind_of}
use Rattle.plan_run.specs.declared.stage.Stage.{Stage}
use Rattle.plan_run.specs.declared.stage.Stage.TheVariants as stage
use Rattle.plan_letters.specs.Carried.{is_kind, is_of, stands, executions, places_in, carried, step_at, is_at, numbers_where}
use Rattle.plan_letters.specs.PhaseReading.{Reading, of_step, of_steps}
use Rattle.plan_letters.specs.RunReading.{IsQuiet}
use Rattle.plan_run.specs.OwnerLaws.{equals_itself}

-- ---- the stages of a step

-- `r` reads nothing from a move
pub record QuietMoves (X : Type 0) (r : Stage → List X) : Type 0 where
  pub pairs : (array : ℕ) → r (stage.MapPairs array) ≡ []
  pub counts : r stage.PageCounts ≡ []
  pub asks : r stage.MovingAsk ≡ []
  pub answers : r stage.MovingAnswer ≡ []
  pub remap : r stage.Remap ≡ []

-- nor from an inspection but its vote
pub record QuietInspection (X : Type 0) (r : Stage → List X) : Type 0 where
  pub asks : (a : Asking) → r (stage.InLoop (phase.DerefAsk a)) ≡ []
  pub answers : (a : Asking) → r (stage.InLoop (phase.DerefAnswer a)) ≡ []
  pub index_asks : (level : Level) → r (stage.InLoop (phase.IndexAsk level)) ≡ []
  pub index_values : (level : Level) → r (stage.InLoop (phase.IndexValues level)) ≡ []
  pub iterations : r (stage.InLoop phase.Iterations) ≡ []
  pub schedules : r (stage.InLoop phase.ScheduleAsk) ≡ []

skip : {X : Type 0} (xs ys : List X) → xs ≡ [] → xs ++ ys ≡ ys
skip xs ys e = ap (λ l. l ++ ys) e

pub moves_tell_nothing : (X : Type 0) (r : Stage → List X) → QuietMoves X r → (b : Bool) (form : StepForm)
    → flat_map r (if b then [] else moving_stages form) ≡ []
moves_tell_nothing X r quiet true form = refl
moves_tell_nothing X r quiet false (Regular shape) = skip (r stage.Remap) [] quiet.remap
moves_tell_nothing X r quiet false (Map array) =
    skip (r (stage.MapPairs array)) _ (quiet.pairs array) ∙ skip (r stage.PageCounts) _ quiet.counts ∙ skip (r stage.MovingAsk) _ quiet.asks
    ∙ skip (r stage.MovingAnswer) _ quiet.answers ∙ skip (r stage.Remap) [] quiet.remap

-- what is read from phases of a FORALL
abbrev in_loop : (X : Type 0) → (Stage → List X) → List LoopPhase → List X
in_loop X r phases = flat_map r (map stage.InLoop phases)

loop_joined : (X : Type 0) (r : Stage → List X) (xs ys : List LoopPhase) → in_loop X r (xs ++ ys) ≡ in_loop X r xs ++ in_loop X r ys
loop_joined X r [] ys = refl
loop_joined X r (x ∷ xs) ys =
    ap (λ l. r (stage.InLoop x) ++ l) (loop_joined X r xs ys) ∙ sym (append_assoc (r (stage.InLoop x)) (in_loop X r xs) (in_loop X r ys))

asking_tells_nothing : (X : Type 0) (r : Stage → List X) → QuietInspection X r → (f : LoopFacts) (a : Asking)
    → in_loop X r (asking_phases f a) ≡ []
asking_tells_nothing X r quiet f a = by (asks_places f a)
  where
    by : (b : Bool) → in_loop X r (if b then phase.DerefAsk a ∷ phase.DerefAnswer a ∷ [] else []) ≡ []
    by true = skip (r (stage.InLoop (phase.DerefAsk a))) _ (quiet.asks a) ∙ skip (r (stage.InLoop (phase.DerefAnswer a))) []
        (quiet.answers a)
    by false = refl

fetching_tells_nothing : (X : Type 0) (r : Stage → List X) → QuietInspection X r → (f : LoopFacts) (level : Level)
    → in_loop X r (fetching_phases f level) ≡ []
fetching_tells_nothing X r quiet f level = by (has_level f level)
  where
    by : (b : Bool) → in_loop X r (if b then phase.IndexAsk level ∷ phase.IndexValues level ∷ [] else []) ≡ []
    by true = skip (r (stage.InLoop (phase.IndexAsk level))) _ (quiet.index_asks level)
        ∙ skip (r (stage.InLoop (phase.IndexValues level))) [] (quiet.index_values level)
    by false = refl

-- behind phases that tell nothing
behind_nothing : (X : Type 0) (r : Stage → List X) (xs ys : List LoopPhase) → in_loop X r xs ≡ [] → in_loop X r (xs ++ ys) ≡ in_loop X r ys
behind_nothing X r xs ys e = loop_joined X r xs ys ∙ skip (in_loop X r xs) (in_loop X r ys) e

round_tells_nothing : (X : Type 0) (r : Stage → List X) → QuietInspection X r → (f : LoopFacts) (level : Level)
    → in_loop X r (round_phases f level) ≡ []
round_tells_nothing X r quiet f level =
    behind_nothing X r (asking_phases f (Indexes level)) (fetching_phases f level) (asking_tells_nothing X r quiet f (Indexes level))
    ∙ fetching_tells_nothing X r quiet f level

pub vote_tells : (X : Type 0) (r : Stage → List X) → QuietInspection X r → (f : LoopFacts) → in_loop X r (phases_to_vote f)
    ≡ r (stage.InLoop phase.Vote)
vote_tells X r quiet f =
    behind_nothing X r (round_phases f First ++ round_phases f Second) (phase.Vote ∷ [])
    (behind_nothing X r (round_phases f First) (round_phases f Second) (round_tells_nothing X r quiet f First)
    ∙ round_tells_nothing X r quiet f Second)
    ∙ append-nil (r (stage.InLoop phase.Vote))

preparing_tells_nothing : (X : Type 0) (r : Stage → List X) → QuietInspection X r → (f : LoopFacts) → in_loop X r (phases_from_vote f) ≡ []
preparing_tells_nothing X r quiet f =
    let homes = asking_phases f Homes in
    let references = asking_phases f References in
    let iterations : List LoopPhase = phase.Iterations ∷ [] in
    let schedules : List LoopPhase = phase.ScheduleAsk ∷ [] in
    let first : in_loop X r (homes ++ iterations) ≡ []
    = behind_nothing X r homes iterations (asking_tells_nothing X r quiet f Homes) ∙ skip (r (stage.InLoop phase.Iterations))
    [] quiet.iterations in
    behind_nothing X r ((homes ++ iterations) ++ references) schedules
    (behind_nothing X r (homes ++ iterations) references first ∙ asking_tells_nothing X r quiet f References)
    ∙ skip (r (stage.InLoop phase.ScheduleAsk)) [] quiet.schedules

pub loop_tells : (X : Type 0) (r : Stage → List X) → QuietInspection X r → (f : LoopFacts) (b : Bool)
    → flat_map r (loop_stages f b) ≡ (if b then r (stage.InLoop phase.Vote) else [])
    ++ (r (stage.InLoop phase.Gather) ++ (r (stage.InLoop phase.Scatter) ++ []))
loop_tells X r quiet f false = refl
loop_tells X r quiet f true =
    loop_joined X r (phases_to_vote f ++ phases_from_vote f) executor_phases
    ∙ ap (λ l. l ++ in_loop X r executor_phases)
    (loop_joined X r (phases_to_vote f) (phases_from_vote f) ∙ ap (λ l. in_loop X r (phases_to_vote f) ++ l)
    (preparing_tells_nothing X r quiet f)
    ∙ append-nil (in_loop X r (phases_to_vote f)) ∙ vote_tells X r quiet f)

-- ---- the steps of a run

-- where each step of which the test holds tells its number
pub numbers_are_told : (c : Checked) (nodes : ℕ) (rule : HomeRule) (h : Reading ℕ) (test : List Step → Step → Bool)
    → ((past : List Step) (step : Step) → of_step c nodes rule h past step ≡ (if test past step then length past ∷ [] else []))
    → (past : List Step) → of_steps c nodes rule h past ≡ numbers_where test past
numbers_are_told c nodes rule h test each [] = refl
numbers_are_told c nodes rule h test each (step ∷ past) =
    ap (λ l. l ++ of_step c nodes rule h past step) (numbers_are_told c nodes rule h test each past)
    ∙ ap (λ l. numbers_where test past ++ l) (each past step)

not_less : (n k : ℕ) → suc n ≤ k → (n == k) ≡ false
not_less n k less = grind (arith, nat_tests)

pub none_from : (past : List Step) (k : ℕ) → length past ≤ k → step_at past k ≡ None
none_from [] k most = refl
none_from (step ∷ past) k most =
    ap (λ b. if b then Some (step, past) else step_at past k) (not_less (length past) k most) ∙ none_from past k (omega (arith, most))

-- where the step with the number k alone tells something
pub one_step_tells : (X : Type 0) (c : Checked) (nodes : ℕ) (rule : HomeRule) (h : Reading X) (k : ℕ) (tells : Option (Step × List Step)
    → List X) → tells None ≡ []
    → ((past : List Step) (step : Step) → of_step c nodes rule h past step ≡ (if length past == k then tells (Some (step, past)) else []))
    → (past : List Step) → of_steps c nodes rule h past ≡ tells (step_at past k)
one_step_tells X c nodes rule h k tells none each [] = sym none
one_step_tells X c nodes rule h k tells none each (step ∷ past) =
    ap (λ l. l ++ of_step c nodes rule h past step) (one_step_tells X c nodes rule h k tells none each past)
    ∙ ap (λ l. tells (step_at past k) ++ l) (each past step) ∙ by (length past == k) refl
  where
    by : (b : Bool) → (length past == k) ≡ b
        → tells (step_at past k) ++ (if b then tells (Some (step, past)) else []) ≡ tells (if b then Some (step, past) else step_at past k)
    by true e =
        let same : length past ≡ k = eqb-true (length past) k e in
        ap (λ o. tells o ++ tells (Some (step, past))) (none_from past k (omega (arith, same)))
        ∙ ap (λ l. l ++ tells (Some (step, past))) none
    by false e = append-nil (tells (step_at past k))

-- ---- one step more

pub at_is_below : (test : List Step → Step → Bool) (past : List Step) (k : ℕ) → is_at test past k ≡ true → k < length past
at_is_below test [] k e = cc
at_is_below test (step ∷ past) k e = by (length past == k) refl e (at_is_below test past k)
  where
    by : (b : Bool) → (length past == k) ≡ b
        → option_map_or (λ (step, past). test past step) (if b then Some (step, past) else step_at past k) false ≡ true
        → (is_at test past k ≡ true → k < length past) → k < suc (length past)
    by true f e more = let same : length past ≡ k = eqb-true (length past) k f in omega (arith, same)
    by false f e more = omega (arith, more e)

greater : (n k : ℕ) → k < n → (n == k) ≡ false
greater n k less = grind (arith, nat_tests)

pub still_at : (test : List Step → Step → Bool) (past : List Step) (step : Step) (k : ℕ) → is_at test past k ≡ true
    → is_at test (step ∷ past) k ≡ true
still_at test past step k e =
    ap (λ b. option_map_or (λ (step, past). test past step) (if b then Some (step, past) else step_at past k) false)
    (greater (length past) k (at_is_below test past k e)) ∙ e

pub at_itself : (test : List Step → Step → Bool) (past : List Step) (step : Step) (k : ℕ) → k ≡ length past → test past step ≡ true
    → is_at test (step ∷ past) k ≡ true
at_itself test past step k same e =
    subst (λ n. is_at test (step ∷ past) n ≡ true) (sym same)
    (ap (λ b. option_map_or (λ (step, past). test past step) (if b then Some (step, past) else step_at past (length past)) false)
    (equals_itself (length past)) ∙ e)

-- a step that stands among them has the number of the steps before it
behind : (later past : List Step) (step : Step) → length past < length (later ++ step ∷ past)
behind [] past step = omega arith
behind (x ∷ later) past step = omega (arith, behind later past step)

pub step_is_at : (later past : List Step) (step : Step) → step_at (later ++ step ∷ past) (length past) ≡ Some (step, past)
step_is_at [] past step = ap (λ b. if b then Some (step, past) else step_at past (length past)) (equals_itself (length past))
step_is_at (x ∷ later) past step =
    ap (λ b. if b then Some (x, later ++ step ∷ past) else step_at (later ++ step ∷ past) (length past))
    (greater (length (later ++ step ∷ past)) (length past) (behind later past step))
    ∙ step_is_at later past step

any_joined : {A : Type 0} (f : A → Bool) (xs ys : List A) → list_any f (xs ++ ys) ≡ (list_any f xs || list_any f ys)
any_joined f [] ys = refl
any_joined f (x ∷ xs) ys = ap (λ b. f x || b) (any_joined f xs ys) ∙ by (f x)
  where
    by : (b : Bool) → (b || (list_any f xs || list_any f ys)) ≡ ((b || list_any f xs) || list_any f ys)
    by true = refl
    by false = refl

-- the number is among those of which the test holds, where it holds of its step
pub among_numbers : (test : List Step → Step → Bool) (past : List Step) (k : ℕ) → list_any (λ n. n == k) (numbers_where test past)
    ≡ is_at test past k
among_numbers test [] k = refl
among_numbers test (step ∷ past) k =
    any_joined (λ n. n == k) (numbers_where test past) (if test past step then length past ∷ [] else [])
    ∙ ap (λ b. b || list_any (λ n. n == k) (if test past step then length past ∷ [] else [])) (among_numbers test past k)
    ∙ one (test past step) ∙ by (length past == k) refl
  where
    one : (t : Bool) → (is_at test past k || list_any (λ n. n == k) (if t then length past ∷ [] else []))
        ≡ (is_at test past k || ((length past == k) && t))
    one true = ap (λ b. is_at test past k || b) (last (length past == k))
      where
        last : (b : Bool) → (b || false) ≡ (b && true)
        last true = refl
        last false = refl
    one false = ap (λ b. is_at test past k || b) (last (length past == k))
      where
        last : (b : Bool) → false ≡ (b && false)
        last true = refl
        last false = refl

    by : (b : Bool) → (length past == k) ≡ b
        → (is_at test past k || (b && test past step)) ≡ option_map_or (λ (step, past). test past step) (if b then Some (step, past)
        else step_at past k) false
    by true e =
        let same : length past ≡ k = eqb-true (length past) k e in
        ap (λ o. option_map_or (λ (step, past). test past step) o false || test past step) (none_from past k (omega (arith, same)))
    by false e = or_false (is_at test past k)
      where
        or_false : (b : Bool) → (b || false) ≡ b
        or_false true = refl
        or_false false = refl

-- ---- letters

abbrev pub execution_of : Kind → Letter → List ℕ
execution_of kind letter = if is_kind kind letter.kind then letter.execution ∷ [] else []

abbrev pub places_told : Kind → ℕ → Letter → List (ℤ × ℤ)
places_told kind k letter = if is_of kind k letter then places_in letter.numbers else []

-- what is read of a kind from a stage of step n
abbrev pub named : Kind → ℕ → Stage → List ℕ
named sort n stage = if is_kind sort (kind_of stage) then n ∷ [] else []

pub not_printed : (sort : Kind) → is_kind sort kind.Print ≡ false → IsQuiet (execution_of sort)
not_printed sort e letter printed = ap (λ k. if is_kind sort k then letter.execution ∷ [] else []) printed
    ∙ ap (λ b. if b then letter.execution ∷ [] else []) e

pub executions_read : (kind : Kind) (letters : List Letter) → executions kind letters ≡ flat_map (execution_of kind) letters
executions_read kind [] = refl
executions_read kind (x ∷ letters) = by (is_kind kind x.kind) (executions_read kind letters)
  where
    by : (b : Bool) → executions kind letters ≡ flat_map (execution_of kind) letters
        → map (λ (l : Letter). l.execution) (cond b (x ∷ filter (λ (l : Letter). is_kind kind l.kind) letters)
        (filter (λ (l : Letter). is_kind kind l.kind) letters))
        ≡ (if b then x.execution ∷ [] else []) ++ flat_map (execution_of kind) letters
    by true more = ap (λ l. x.execution ∷ l) more
    by false more = more

pub carried_read : (kind : Kind) (k : ℕ) (letters : List Letter) → carried kind k letters ≡ flat_map (places_told kind k) letters
carried_read kind k [] = refl
carried_read kind k (x ∷ letters) = by (is_of kind k x) (carried_read kind k letters)
  where
    by : (b : Bool) → carried kind k letters ≡ flat_map (places_told kind k) letters
        → flat_map (λ (l : Letter). places_in l.numbers) (cond b (x ∷ filter (is_of kind k) letters) (filter (is_of kind k) letters))
        ≡ (if b then places_in x.numbers else []) ++ flat_map (places_told kind k) letters
    by true more = ap (λ l. places_in x.numbers ++ l) more
    by false more = more

-- such a letter stands where its execution is named
pub stands_named : (kind : Kind) (k : ℕ) (letters : List Letter) → stands kind k letters ≡ list_any (λ n. n == k) (executions kind letters)
stands_named kind k [] = refl
stands_named kind k (x ∷ letters) = by (is_kind kind x.kind) (stands_named kind k letters)
  where
    by : (b : Bool) → stands kind k letters ≡ list_any (λ n. n == k) (executions kind letters)
        → ((b && (x.execution == k)) || stands kind k letters)
        ≡ list_any (λ n. n == k) (map (λ (l : Letter). l.execution) (cond b (x ∷ filter (λ (l : Letter). is_kind kind l.kind) letters)
        (filter (λ (l : Letter). is_kind kind l.kind) letters)))
    by true more = ap (λ b. (x.execution == k) || b) more
    by false more = more

-- where no such letter stands, nothing is carried
pub nothing_carried : (kind : Kind) (k : ℕ) (letters : List Letter) → stands kind k letters ≡ false → carried kind k letters ≡ []
nothing_carried kind k [] e = refl
nothing_carried kind k (x ∷ letters) e = by (is_of kind k x) e (nothing_carried kind k letters)
  where
    by : (b : Bool) → (b || stands kind k letters) ≡ false → (stands kind k letters ≡ false → carried kind k letters ≡ [])
        → flat_map (λ (l : Letter). places_in l.numbers) (cond b (x ∷ filter (is_of kind k) letters) (filter (is_of kind k) letters)) ≡ []
    by true e more = cc
    by false e more = more e
