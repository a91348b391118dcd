-- The letters of inspections stand where the executed steps inspect.
use Rattle.std.specs.Prelude.{◌≡◌, ◌≢◌, refl, ℕ, ℤ, Bool, true, false, not, ◌&&◌, ◌||◌, ◌==◌, ◌⊎◌, if◌then◌else◌, List, [], ◌∷◌, ◌++◌}
use Rattle.std.specs.Prelude.{length, flat_map, Option, Some, None}
use Rattle.std.specs.List.{AllByRecursion, list_any}
use Rattle.std.specs.Option.{option_map_or}
use Rattle.std.proofs.Common.{ap, sym, ◌∙◌, subst, append-nil, inl, inr}
use Rattle.std.proofs.lemmas.Bool.{eqb-true}
use Rattle.chaos_dist.specs.declared.step_form.StepForm.{StepForm}
use Rattle.chaos_dist.specs.declared.step_form.StepForm.TheVariants.{Regular, Map}
use Rattle.chaos_letter.specs.declared.kind.Kind.{Kind}
use Rattle.chaos_letter.specs.declared.kind.Kind.TheVariants as kind
use Rattle.fd_program.specs.Checks.{IsChecked}
use Rattle.fd_program.specs.Layouts.{scene_of, facts_at}
use Rattle.fd_program.specs.ListLaws.{all_append, all_weaker}
use Rattle.fd_program.specs.Past.{is_repeat, inspects_at, inspects_step, inspecting_of}
use Rattle.fd_program.specs.Reports.{executed_of, completed_of}
use Rattle.fd_program.specs.Runs.{run_of}
use Rattle.fd_program.specs.Trace.{is_empty_turn}
use Rattle.fd_program.specs.declared.checked.Checked.{Checked}
use Rattle.fd_program.specs.declared.loop_facts.HomeRule.{HomeRule}
use Rattle.fd_program.specs.declared.trace.LoopTurn.{LoopTurn}
use Rattle.fd_program.specs.declared.trace.Step.{Step}
use Rattle.fd_program.specs.declared.trace.Step.TheVariants.{Distribute, Print, Forall}
use Rattle.fd_program.specs.Met.{is_map}
use Rattle.plan_run.specs.Phases.{moving_stages, loop_stages, stages_of, kind_of, due_list}
use Rattle.plan_run.specs.VoteLaws.{stages_to_vote}
use Rattle.plan_run.specs.declared.stage.Stage.{Stage}
use Rattle.plan_letters.specs.Carried.{is_kind, stands, executions, step_at, is_at, numbers_where, moves_by_map, asks_step}
use Rattle.plan_letters.specs.PhaseReading.{Reading, of_step, of_steps, of_refused}
use Rattle.plan_letters.specs.RunReading.{read_letter, EndsIn, due_is_told}
use Rattle.plan_letters.specs.StepReading.{QuietMoves, QuietInspection, moves_tell_nothing, vote_tells, loop_tells, numbers_are_told}
use Rattle.plan_letters.specs.StepReading.{named, not_printed}
use Rattle.plan_letters.specs.StepReading.{still_at, at_itself, among_numbers, execution_of, executions_read, stands_named, step_is_at}

-- ---- statements

-- the executions that the votes name from p to q are the executed steps that inspect, each once and in order
abbrev pub VotesStand : Type 0
VotesStand =
    (c : Checked) (nodes : ℕ) (rule : HomeRule) (store : List (List ℤ)) (p q : ℕ) → IsChecked c → p ≢ q
    → executions kind.Vote (due_list c nodes rule store p q) ≡ inspecting_of c (executed_of (run_of c store))

-- so one of an execution stands there exactly where that step is executed and inspects
abbrev pub VoteStandsWhere : Type 0
VoteStandsWhere =
    (c : Checked) (nodes : ℕ) (rule : HomeRule) (store : List (List ℤ)) (p q k : ℕ) → IsChecked c → p ≢ q
    → stands kind.Vote k (due_list c nodes rule store p q) ≡ is_at (inspects_step c) (executed_of (run_of c store)) k

-- what inspections alone send, and what a DISTRIBUTE by a map sends too
abbrev pub is_inspection_kind : Kind → Bool
is_inspection_kind kind.IndexAsk = true
is_inspection_kind kind.IndexValues = true
is_inspection_kind kind.Vote = true
is_inspection_kind kind.Iterations = true
is_inspection_kind kind.ScheduleAsk = true
is_inspection_kind _ = false

abbrev pub is_place : Kind → Bool
is_place kind.DerefAsk = true
is_place kind.DerefAnswer = true
is_place _ = false

-- where another letter of an inspection stands, that step is executed and inspects
abbrev pub InspectionLettersStand : Type 0
InspectionLettersStand =
    (c : Checked) (nodes : ℕ) (rule : HomeRule) (store : List (List ℤ)) (p q k : ℕ) (sort : Kind) → IsChecked c → p ≢ q
    → is_inspection_kind sort ≡ true
    → stands sort k (due_list c nodes rule store p q) ≡ true → is_at (inspects_step c) (executed_of (run_of c store)) k ≡ true

-- where places are asked for or told, that step is executed, and inspects or is a DISTRIBUTE by a map that isn't a repeat
abbrev pub PlaceLettersStand : Type 0
PlaceLettersStand =
    (c : Checked) (nodes : ℕ) (rule : HomeRule) (store : List (List ℤ)) (p q k : ℕ) (sort : Kind) → IsChecked c → p ≢ q
    → is_place sort ≡ true
    → stands sort k (due_list c nodes rule store p q) ≡ true → is_at (asks_step c) (executed_of (run_of c store)) k ≡ true

-- so none of these stands where the step isn't executed, or neither inspects nor is such a DISTRIBUTE
abbrev pub is_asking : Kind → Bool
is_asking sort = is_inspection_kind sort || is_place sort

abbrev pub OthersAskNothing : Type 0
OthersAskNothing =
    (c : Checked) (nodes : ℕ) (rule : HomeRule) (store : List (List ℤ)) (p q k : ℕ) (sort : Kind) → IsChecked c → p ≢ q
    → is_asking sort ≡ true
    → is_at (asks_step c) (executed_of (run_of c store)) k ≡ false → stands sort k (due_list c nodes rule store p q) ≡ false

-- nor for an executed FORALL that doesn't inspect
abbrev pub LoopsAskNothing : Type 0
LoopsAskNothing =
    (c : Checked) (nodes : ℕ) (rule : HomeRule) (store : List (List ℤ)) (p q : ℕ) (later past : List Step) (site : ℕ) (turn : LoopTurn)
    (sort : Kind)
    → IsChecked c → p ≢ q → is_asking sort ≡ true → executed_of (run_of c store) ≡ later ++ Forall site turn ∷ past
    → inspects_at c past site turn ≡ false → stands sort (length past) (due_list c nodes rule store p q) ≡ false

-- ---- the executions that a stage names

same_numbers : (c : Checked) (past : List Step) → inspecting_of c past ≡ numbers_where (inspects_step c) past
same_numbers c [] = refl
same_numbers c (step ∷ past) = ap (λ l. l ++ (if inspects_step c past step then length past ∷ [] else [])) (same_numbers c past)

empty_or_not : (b i : Bool) → b ≡ true → (not b && i) ≡ false
empty_or_not true i e = refl
empty_or_not false i e = cc

-- ---- votes

vote_moves : (n : ℕ) → QuietMoves ℕ (named kind.Vote n)
vote_moves n = record { pairs = λ array. refl; counts = refl; asks = refl; answers = refl; remap = refl }

vote_inspection : (n : ℕ) → QuietInspection ℕ (named kind.Vote n)
vote_inspection n = record {
  asks = λ a. refl;
  answers = λ a. refl;
  index_asks = λ level. refl;
  index_values = λ level. refl;
  iterations = refl;
  schedules = refl;
}

votes_of_step : (c : Checked) (nodes : ℕ) (rule : HomeRule) (past : List Step) (step : Step) (n : ℕ)
    → flat_map (named kind.Vote n) (stages_of c nodes rule past step) ≡ (if inspects_step c past step then n ∷ [] else [])
votes_of_step c nodes rule past (Distribute d form) n = moves_tell_nothing ℕ (named kind.Vote n) (vote_moves n) (is_repeat c past d form)
    form
votes_of_step c nodes rule past (Print array) n = refl
votes_of_step c nodes rule past (Forall site turn) n = by (is_empty_turn turn) (inspects_at c past site turn)
    (λ e. empty_or_not (is_empty_turn turn) _ e)
  where
    by : (a i : Bool) → (a ≡ true → i ≡ false)
        → flat_map (named kind.Vote n) (if a then [] else loop_stages (facts_at c nodes rule past site turn) i) ≡ (if i then n ∷ [] else [])
    by true i h = ap (λ b. if b then n ∷ [] else []) (sym (h refl))
    by false i h =
        loop_tells ℕ (named kind.Vote n) (vote_inspection n) (facts_at c nodes rule past site turn) i
        ∙ append-nil (if i then n ∷ [] else [])

votes_of_refused : (c : Checked) (nodes : ℕ) (rule : HomeRule) (past : List Step) (step : Step) (n : ℕ) → inspects_step c past step ≡ true
    → flat_map (named kind.Vote n) (stages_to_vote c nodes rule past step) ≡ n ∷ []
votes_of_refused c nodes rule past (Distribute d form) n e = cc
votes_of_refused c nodes rule past (Print array) n e = cc
votes_of_refused c nodes rule past (Forall site turn) n e = vote_tells ℕ (named kind.Vote n) (vote_inspection n)
    (facts_at c nodes rule past site turn)

pub votes_stand : VotesStand
votes_stand c nodes rule store p q known apart =
    let h : Reading ℕ = read_letter (scene_of c nodes rule (run_of c store)) p q (execution_of kind.Vote) in
    let told = due_is_told ℕ c nodes rule store p q (execution_of kind.Vote) known apart (not_printed kind.Vote refl) in
    executions_read kind.Vote (due_list c nodes rule store p q) ∙ told.all
    ∙ ap (λ l. l ++ told.last)
    (numbers_are_told c nodes rule h (inspects_step c) (λ past step. votes_of_step c nodes rule past step (length past))
    (completed_of (run_of c store))
    ∙ sym (same_numbers c (completed_of (run_of c store))))
    ∙ by h (executed_of (run_of c store)) (completed_of (run_of c store)) told.last
    (λ past step e. votes_of_refused c nodes rule past step (length past) e) told.ends
  where
    by : (h : Reading ℕ) (executed done : List Step) (last : List ℕ)
        → ((past : List Step) (step : Step) → inspects_step c past step ≡ true → of_refused c nodes rule h past step ≡ length past ∷ [])
        → EndsIn ℕ c nodes rule h executed done last → inspecting_of c done ++ last ≡ inspecting_of c executed
    by h executed done last refused (inl e) = ap (λ l. inspecting_of c done ++ l) e.1 ∙ append-nil (inspecting_of c done)
        ∙ ap (inspecting_of c) (sym e.0)
    by h executed done last refused (inr e) =
        ap (λ l. inspecting_of c done ++ l) (e.3 ∙ refused done e.0 e.2 ∙ ap (λ b. if b then length done ∷ [] else []) (sym e.2))
        ∙ ap (inspecting_of c) (sym e.1)

pub vote_stands_where : VoteStandsWhere
vote_stands_where c nodes rule store p q k known apart =
    stands_named kind.Vote k (due_list c nodes rule store p q)
    ∙ ap (list_any (λ n. n == k)) (votes_stand c nodes rule store p q known apart ∙ same_numbers c (executed_of (run_of c store)))
    ∙ among_numbers (inspects_step c) (executed_of (run_of c store)) k

-- ---- where the letters of a kind stand

-- a step of which the test doesn't hold tells nothing
abbrev OnlyWhere : (List Step → Step → Bool) → Checked → ℕ → HomeRule → Kind → Type 0
OnlyWhere test c nodes rule sort = (past : List Step) (step : Step) (n : ℕ) → test past step ≡ false
    → flat_map (named sort n) (stages_of c nodes rule past step) ≡ []

all_named : (sort : Kind) (n : ℕ) (stages : List Stage) → AllByRecursion (λ k. k ≡ n) (flat_map (named sort n) stages)
all_named sort n [] = tt
all_named sort n (a ∷ stages) = all_append (λ k. k ≡ n) (named sort n a) (flat_map (named sort n) stages) (by (is_kind sort (kind_of a)))
    (all_named sort n stages)
  where
    by : (b : Bool) → AllByRecursion (λ k. k ≡ n) (if b then n ∷ [] else [])
    by true = (refl, tt)
    by false = tt

-- each number that is told is that of a step of which the test holds
all_at_step : (test : List Step → Step → Bool) (c : Checked) (nodes : ℕ) (rule : HomeRule) (sort : Kind)
    → OnlyWhere test c nodes rule sort → (past : List Step) (step : Step)
    → AllByRecursion (λ k. is_at test (step ∷ past) k ≡ true) (flat_map (named sort (length past)) (stages_of c nodes rule past step))
all_at_step test c nodes rule sort only past step = by (test past step) refl
  where
    by : (b : Bool) → test past step ≡ b → AllByRecursion (λ k. is_at test (step ∷ past) k ≡ true)
        (flat_map (named sort (length past)) (stages_of c nodes rule past step))
    by true e =
        all_weaker (λ k. k ≡ length past) (λ k. is_at test (step ∷ past) k ≡ true) (λ k same. at_itself test past step k same e) _
        (all_named sort (length past) (stages_of c nodes rule past step))
    by false e = subst (AllByRecursion (λ k. is_at test (step ∷ past) k ≡ true)) (sym (only past step (length past) e)) tt

all_of_steps : (test : List Step → Step → Bool) (c : Checked) (nodes : ℕ) (rule : HomeRule) (sort : Kind) (h : Reading ℕ)
    → ((past : List Step) (step : Step) → of_step c nodes rule h past step ≡ flat_map (named sort (length past))
    (stages_of c nodes rule past step))
    → OnlyWhere test c nodes rule sort → (past : List Step) → AllByRecursion (λ k. is_at test past k ≡ true) (of_steps c nodes rule h past)
all_of_steps test c nodes rule sort h each only [] = tt
all_of_steps test c nodes rule sort h each only (step ∷ past) =
    all_append (λ k. is_at test (step ∷ past) k ≡ true) (of_steps c nodes rule h past) (of_step c nodes rule h past step)
    (all_weaker (λ k. is_at test past k ≡ true) (λ k. is_at test (step ∷ past) k ≡ true) (λ k e. still_at test past step k e) _
    (all_of_steps test c nodes rule sort h each only past))
    (subst (AllByRecursion (λ k. is_at test (step ∷ past) k ≡ true)) (sym (each past step))
    (all_at_step test c nodes rule sort only past step))

any_of_all : (P : ℕ → Type 0) (k : ℕ) (ns : List ℕ) → AllByRecursion P ns → list_any (λ n. n == k) ns ≡ true → P k
any_of_all P k [] h e = cc
any_of_all P k (n ∷ ns) h e = by (n == k) refl e (any_of_all P k ns h.1)
  where
    by : (b : Bool) → (n == k) ≡ b → (b || list_any (λ n. n == k) ns) ≡ true → (list_any (λ n. n == k) ns ≡ true → P k) → P k
    by true f e more = subst P (eqb-true n k f) h.0
    by false f e more = more e

-- of a kind whose letters steps send only where the test holds, which holds where a step inspects
stand_only : (test : List Step → Step → Bool) (c : Checked) (nodes : ℕ) (rule : HomeRule) (store : List (List ℤ)) (p q k : ℕ)
    (sort : Kind) → IsChecked c → p ≢ q
    → is_kind sort kind.Print ≡ false → OnlyWhere test c nodes rule sort
    → ((past : List Step) (step : Step) → inspects_step c past step ≡ true → test past step ≡ true)
    → stands sort k (due_list c nodes rule store p q) ≡ true → is_at test (executed_of (run_of c store)) k ≡ true
stand_only test c nodes rule store p q k sort known apart printed only holds stand =
    let h : Reading ℕ = read_letter (scene_of c nodes rule (run_of c store)) p q (execution_of sort) in
    let told = due_is_told ℕ c nodes rule store p q (execution_of sort) known apart (not_printed sort printed) in
    let all : AllByRecursion (λ n. is_at test (executed_of (run_of c store)) n ≡ true)
    (of_steps c nodes rule h (completed_of (run_of c store)) ++ told.last)
    = by h (executed_of (run_of c store)) (completed_of (run_of c store)) told.last (λ past step. all_named sort (length past)
    (stages_to_vote c nodes rule past step))
    (all_of_steps test c nodes rule sort h (λ past step. refl) only (completed_of (run_of c store))) told.ends in
    any_of_all (λ n. is_at test (executed_of (run_of c store)) n ≡ true) k (executions sort (due_list c nodes rule store p q))
    (subst (AllByRecursion (λ n. is_at test (executed_of (run_of c store)) n ≡ true))
    (sym (executions_read sort (due_list c nodes rule store p q) ∙ told.all)) all)
    (sym (stands_named sort k (due_list c nodes rule store p q)) ∙ stand)
  where
    by : (h : Reading ℕ) (executed done : List Step) (last : List ℕ)
        → ((past : List Step) (step : Step) → AllByRecursion (λ n. n ≡ length past) (of_refused c nodes rule h past step))
        → AllByRecursion (λ n. is_at test done n ≡ true) (of_steps c nodes rule h done)
        → EndsIn ℕ c nodes rule h executed done last → AllByRecursion (λ n. is_at test executed n ≡ true) (of_steps c nodes rule h done
        ++ last)
    by h executed done last refused steps (inl e) =
        subst (λ past. AllByRecursion (λ n. is_at test past n ≡ true) (of_steps c nodes rule h done ++ last)) (sym e.0)
        (all_append (λ n. is_at test done n ≡ true) (of_steps c nodes rule h done) last steps
        (subst (AllByRecursion (λ n. is_at test done n ≡ true)) (sym e.1) tt))
    by h executed done last refused steps (inr e) =
        subst (λ past. AllByRecursion (λ n. is_at test past n ≡ true) (of_steps c nodes rule h done ++ last)) (sym e.1)
        (all_append (λ n. is_at test (e.0 ∷ done) n ≡ true) (of_steps c nodes rule h done) last
        (all_weaker (λ n. is_at test done n ≡ true) (λ n. is_at test (e.0 ∷ done) n ≡ true) (λ n at. still_at test done e.0 n at) _ steps)
        (subst (AllByRecursion (λ n. is_at test (e.0 ∷ done) n ≡ true)) (sym e.3)
        (all_weaker (λ n. n ≡ length done) (λ n. is_at test (e.0 ∷ done) n ≡ true) (λ n same. at_itself test done e.0 n same
        (holds done e.0 e.2)) _ (refused done e.0))))

-- ---- the laws

-- no other kind is one of these
not_inspecting : (sort other : Kind) → is_inspection_kind sort ≡ true → is_inspection_kind other ≡ false → is_kind sort other ≡ false
not_inspecting kind.IndexAsk kind.IndexAsk e f = cc
not_inspecting kind.IndexAsk _ e f = refl
not_inspecting kind.IndexValues kind.IndexValues e f = cc
not_inspecting kind.IndexValues _ e f = refl
not_inspecting kind.Vote kind.Vote e f = cc
not_inspecting kind.Vote _ e f = refl
not_inspecting kind.Iterations kind.Iterations e f = cc
not_inspecting kind.Iterations _ e f = refl
not_inspecting kind.ScheduleAsk kind.ScheduleAsk e f = cc
not_inspecting kind.ScheduleAsk _ e f = refl
not_inspecting _ _ e f = cc

not_place : (sort other : Kind) → is_place sort ≡ true → is_place other ≡ false → is_kind sort other ≡ false
not_place kind.DerefAsk kind.DerefAsk e f = cc
not_place kind.DerefAsk _ e f = refl
not_place kind.DerefAnswer kind.DerefAnswer e f = cc
not_place kind.DerefAnswer _ e f = refl
not_place _ _ e f = cc

unnamed : (n : ℕ) (b : Bool) → b ≡ false → (if b then n ∷ [] else []) ≡ []
unnamed n b e = ap (λ b. if b then n ∷ [] else []) e

both_nothing : (xs ys : List ℕ) → xs ≡ [] → ys ≡ [] → xs ++ ys ≡ []
both_nothing xs ys e f = ap (λ l. l ++ ys) e ∙ f

-- a loop that doesn't inspect
quiet_loop : (c : Checked) (nodes : ℕ) (rule : HomeRule) (past : List Step) (site : ℕ) (turn : LoopTurn) (sort : Kind) (n : ℕ)
    → is_kind sort kind.Gather ≡ false → is_kind sort kind.Scatter ≡ false → inspects_at c past site turn ≡ false
    → flat_map (named sort n) (stages_of c nodes rule past (Forall site turn)) ≡ []
quiet_loop c nodes rule past site turn sort n gather scatter e =
    ap (λ i. flat_map (named sort n) (if is_empty_turn turn then [] else loop_stages (facts_at c nodes rule past site turn) i)) e
    ∙ by (is_empty_turn turn)
  where
    by : (b : Bool) → flat_map (named sort n) (if b then [] else loop_stages (facts_at c nodes rule past site turn) false) ≡ []
    by true = refl
    by false = both_nothing _ _ (unnamed n _ gather) (both_nothing _ [] (unnamed n _ scatter) refl)

inspections_alone : (c : Checked) (nodes : ℕ) (rule : HomeRule) (sort : Kind) → is_inspection_kind sort ≡ true
    → OnlyWhere (inspects_step c) c nodes rule sort
inspections_alone c nodes rule sort its past (Distribute d form) n e =
    moves_tell_nothing ℕ (named sort n)
    (record {
      pairs = λ array. unnamed n _ (not_inspecting sort kind.MapPairs its refl);
      counts = unnamed n _ (not_inspecting sort kind.PageCounts its refl);
      asks = unnamed n _ (not_inspecting sort kind.DerefAsk its refl);
      answers = unnamed n _ (not_inspecting sort kind.DerefAnswer its refl);
      remap = unnamed n _ (not_inspecting sort kind.Remap its refl);
    })
    (is_repeat c past d form) form
inspections_alone c nodes rule sort its past (Print array) n e =
    both_nothing _ [] (unnamed n _ (not_inspecting sort kind.Print its refl)) refl
inspections_alone c nodes rule sort its past (Forall site turn) n e =
    quiet_loop c nodes rule past site turn sort n (not_inspecting sort kind.Gather its refl) (not_inspecting sort kind.Scatter its refl) e

places_alone : (c : Checked) (nodes : ℕ) (rule : HomeRule) (sort : Kind) → is_place sort ≡ true → OnlyWhere (asks_step c) c nodes rule sort
places_alone c nodes rule sort its past (Distribute d form) n e = by (is_repeat c past d form) form e
  where
    by : (b : Bool) (form : StepForm) → (false || (not b && is_map form)) ≡ false
        → flat_map (named sort n) (if b then [] else moving_stages form) ≡ []
    by true form e = refl
    by false (Regular shape) e = both_nothing _ [] (unnamed n _ (not_place sort kind.Remap its refl)) refl
    by false (Map array) e = cc
places_alone c nodes rule sort its past (Print array) n e = both_nothing _ [] (unnamed n _ (not_place sort kind.Print its refl)) refl
places_alone c nodes rule sort its past (Forall site turn) n e =
    quiet_loop c nodes rule past site turn sort n (not_place sort kind.Gather its refl) (not_place sort kind.Scatter its refl)
    (by (inspects_at c past site turn) e)
  where
    by : (b : Bool) → (b || false) ≡ false → b ≡ false
    by true e = cc
    by false e = refl

pub inspection_letters_stand : InspectionLettersStand
inspection_letters_stand c nodes rule store p q k sort known apart its =
    stand_only (inspects_step c) c nodes rule store p q k sort known apart (not_inspecting sort kind.Print its refl)
    (inspections_alone c nodes rule sort its) (λ past step e. e)

pub place_letters_stand : PlaceLettersStand
place_letters_stand c nodes rule store p q k sort known apart its =
    stand_only (asks_step c) c nodes rule store p q k sort known apart (not_place sort kind.Print its refl)
    (places_alone c nodes rule sort its) (λ past step e. ap (λ b. b || moves_by_map c past step) e)

either : (a b : Bool) → (a || b) ≡ true → (a ≡ true) ⊎ (b ≡ true)
either true b e = inl refl
either false b e = inr e

none_stands : (b a : Bool) → (b ≡ true → a ≡ true) → a ≡ false → b ≡ false
none_stands false a h e = refl
none_stands true a h e = sym (h refl) ∙ e

-- a step that inspects asks
inspecting_asks : (c : Checked) (done : List Step) (k : ℕ) → is_at (inspects_step c) done k ≡ true → is_at (asks_step c) done k ≡ true
inspecting_asks c done k e = by (step_at done k) e
  where
    by : (o : Option (Step × List Step)) → option_map_or (λ (step, past). inspects_step c past step) o false ≡ true
        → option_map_or (λ (step, past). asks_step c past step) o false ≡ true
    by None e = cc
    by (Some x) e = ap (λ b. b || moves_by_map c x.1 x.0) e

pub others_ask_nothing : OthersAskNothing
others_ask_nothing c nodes rule store p q k sort known apart asking =
    none_stands (stands sort k (due_list c nodes rule store p q)) (is_at (asks_step c) (executed_of (run_of c store)) k)
    (λ e. by (either (is_inspection_kind sort) (is_place sort) asking) e)
  where
    by : (is_inspection_kind sort ≡ true) ⊎ (is_place sort ≡ true) → stands sort k (due_list c nodes rule store p q) ≡ true
        → is_at (asks_step c) (executed_of (run_of c store)) k ≡ true
    by (inl h) e = inspecting_asks c (executed_of (run_of c store)) k (inspection_letters_stand c nodes rule store p q k sort known apart
        h e)
    by (inr h) e = place_letters_stand c nodes rule store p q k sort known apart h e

pub loops_ask_nothing : LoopsAskNothing
loops_ask_nothing c nodes rule store p q later past site turn sort known apart asking e none =
    others_ask_nothing c nodes rule store p q (length past) sort known apart asking
    (ap (λ done. is_at (asks_step c) done (length past)) e
    ∙ ap (λ o. option_map_or (λ (step, past). asks_step c past step) o false) (step_is_at later past (Forall site turn))
    ∙ ap (λ b. b || false) none)
