-- The data letters of an execution carry what the receiver needs, or what the sender gives; none stand for another execution.
use Rattle.std.specs.Prelude.{◌≡◌, ◌≢◌, refl, ℕ, ℤ, pos, Bool, true, false, not, ◌&&◌, ◌==◌, if◌then◌else◌, List, [], ◌∷◌, ◌++◌, length}
use Rattle.std.specs.Prelude.{flat_map, Some}
use Rattle.std.specs.List.{list_any}
use Rattle.std.specs.Option.{option_map_or}
use Rattle.std.proofs.Common.{ap, sym, ◌∙◌, append-nil, inl, inr}
use Rattle.chaos_letter.specs.declared.kind.Kind.{Kind}
use Rattle.chaos_letter.specs.declared.kind.Kind.TheVariants as kind
use Rattle.chaos_letter.specs.declared.letter.Letter.{Letter}
use Rattle.plan_loop.specs.LoopLetters.{row_for, value_before, value_given}
use Rattle.plan_loop.specs.declared.loop_phase.LoopPhase.TheVariants as phase
use Rattle.fd_program.specs.Cells.{Cell}
use Rattle.fd_program.specs.Checks.{IsChecked}
use Rattle.fd_program.specs.Homes.{needed_of, given_of}
use Rattle.fd_program.specs.Layouts.{Scene, scene_of, store_at, owners_at, facts_at, loop_at}
use Rattle.fd_program.specs.Past.{is_repeat, inspects_at}
use Rattle.fd_program.specs.Reports.{executed_of, completed_of}
use Rattle.fd_program.specs.Runs.{run_of}
use Rattle.fd_program.specs.Trace.{is_empty_turn}
use Rattle.fd_program.specs.declared.checked.Checked.{Checked}
use Rattle.fd_program.specs.declared.loop_facts.HomeRule.{HomeRule}
use Rattle.fd_program.specs.declared.trace.LoopTurn.{LoopTurn}
use Rattle.fd_program.specs.declared.trace.Step.{Step}
use Rattle.fd_program.specs.declared.trace.Step.TheVariants.{Distribute, Print, Forall}
use Rattle.plan_run.specs.Phases.{loop_stages, stages_of, kind_of, due_list, numbers_at}
use Rattle.plan_run.specs.VoteLaws.{stages_to_vote}
use Rattle.plan_run.specs.declared.stage.Stage.{Stage}
use Rattle.plan_run.specs.declared.stage.Stage.TheVariants as stage
use Rattle.plan_letters.specs.Carried.{is_kind, stands, executions, places_in, carried, places_of_cells, step_at, is_at, numbers_where}
use Rattle.plan_letters.specs.Carried.{is_loop}
use Rattle.plan_letters.specs.Carried.{of_loop, needed_by, given_by, needed_at, given_at}
use Rattle.plan_letters.specs.PhaseReading.{Reading, of_step, of_steps, of_refused}
use Rattle.plan_letters.specs.RunReading.{read_letter, IsQuiet, EndsIn, due_is_told}
use Rattle.plan_letters.specs.StepReading.{QuietMoves, QuietInspection, moves_tell_nothing, vote_tells, loop_tells, numbers_are_told}
use Rattle.plan_letters.specs.StepReading.{one_step_tells, among_numbers, execution_of, executions_read, places_told, carried_read}
use Rattle.plan_letters.specs.StepReading.{stands_named, nothing_carried, step_is_at, named, not_printed}

-- ---- statements

-- what the letters of an execution from q to p carry before the loop is what p needs of q, array by array ascending
abbrev pub NeededIsCarried : Type 0
NeededIsCarried =
    (c : Checked) (nodes : ℕ) (rule : HomeRule) (store : List (List ℤ)) (p q k : ℕ) → IsChecked c → p ≢ q
    → carried kind.Gather k (due_list c nodes rule store q p)
    ≡ places_of_cells (needed_at (scene_of c nodes rule (run_of c store)) (completed_of (run_of c store)) k p q)

-- and those from p to q behind it what p gives to q
abbrev pub GivenIsCarried : Type 0
GivenIsCarried =
    (c : Checked) (nodes : ℕ) (rule : HomeRule) (store : List (List ℤ)) (p q k : ℕ) → IsChecked c → p ≢ q
    → carried kind.Scatter k (due_list c nodes rule store p q)
    ≡ places_of_cells (given_at (scene_of c nodes rule (run_of c store)) (completed_of (run_of c store)) k p q)

-- so for a completed FORALL whose range isn't empty
pub record IsCarried (c : Checked) (nodes : ℕ) (rule : HomeRule) (store : List (List ℤ)) (p q : ℕ) (past : List Step) (site : ℕ)
    (turn : LoopTurn) : Type 0 where
  pub needed : carried kind.Gather (length past) (due_list c nodes rule store q p)
      ≡ places_of_cells
      (needed_of (loop_at (scene_of c nodes rule (run_of c store)) past site turn) (owners_at (scene_of c nodes rule (run_of c store)) past)
      (store_at (scene_of c nodes rule (run_of c store)) past) p q)
  pub given : carried kind.Scatter (length past) (due_list c nodes rule store p q)
      ≡ places_of_cells
      (given_of (loop_at (scene_of c nodes rule (run_of c store)) past site turn) (owners_at (scene_of c nodes rule (run_of c store)) past)
      (store_at (scene_of c nodes rule (run_of c store)) past) p q)

abbrev pub LoopsAreCarried : Type 0
LoopsAreCarried =
    (c : Checked) (nodes : ℕ) (rule : HomeRule) (store : List (List ℤ)) (p q : ℕ) (later past : List Step) (site : ℕ) (turn : LoopTurn)
    → IsChecked c → p ≢ q
    → completed_of (run_of c store) ≡ later ++ Forall site turn ∷ past → is_empty_turn turn ≡ false
    → IsCarried c nodes rule store p q past site turn

-- the executions that such letters name are the completed steps of that kind, each once and in order
abbrev pub DataStand : Kind → Type 0
DataStand sort =
    (c : Checked) (nodes : ℕ) (rule : HomeRule) (store : List (List ℤ)) (p q : ℕ) → IsChecked c → p ≢ q
    → executions sort (due_list c nodes rule store p q) ≡ numbers_where is_loop (completed_of (run_of c store))

abbrev pub GathersStand : Type 0
GathersStand = DataStand kind.Gather

abbrev pub ScattersStand : Type 0
ScattersStand = DataStand kind.Scatter

-- so one of an execution stands there exactly where that step is one of them
abbrev pub DataStandsWhere : Type 0
DataStandsWhere =
    (c : Checked) (nodes : ℕ) (rule : HomeRule) (store : List (List ℤ)) (p q k : ℕ) → IsChecked c → p ≢ q
    → (stands kind.Gather k (due_list c nodes rule store p q) ≡ is_at is_loop (completed_of (run_of c store)) k)
    × (stands kind.Scatter k (due_list c nodes rule store p q) ≡ is_at is_loop (completed_of (run_of c store)) k)

-- for another number none stands there, and nothing is carried
pub record CarriesNothing (k : ℕ) (letters : List Letter) : Type 0 where
  pub no_gather : stands kind.Gather k letters ≡ false
  pub no_scatter : stands kind.Scatter k letters ≡ false
  pub nothing_needed : carried kind.Gather k letters ≡ []
  pub nothing_given : carried kind.Scatter k letters ≡ []

abbrev pub OthersCarryNothing : Type 0
OthersCarryNothing =
    (c : Checked) (nodes : ℕ) (rule : HomeRule) (store : List (List ℤ)) (p q k : ℕ) → IsChecked c → p ≢ q
    → is_at is_loop (completed_of (run_of c store)) k ≡ false → CarriesNothing k (due_list c nodes rule store p q)

-- ---- rows

rows_tell : (value : Cell → ℤ) (cells : List Cell) → places_in (flat_map (row_for value) cells) ≡ places_of_cells cells
rows_tell value [] = refl
rows_tell value (x ∷ cells) = ap (λ l. (pos x.array, pos x.element) ∷ l) (rows_tell value cells)

-- ---- a kind whose letters only loops send

either_nothing : {X : Type 0} (b : Bool) (xs : List X) → xs ≡ [] → (if b then xs else []) ≡ []
either_nothing true xs e = e
either_nothing false xs e = refl

loop_step : (X : Type 0) (r : Stage → List X) (c : Checked) (nodes : ℕ) (rule : HomeRule) (past : List Step) (site : ℕ) (turn : LoopTurn)
    → QuietInspection X r → r (stage.InLoop phase.Vote) ≡ []
    → flat_map r (stages_of c nodes rule past (Forall site turn)) ≡ (if is_empty_turn turn then [] else r (stage.InLoop phase.Gather)
    ++ r (stage.InLoop phase.Scatter))
loop_step X r c nodes rule past site turn quiet vote = by (is_empty_turn turn)
  where
    by : (b : Bool) → flat_map r (if b then [] else loop_stages (facts_at c nodes rule past site turn) (inspects_at c past site turn))
        ≡ (if b then [] else r (stage.InLoop phase.Gather) ++ r (stage.InLoop phase.Scatter))
    by true = refl
    by false =
        loop_tells X r quiet (facts_at c nodes rule past site turn) (inspects_at c past site turn)
        ∙ ap (λ l. l ++ (r (stage.InLoop phase.Gather) ++ (r (stage.InLoop phase.Scatter) ++ [])))
        (either_nothing (inspects_at c past site turn) (r (stage.InLoop phase.Vote)) vote)
        ∙ ap (λ l. r (stage.InLoop phase.Gather) ++ l) (append-nil (r (stage.InLoop phase.Scatter)))

refused_tells_nothing : (X : Type 0) (r : Stage → List X) (c : Checked) (nodes : ℕ) (rule : HomeRule) (past : List Step) (step : Step)
    → QuietInspection X r → r (stage.InLoop phase.Vote) ≡ [] → flat_map r (stages_to_vote c nodes rule past step) ≡ []
refused_tells_nothing X r c nodes rule past (Distribute d form) quiet vote = refl
refused_tells_nothing X r c nodes rule past (Print array) quiet vote = refl
refused_tells_nothing X r c nodes rule past (Forall site turn) quiet vote = vote_tells X r quiet (facts_at c nodes rule past site turn)
    ∙ vote

-- where a refused step tells nothing, what is told is that of the completed steps
completed_tell : (X : Type 0) (c : Checked) (nodes : ℕ) (rule : HomeRule) (h : Reading X) (executed done : List Step) (last : List X)
    → ((past : List Step) (step : Step) → of_refused c nodes rule h past step ≡ []) → EndsIn X c nodes rule h executed done last
    → of_steps c nodes rule h done ++ last ≡ of_steps c nodes rule h done
completed_tell X c nodes rule h executed done last quiet (inl e) = ap (λ l. of_steps c nodes rule h done ++ l) e.1
    ∙ append-nil (of_steps c nodes rule h done)
completed_tell X c nodes rule h executed done last quiet (inr e) =
    ap (λ l. of_steps c nodes rule h done ++ l) (e.3 ∙ quiet done e.0) ∙ append-nil (of_steps c nodes rule h done)

-- ---- kinds of data

abbrev is_data : Kind → Bool
is_data kind.Gather = true
is_data kind.Scatter = true
is_data _ = false

-- no other kind is one of them
not_data : (sort other : Kind) → is_data sort ≡ true → is_data other ≡ false → is_kind sort other ≡ false
not_data kind.Gather kind.Gather e f = cc
not_data kind.Scatter kind.Scatter e f = cc
not_data kind.Gather _ e f = refl
not_data kind.Scatter _ e f = refl
not_data _ _ e f = cc

-- nothing is read from stages of other kinds
abbrev ReadsOnly : (X : Type 0) → Kind → (Stage → List X) → Type 0
ReadsOnly X sort r = (a : Stage) → is_kind sort (kind_of a) ≡ false → r a ≡ []

module _ (X : Type 0) (sort : Kind) (its : is_data sort ≡ true) (r : Stage → List X) (only : ReadsOnly X sort r) where
  moves_quiet : QuietMoves X r
  moves_quiet = record {
    pairs = λ array. only (stage.MapPairs array) (not_data sort kind.MapPairs its refl);
    counts = only stage.PageCounts (not_data sort kind.PageCounts its refl);
    asks = only stage.MovingAsk (not_data sort kind.DerefAsk its refl);
    answers = only stage.MovingAnswer (not_data sort kind.DerefAnswer its refl);
    remap = only stage.Remap (not_data sort kind.Remap its refl);
  }

  print_quiet : r stage.Print ≡ []
  print_quiet = only stage.Print (not_data sort kind.Print its refl)

  inspection_quiet : QuietInspection X r
  inspection_quiet = record {
    asks = λ a. only (stage.InLoop (phase.DerefAsk a)) (not_data sort kind.DerefAsk its refl);
    answers = λ a. only (stage.InLoop (phase.DerefAnswer a)) (not_data sort kind.DerefAnswer its refl);
    index_asks = λ level. only (stage.InLoop (phase.IndexAsk level)) (not_data sort kind.IndexAsk its refl);
    index_values = λ level. only (stage.InLoop (phase.IndexValues level)) (not_data sort kind.IndexValues its refl);
    iterations = only (stage.InLoop phase.Iterations) (not_data sort kind.Iterations its refl);
    schedules = only (stage.InLoop phase.ScheduleAsk) (not_data sort kind.ScheduleAsk its refl);
  }

  vote_quiet : r (stage.InLoop phase.Vote) ≡ []
  vote_quiet = only (stage.InLoop phase.Vote) (not_data sort kind.Vote its refl)

-- ---- executions

not_empty : (n : ℕ) (b : Bool) → (if b then [] else n ∷ []) ≡ (if not b then n ∷ [] else [])
not_empty n true = refl
not_empty n false = refl

named_only : (sort : Kind) (n : ℕ) → ReadsOnly ℕ sort (named sort n)
named_only sort n a e = ap (λ b. if b then n ∷ [] else []) e

named_once : (sort : Kind) (n : ℕ) → is_data sort ≡ true
    → named sort n (stage.InLoop phase.Gather) ++ named sort n (stage.InLoop phase.Scatter) ≡ n ∷ []
named_once kind.Gather n its = refl
named_once kind.Scatter n its = refl
named_once _ n its = cc

module _ (sort : Kind) (its : is_data sort ≡ true) where
  named_in_step : (c : Checked) (nodes : ℕ) (rule : HomeRule) (past : List Step) (step : Step) (n : ℕ)
      → flat_map (named sort n) (stages_of c nodes rule past step) ≡ (if is_loop past step then n ∷ [] else [])
  named_in_step c nodes rule past (Distribute d form) n =
      moves_tell_nothing ℕ (named sort n) (moves_quiet ℕ sort its (named sort n) (named_only sort n)) (is_repeat c past d form) form
  named_in_step c nodes rule past (Print array) n = ap (λ l. l ++ []) (print_quiet ℕ sort its (named sort n) (named_only sort n))
  named_in_step c nodes rule past (Forall site turn) n =
      loop_step ℕ (named sort n) c nodes rule past site turn (inspection_quiet ℕ sort its (named sort n) (named_only sort n))
      (vote_quiet ℕ sort its (named sort n) (named_only sort n))
      ∙ ap (λ l. if is_empty_turn turn then [] else l) (named_once sort n its) ∙ not_empty n (is_empty_turn turn)

  data_stand : DataStand sort
  data_stand c nodes rule store p q known apart =
      let h : Reading ℕ = read_letter (scene_of c nodes rule (run_of c store)) p q (execution_of sort) in
      let told = due_is_told ℕ c nodes rule store p q (execution_of sort) known apart (not_printed sort (not_data sort kind.Print its refl))
      in
      executions_read sort (due_list c nodes rule store p q) ∙ told.all
      ∙ completed_tell ℕ c nodes rule h (executed_of (run_of c store)) (completed_of (run_of c store)) told.last
      (λ past step. refused_tells_nothing ℕ (named sort (length past)) c nodes rule past step
      (inspection_quiet ℕ sort its (named sort (length past)) (named_only sort (length past)))
      (vote_quiet ℕ sort its (named sort (length past)) (named_only sort (length past)))) told.ends
      ∙ numbers_are_told c nodes rule h is_loop (λ past step. named_in_step c nodes rule past step (length past))
      (completed_of (run_of c store))

  stand_where : (c : Checked) (nodes : ℕ) (rule : HomeRule) (store : List (List ℤ)) (p q k : ℕ) → IsChecked c → p ≢ q
      → stands sort k (due_list c nodes rule store p q) ≡ is_at is_loop (completed_of (run_of c store)) k
  stand_where c nodes rule store p q k known apart =
      stands_named sort k (due_list c nodes rule store p q)
      ∙ ap (list_any (λ n. n == k)) (data_stand c nodes rule store p q known apart)
      ∙ among_numbers is_loop (completed_of (run_of c store)) k

pub gathers_stand : GathersStand
gathers_stand = data_stand kind.Gather refl

pub scatters_stand : ScattersStand
scatters_stand = data_stand kind.Scatter refl

pub data_stands_where : DataStandsWhere
data_stands_where c nodes rule store p q k known apart = (
  stand_where kind.Gather refl c nodes rule store p q k known apart,
  stand_where kind.Scatter refl c nodes rule store p q k known apart,
)

pub others_carry_nothing : OthersCarryNothing
others_carry_nothing c nodes rule store p q k known apart e =
    let letters = due_list c nodes rule store p q in
    let where_they_stand = data_stands_where c nodes rule store p q k known apart in
    record {
      no_gather = where_they_stand.0 ∙ e;
      no_scatter = where_they_stand.1 ∙ e;
      nothing_needed = nothing_carried kind.Gather k letters (where_they_stand.0 ∙ e);
      nothing_given = nothing_carried kind.Scatter k letters (where_they_stand.1 ∙ e);
    }

-- ---- what is carried

carried_quiet : (sort : Kind) (k : ℕ) → is_kind sort kind.Print ≡ false → IsQuiet (places_told sort k)
carried_quiet sort k e letter printed =
    ap (λ x. if is_kind sort x && (letter.execution == k) then places_in letter.numbers else []) printed
    ∙ ap (λ b. if b && (letter.execution == k) then places_in letter.numbers else []) e

-- what the letters of a kind and an execution k from p to q tell in a stage of a step
abbrev told_in : Scene → Kind → ℕ → ℕ → ℕ → List Step → Step → Stage → List (ℤ × ℤ)
told_in s sort k p q past step stage = read_letter s p q (places_told sort k) past step (length past) stage

if_neither : (b : Bool) → [] ≡ (if b then places_of_cells [] else [])
if_neither true = refl
if_neither false = refl

told_only : (s : Scene) (sort : Kind) (k p q : ℕ) (past : List Step) (step : Step) → ReadsOnly (ℤ × ℤ) sort (told_in s sort k p q past step)
told_only s sort k p q past step a e =
    ap (λ b. if b && (length past == k) then places_in (numbers_at s past step a p q) else []) e

rows_carried : (value : Cell → ℤ) (cells : List Cell) (b : Bool)
    → (if b then places_in (flat_map (row_for value) cells) else []) ≡ (if b then places_of_cells cells else [])
rows_carried value cells true = rows_tell value cells
rows_carried value cells false = refl

-- what a kind of data tells in a loop are these elements
abbrev TellsCells : Scene → Kind → ℕ → ℕ → ℕ → (List Step → ℕ → LoopTurn → List Cell) → Type 0
TellsCells s sort k p q cells = (past : List Step) (site : ℕ) (turn : LoopTurn)
    → told_in s sort k p q past (Forall site turn) (stage.InLoop phase.Gather)
    ++ told_in s sort k p q past (Forall site turn) (stage.InLoop phase.Scatter)
    ≡ (if length past == k then places_of_cells (cells past site turn) else [])

module _ (sort : Kind) (its : is_data sort ≡ true) (s : Scene) (k p q : ℕ) (cells : List Step → ℕ → LoopTurn → List Cell)
    (tells : TellsCells s sort k p q cells) where
  told_in_step : (past : List Step) (step : Step)
      → of_step s.checked s.nodes s.rule (read_letter s p q (places_told sort k)) past step
      ≡ (if length past == k then places_of_cells (of_loop cells past step) else [])
  told_in_step past (Distribute d form) =
      let r = told_in s sort k p q past (Distribute d form) in
      moves_tell_nothing (ℤ × ℤ) r (moves_quiet (ℤ × ℤ) sort its r (told_only s sort k p q past (Distribute d form)))
      (is_repeat s.checked past d form) form
      ∙ if_neither (length past == k)
  told_in_step past (Print array) =
      ap (λ l. l ++ []) (print_quiet (ℤ × ℤ) sort its (told_in s sort k p q past (Print array)) (told_only s sort k p q past (Print array)))
      ∙ if_neither (length past == k)
  told_in_step past (Forall site turn) =
      let r = told_in s sort k p q past (Forall site turn) in
      let only = told_only s sort k p q past (Forall site turn) in
      loop_step (ℤ × ℤ) r s.checked s.nodes s.rule past site turn (inspection_quiet (ℤ × ℤ) sort its r only)
      (vote_quiet (ℤ × ℤ) sort its r only) ∙ by (is_empty_turn turn)
    where
      by : (a : Bool) → (if a then [] else told_in s sort k p q past (Forall site turn) (stage.InLoop phase.Gather)
          ++ told_in s sort k p q past (Forall site turn) (stage.InLoop phase.Scatter))
          ≡ (if length past == k then places_of_cells (if a then [] else cells past site turn) else [])
      by true = if_neither (length past == k)
      by false = tells past site turn

-- the letters of a kind and an execution carry what they tell in its step
is_carried : (sort : Kind) → is_data sort ≡ true → (c : Checked) (nodes : ℕ) (rule : HomeRule) (store : List (List ℤ)) (p q k : ℕ)
    (cells : List Step → ℕ → LoopTurn → List Cell) → TellsCells (scene_of c nodes rule (run_of c store)) sort k p q cells
    → IsChecked c → p ≢ q
    → carried sort k (due_list c nodes rule store p q)
    ≡ places_of_cells (option_map_or (λ (step, past). of_loop cells past step) (step_at (completed_of (run_of c store)) k) [])
is_carried sort its c nodes rule store p q k cells tells known apart =
    let s = scene_of c nodes rule (run_of c store) in
    let h : Reading (ℤ × ℤ) = read_letter s p q (places_told sort k) in
    let told = due_is_told (ℤ × ℤ) c nodes rule store p q (places_told sort k) known apart
    (carried_quiet sort k (not_data sort kind.Print its refl)) in
    carried_read sort k (due_list c nodes rule store p q) ∙ told.all
    ∙ completed_tell (ℤ × ℤ) c nodes rule h (executed_of (run_of c store)) (completed_of (run_of c store)) told.last
    (λ past step. refused_tells_nothing (ℤ × ℤ) (told_in s sort k p q past step) c nodes rule past step
    (inspection_quiet (ℤ × ℤ) sort its (told_in s sort k p q past step) (told_only s sort k p q past step))
    (vote_quiet (ℤ × ℤ) sort its (told_in s sort k p q past step) (told_only s sort k p q past step))) told.ends
    ∙ one_step_tells (ℤ × ℤ) c nodes rule h k (λ o. places_of_cells (option_map_or (λ (step, past). of_loop cells past step) o [])) refl
    (λ past step. told_in_step sort its s k p q cells tells past step) (completed_of (run_of c store))

other_way : (p q : ℕ) → p ≢ q → q ≢ p
other_way p q apart e = apart (sym e)

pub needed_is_carried : NeededIsCarried
needed_is_carried c nodes rule store p q k known apart =
    let s = scene_of c nodes rule (run_of c store) in
    is_carried kind.Gather refl c nodes rule store q p k
    (λ past site turn. needed_of (loop_at s past site turn) (owners_at s past) (store_at s past) p q)
    (λ past site turn. append-nil _ ∙ rows_carried (value_before (store_at s past))
    (needed_of (loop_at s past site turn) (owners_at s past) (store_at s past) p q) (length past == k)) known (other_way p q apart)

pub given_is_carried : GivenIsCarried
given_is_carried c nodes rule store p q k known apart =
    let s = scene_of c nodes rule (run_of c store) in
    is_carried kind.Scatter refl c nodes rule store p q k
    (λ past site turn. given_of (loop_at s past site turn) (owners_at s past) (store_at s past) p q)
    (λ past site turn. rows_carried (value_given (loop_at s past site turn) (owners_at s past) (store_at s past) p)
    (given_of (loop_at s past site turn) (owners_at s past) (store_at s past) p q) (length past == k)) known apart

-- ---- a completed loop

pub loops_are_carried : LoopsAreCarried
loops_are_carried c nodes rule store p q later past site turn known apart e some =
    let s = scene_of c nodes rule (run_of c store) in
    let here : step_at (completed_of (run_of c store)) (length past) ≡ Some (Forall site turn, past)
    = ap (λ done. step_at done (length past)) e ∙ step_is_at later past (Forall site turn) in
    record {
      needed = needed_is_carried c nodes rule store p q (length past) known apart
          ∙ ap (λ o. places_of_cells (option_map_or (λ (step, past). needed_by s past step p q) o [])) here
          ∙ ap (λ b. places_of_cells (if b then [] else needed_of (loop_at s past site turn) (owners_at s past) (store_at s past) p q))
          some;
      given = given_is_carried c nodes rule store p q (length past) known apart
          ∙ ap (λ o. places_of_cells (option_map_or (λ (step, past). given_by s past step p q) o [])) here
          ∙ ap (λ b. places_of_cells (if b then [] else given_of (loop_at s past site turn) (owners_at s past) (store_at s past) p q)) some;
    }
