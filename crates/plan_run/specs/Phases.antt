-- The phases of a run, and the letter from node p to node q in each. `past` has the steps before a step, the latest first.
use Rattle.std.specs.Prelude.{ℕ, ◌+◌, ◌-◌, ◌*◌, ◌^◌, ℤ, pos, Bool, true, false, not, ◌&&◌, ◌==◌, if◌then◌else◌, List, [], ◌∷◌, ◌++◌, length}
use Rattle.std.specs.Prelude.{map, filter, filter_map, flat_map, sum_by, Option, Some, None, is_some}
use Rattle.fd_words.specs.Lists.{list_at}
use Rattle.chaos_dist.specs.Counting.{below, up_to}
use Rattle.chaos_dist.specs.Owners.{owner_in, local_in, page_of, counts_on_page}
use Rattle.chaos_dist.specs.declared.step_form.StepForm.{StepForm}
use Rattle.chaos_dist.specs.declared.step_form.StepForm.TheVariants.{Regular, Map}
use Rattle.chaos_letter.specs.declared.kind.Kind.{Kind}
use Rattle.chaos_letter.specs.declared.kind.Kind.TheVariants as kind
use Rattle.chaos_letter.specs.declared.letter.Letter.{Letter}
use Rattle.chaos_letter.specs.declared.wanted.Wanted.{Wanted}
use Rattle.fd_program.specs.Layouts.{Scene, scene_of, store_at, owners_at, facts_at, loop_at}
use Rattle.fd_program.specs.Past.{is_repeat, inspects_at}
use Rattle.fd_program.specs.Places.{decomposition_of, owner_for, value_on}
use Rattle.fd_program.specs.Reports.{completed_of}
use Rattle.fd_program.specs.Runs.{Run, run_of}
use Rattle.fd_program.specs.Stores.{array_at, element}
use Rattle.fd_program.specs.Trace.{trace_of, site_at, is_empty_turn}
use Rattle.fd_words.specs.Roles.{is_index}
use Rattle.fd_program.specs.declared.array.OutputName.{OutputName}
use Rattle.fd_program.specs.declared.checked.Checked.{Checked}
use Rattle.fd_program.specs.declared.loop_facts.HomeRule.{HomeRule}
use Rattle.fd_program.specs.declared.loop_facts.LoopFacts.{LoopFacts}
use Rattle.fd_program.specs.declared.reference.Reference.{Reference}
use Rattle.fd_program.specs.declared.trace.Step.{Step}
use Rattle.fd_program.specs.declared.trace.Step.TheVariants.{Distribute, Print, Forall}
use Rattle.plan_loop.specs.LoopLetters.{kind_in_loop, phases_to_vote, phases_from_vote, executor_phases, numbers_in_loop}
use Rattle.plan_loop.specs.declared.loop_phase.LoopPhase.TheVariants as phase
use Rattle.plan_run.specs.declared.stage.Stage.{Stage}
use Rattle.plan_run.specs.declared.stage.Stage.TheVariants as stage

-- ---- phases

-- A phase: the steps before its step, its step (that of an OUTPUT is a PRINT of its array), the stage of the step, the execution that
-- the letters name, and how many phases can still come, this one included.
pub record Phase : Type 0 where
  pub past : List Step
  pub step : Step
  pub stage : Stage
  pub execution : ℕ
  pub left : ℕ

abbrev pub moving_stages : StepForm → List Stage
moving_stages (Regular shape) = stage.Remap ∷ []
moving_stages (Map array) = stage.MapPairs array ∷ stage.PageCounts ∷ stage.MovingAsk ∷ stage.MovingAnswer ∷ stage.Remap ∷ []

abbrev pub loop_stages : LoopFacts → Bool → List Stage
loop_stages f inspects = map stage.InLoop ((if inspects then phases_to_vote f ++ phases_from_vote f else []) ++ executor_phases)

-- the stages of a step that isn't refused; no store is looked at
abbrev pub stages_of : Checked → ℕ → HomeRule → List Step → Step → List Stage
stages_of c nodes rule past (Distribute decomposition form) = if is_repeat c past decomposition form then [] else moving_stages form
stages_of c nodes rule past (Print array) = stage.Print ∷ []
stages_of c nodes rule past (Forall site turn) =
    if is_empty_turn turn then [] else loop_stages (facts_at c nodes rule past site turn) (inspects_at c past site turn)

-- one more phase in front
abbrev pub with_phase : List Step → Step → ℕ → Stage → List Phase → List Phase
with_phase past step execution stage rest =
    record { past = past; step = step; stage = stage; execution = execution; left = length rest + 1 } ∷ rest

-- the phases of these stages of a step, then `later`
abbrev pub phases_before : List Phase → List Step → Step → ℕ → List Stage → List Phase
phases_before later past step execution [] = later
phases_before later past step execution (stage ∷ stages) = with_phase past step execution stage
    (phases_before later past step execution stages)

-- these OUTPUT arrays, numbered from j on; their executions go on behind the steps of the trace
abbrev pub output_phases : ℕ → List Step → ℕ → List OutputName → List Phase
output_phases steps past j [] = []
output_phases steps past j (o ∷ os) = with_phase past (Print o.array) (steps + j) (stage.Output j) (output_phases steps past (j + 1) os)

-- the phases of a run without a refusal, from the step after `past` on
abbrev pub phases_from : Checked → ℕ → HomeRule → List Step → List Step → List Phase
phases_from c nodes rule past [] = output_phases (length past) past 0 c.outputs
phases_from c nodes rule past (step ∷ steps) =
    phases_before (phases_from c nodes rule (step ∷ past) steps) past step (length past) (stages_of c nodes rule past step)

-- ---- a refusal

abbrev pub is_vote : Stage → Bool
is_vote (stage.InLoop phase.Vote) = true
is_vote _ = false

-- the vote of the step with this number
abbrev pub is_vote_of : ℕ → Phase → Bool
is_vote_of k f = (f.execution == k) && is_vote f.stage

-- the phases through the vote of step k, and then `outs`
abbrev pub cut_at : ℕ → List Phase → List Phase → List Phase
cut_at k outs [] = []
cut_at k outs (f ∷ fs) = f ∷ (if is_vote_of k f then outs else cut_at k outs fs)

-- where the step after `past` is refused, its vote is its last phase, and the OUTPUT arrays follow
abbrev pub cut_phases : Checked → List Phase → List Step → Bool → List Phase
cut_phases c phases past false = phases
cut_phases c phases past true = cut_at (length past) (output_phases (length (trace_of c)) past 0 c.outputs) phases

-- the phases of a run
abbrev pub phases_of : Checked → ℕ → HomeRule → Run → List Phase
phases_of c nodes rule run = cut_phases c (phases_from c nodes rule [] (trace_of c)) (completed_of run) (is_some run.refused)

-- ---- what a letter names

abbrev pub kind_of : Stage → Kind
kind_of (stage.MapPairs array) = kind.MapPairs
kind_of stage.PageCounts = kind.PageCounts
kind_of stage.MovingAsk = kind.DerefAsk
kind_of stage.MovingAnswer = kind.DerefAnswer
kind_of stage.Remap = kind.Remap
kind_of stage.Print = kind.Print
kind_of (stage.Output j) = kind.Print
kind_of (stage.InLoop l) = kind_in_loop l

-- the decomposition, array or FORALL
abbrev pub site_of : Step → ℕ
site_of (Distribute decomposition form) = decomposition
site_of (Print array) = array
site_of (Forall site turn) = site

-- ---- the numbers of a letter

-- the elements of a map array on p whose page q keeps, each with its new owner
abbrev pub map_rows : Scene → List (List ℕ) → List ℕ → ℕ → ℕ → ℕ → List ℤ
map_rows s owners new array p q =
    flat_map (λ g. pos g ∷ pos (owner_in new g) ∷ [])
    (filter (λ g. (owner_for s.checked.arrays owners array (pos g) == p) && (page_of (length new) s.nodes g == q)) (up_to (length new)))

-- the elements that p owned and whose page q keeps
abbrev pub moving_of : ℕ → List ℕ → ℕ → ℕ → List ℕ
moving_of nodes old p q = filter (λ g. (owner_in old g == p) && (page_of (length old) nodes g == q)) (up_to (length old))

-- the arrays of a decomposition
abbrev pub arrays_in : Checked → ℕ → List ℕ
arrays_in c d = filter (λ array. decomposition_of c.arrays array == d) (below (length c.arrays))

-- element e of decomposition d, with the values of the decomposition's arrays there
abbrev pub remap_row : Checked → List (List ℤ) → ℕ → ℕ → List ℤ
remap_row c store d e = pos e ∷ map (λ array. value_on c.arrays store array e) (arrays_in c d)

-- those that p owned and q now owns
abbrev pub remap_rows : Checked → List (List ℤ) → ℕ → List ℕ → List ℕ → ℕ → ℕ → List ℤ
remap_rows c store d old new p q =
    flat_map (remap_row c store d) (filter (λ e. (owner_in old e == p) && (owner_in new e == q)) (up_to (length old)))

abbrev pub print_row : List (List ℤ) → ℕ → ℕ → List ℤ
print_row store array g = pos g ∷ element store array (pos g) ∷ []

-- the elements of an array on a node
abbrev pub printed_on : Checked → List (List ℕ) → ℕ → ℕ → List ℕ
printed_on c owners array p = filter (λ g. owner_for c.arrays owners array (pos g) == p) (up_to (array_at c.arrays array).extent)

-- each with its value
abbrev pub print_rows : Checked → List (List ℕ) → List (List ℤ) → ℕ → ℕ → List ℤ
print_rows c owners store array p = flat_map (print_row store array) (printed_on c owners array p)

-- in a step that moves decomposition d, from the old owners of its elements to the new
abbrev pub move_numbers : Scene → List (List ℕ) → List (List ℤ) → ℕ → List ℕ → List ℕ → Stage → ℕ → ℕ → List ℤ
move_numbers s owners store d old new (stage.MapPairs array) p q = map_rows s owners new array p q
move_numbers s owners store d old new stage.PageCounts p q = map pos (counts_on_page s.nodes p new)
move_numbers s owners store d old new stage.MovingAsk p q = flat_map (λ g. pos d ∷ pos g ∷ []) (moving_of s.nodes old p q)
move_numbers s owners store d old new stage.MovingAnswer p q = flat_map (λ g. pos (owner_in new g) ∷ pos (local_in new g) ∷ [])
    (moving_of s.nodes old q p)
move_numbers s owners store d old new stage.Remap p q = remap_rows s.checked store d old new p q
move_numbers s owners store d old new stage.Print p q = []
move_numbers s owners store d old new (stage.Output j) p q = []
move_numbers s owners store d old new (stage.InLoop l) p q = []

abbrev pub loop_numbers : LoopFacts → List (List ℕ) → List (List ℤ) → Stage → ℕ → ℕ → List ℤ
loop_numbers f owners store (stage.InLoop l) p q = numbers_in_loop f owners store l p q
loop_numbers f owners store _ p q = []

-- the numbers from p to q in a stage of a step
abbrev pub numbers_at : Scene → List Step → Step → Stage → ℕ → ℕ → List ℤ
numbers_at s past (Distribute d form) stage p q =
    move_numbers s (owners_at s past) (store_at s past) d (list_at (owners_at s past) d)
    (list_at (owners_at s (Distribute d form ∷ past)) d) stage p q
numbers_at s past (Print array) stage p q = print_rows s.checked (owners_at s past) (store_at s past) array p
numbers_at s past (Forall site turn) stage p q = loop_numbers (loop_at s past site turn) (owners_at s past) (store_at s past) stage p q

-- ---- letters

-- whether p sends to q: all to all, but the letters of a Print go to node 0 alone
abbrev pub is_sent : Stage → ℕ → ℕ → Bool
is_sent stage.Print p q = not (p == q) && (q == 0)
is_sent (stage.Output j) p q = not (p == q) && (q == 0)
is_sent _ p q = not (p == q)

abbrev pub letter_of : Scene → Phase → ℕ → ℕ → Letter
letter_of s f p q = record {
  kind = kind_of f.stage;
  execution = f.execution;
  site = site_of f.step;
  numbers = numbers_at s f.past f.step f.stage p q;
}

-- the letter that is due from p to q in a phase
abbrev pub due : Scene → ℕ → ℕ → Phase → Option Letter
due s p q f = if is_sent f.stage p q then Some (letter_of s f p q) else None

abbrev pub due_in : Scene → List Phase → ℕ → ℕ → List Letter
due_in s phases p q = filter_map (due s p q) phases

-- all letters that are due from p to q in a run, in order
abbrev pub due_list : Checked → ℕ → HomeRule → List (List ℤ) → ℕ → ℕ → List Letter
due_list c nodes rule store p q =
    let run = run_of c store in due_in (scene_of c nodes rule run) (phases_of c nodes rule run) p q

-- ---- what is wanted of a letter

-- how many numbers belong together
abbrev pub group_of : Checked → Step → Stage → ℕ
group_of c step (stage.MapPairs array) = 2
group_of c step stage.PageCounts = 1
group_of c step stage.MovingAsk = 2
group_of c step stage.MovingAnswer = 2
group_of c step stage.Remap = 1 + length (arrays_in c (site_of step))
group_of c step stage.Print = 2
group_of c step (stage.Output j) = 2
group_of c step (stage.InLoop (phase.DerefAsk asking)) = 2
group_of c step (stage.InLoop (phase.DerefAnswer asking)) = 2
group_of c step (stage.InLoop (phase.IndexAsk level)) = 2
group_of c step (stage.InLoop (phase.IndexValues level)) = 1
group_of c step (stage.InLoop phase.Vote) = 4
group_of c step (stage.InLoop phase.Iterations) =
    1 + length (filter (λ (r : Reference). is_index r.role) (site_at c.sites (site_of step)).references)
group_of c step (stage.InLoop phase.ScheduleAsk) = 4
group_of c step (stage.InLoop phase.Gather) = 3
group_of c step (stage.InLoop phase.Scatter) = 3

-- the receiver doesn't know the length
abbrev pub is_free : Stage → Bool
is_free (stage.MapPairs array) = true
is_free stage.PageCounts = false
is_free stage.MovingAsk = true
is_free stage.MovingAnswer = false
is_free stage.Remap = true
is_free stage.Print = true
is_free (stage.Output j) = true
is_free (stage.InLoop (phase.DerefAsk asking)) = true
is_free (stage.InLoop (phase.DerefAnswer asking)) = false
is_free (stage.InLoop (phase.IndexAsk level)) = true
is_free (stage.InLoop (phase.IndexValues level)) = false
is_free (stage.InLoop phase.Vote) = true
is_free (stage.InLoop phase.Iterations) = true
is_free (stage.InLoop phase.ScheduleAsk) = true
is_free (stage.InLoop phase.Gather) = false
is_free (stage.InLoop phase.Scatter) = false

-- the most that are taken of what isn't known: an offence is four numbers
abbrev pub most_in : Stage → ℕ
most_in (stage.InLoop phase.Vote) = 4
most_in _ = 2 ^ 32

-- what is wanted of a letter with so many numbers
abbrev pub wanted_by : Scene → Phase → ℕ → Wanted
wanted_by s f count = record {
  kind = kind_of f.stage;
  execution = f.execution;
  site = site_of f.step;
  group = group_of s.checked f.step f.stage;
  least = if is_free f.stage then 0 else count;
  most = if is_free f.stage then most_in f.stage else count;
}

-- what q wants of p
abbrev pub wanted_at : Scene → Phase → ℕ → ℕ → Wanted
wanted_at s f q p = wanted_by s f (length (letter_of s f p q).numbers)

-- the letters that p sends in a phase, by ascending receiver, and what it wants, by ascending sender
abbrev pub sends_at : Scene → Phase → ℕ → List (ℕ × Letter)
sends_at s f p = map (λ q. (q, letter_of s f p q)) (filter (λ q. is_sent f.stage p q) (below s.nodes))

abbrev pub takes_at : Scene → Phase → ℕ → List (ℕ × Wanted)
takes_at s f p = map (λ q. (q, wanted_at s f p q)) (filter (λ q. is_sent f.stage q p) (below s.nodes))

-- ---- moves

-- how many letters a phase has
abbrev pub letters_in : ℕ → Stage → ℕ
letters_in nodes stage.Print = nodes - 1
letters_in nodes (stage.Output j) = nodes - 1
letters_in nodes _ = nodes * (nodes - 1)

-- how many actions: two for each letter, and one work of each node
abbrev pub moves_in_phases : ℕ → List Phase → ℕ
moves_in_phases nodes phases = sum_by (λ (f : Phase). 2 * letters_in nodes f.stage + nodes) phases

abbrev pub run_moves : Checked → ℕ → HomeRule → List (List ℤ) → ℕ
run_moves c nodes rule store = moves_in_phases nodes (phases_of c nodes rule (run_of c store))
