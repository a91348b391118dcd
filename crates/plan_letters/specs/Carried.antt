-- What the letters of a list tell: the letters of a kind and an execution, the elements that they carry, and the executions of a kind.
-- And what the steps of a run say of it: `done` has steps of a run, the latest first.
use Rattle.std.specs.Prelude.{ℕ, ℤ, pos, Bool, true, false, not, ◌&&◌, ◌||◌, ◌==◌, if◌then◌else◌, List, [], ◌∷◌, ◌++◌, length, map, filter}
use Rattle.std.specs.Prelude.{flat_map, Option, Some, None}
use Rattle.std.specs.List.{list_any}
use Rattle.std.specs.Option.{option_map_or}
use Rattle.chaos_letter.specs.declared.kind.Kind.{Kind}
use Rattle.chaos_letter.specs.declared.kind.Kind.TheVariants.{MapPairs, PageCounts, DerefAsk, DerefAnswer, IndexAsk, IndexValues, Vote}
use Rattle.chaos_letter.specs.declared.kind.Kind.TheVariants.{Iterations, ScheduleAsk, Claims, ClashVote, Gather, Scatter, Remap}
use Rattle.chaos_letter.specs.declared.kind.Kind.TheVariants as kind
use Rattle.chaos_letter.specs.declared.letter.Letter.{Letter}
use Rattle.fd_program.specs.Met.{is_map}
use Rattle.fd_program.specs.Cells.{Cell}
use Rattle.fd_program.specs.Homes.{needed_of, given_of}
use Rattle.fd_program.specs.Layouts.{Scene, store_at, owners_at, loop_at}
use Rattle.fd_program.specs.Past.{is_repeat, inspects_step}
use Rattle.fd_program.specs.Trace.{is_empty_turn}
use Rattle.fd_program.specs.declared.checked.Checked.{Checked}
use Rattle.fd_program.specs.declared.trace.LoopTurn.{LoopTurn}
use Rattle.fd_program.specs.declared.trace.Step.{Step}
use Rattle.fd_program.specs.declared.trace.Step.TheVariants.{Distribute, Print, Forall}

-- ---- letters

abbrev pub is_kind : (sort other : Kind) → Bool
is_kind MapPairs MapPairs = true
is_kind PageCounts PageCounts = true
is_kind DerefAsk DerefAsk = true
is_kind DerefAnswer DerefAnswer = true
is_kind IndexAsk IndexAsk = true
is_kind IndexValues IndexValues = true
is_kind Vote Vote = true
is_kind Iterations Iterations = true
is_kind ScheduleAsk ScheduleAsk = true
is_kind Claims Claims = true
is_kind ClashVote ClashVote = true
is_kind Gather Gather = true
is_kind Scatter Scatter = true
is_kind Remap Remap = true
is_kind kind.Print kind.Print = true
is_kind _ _ = false

-- the letter is of this kind and of this execution
abbrev pub is_of : Kind → ℕ → Letter → Bool
is_of kind k letter = is_kind kind letter.kind && (letter.execution == k)

-- such a letter stands in the list
abbrev pub stands : Kind → ℕ → List Letter → Bool
stands kind k letters = list_any (is_of kind k) letters

-- the executions that the letters of a kind name, in order
abbrev pub executions : Kind → List Letter → List ℕ
executions kind letters = map (λ (l : Letter). l.execution) (filter (λ (l : Letter). is_kind kind l.kind) letters)

-- the arrays and elements of rows of array, element and value
abbrev pub places_in : List ℤ → List (ℤ × ℤ)
places_in [] = []
places_in (array ∷ []) = []
places_in (array ∷ element ∷ []) = []
places_in (array ∷ element ∷ value ∷ rest) = (array, element) ∷ places_in rest

-- those of the letters of a kind and an execution, joined
abbrev pub carried : Kind → ℕ → List Letter → List (ℤ × ℤ)
carried kind k letters = flat_map (λ (l : Letter). places_in l.numbers) (filter (is_of kind k) letters)

-- as such letters have elements
abbrev pub places_of_cells : List Cell → List (ℤ × ℤ)
places_of_cells cells = map (λ (x : Cell). (pos x.array, pos x.element)) cells

-- ---- steps

-- the step with this number, from 0, and the steps before it
abbrev pub step_at : List Step → ℕ → Option (Step × List Step)
step_at [] k = None
step_at (step ∷ past) k = if length past == k then Some (step, past) else step_at past k

-- there is a step with this number, and the test holds of it and the steps before it
abbrev pub is_at : (List Step → Step → Bool) → List Step → ℕ → Bool
is_at test done k = option_map_or (λ (step, past). test past step) (step_at done k) false

-- the numbers of the steps of which the test holds, ascending
abbrev pub numbers_where : (List Step → Step → Bool) → List Step → List ℕ
numbers_where test [] = []
numbers_where test (step ∷ past) = numbers_where test past ++ (if test past step then length past ∷ [] else [])

-- a FORALL whose range isn't empty
abbrev pub is_loop : List Step → Step → Bool
is_loop past (Distribute decomposition form) = false
is_loop past (Print array) = false
is_loop past (Forall site turn) = not (is_empty_turn turn)

-- a DISTRIBUTE by a map that isn't a repeat: it asks for places, as an inspection does
abbrev pub moves_by_map : Checked → List Step → Step → Bool
moves_by_map c past (Distribute decomposition form) = not (is_repeat c past decomposition form) && is_map form
moves_by_map c past (Print array) = false
moves_by_map c past (Forall site turn) = false

-- a step that can ask for places
abbrev pub asks_step : Checked → List Step → Step → Bool
asks_step c past step = inspects_step c past step || moves_by_map c past step

-- what a FORALL whose range isn't empty has, nothing for another step
abbrev pub of_loop : (List Step → ℕ → LoopTurn → List Cell) → List Step → Step → List Cell
of_loop cells past (Distribute decomposition form) = []
of_loop cells past (Print array) = []
of_loop cells past (Forall site turn) = if is_empty_turn turn then [] else cells past site turn

-- what p needs of q for a step, and what it gives to q
abbrev pub needed_by : Scene → List Step → Step → ℕ → ℕ → List Cell
needed_by s past step p q =
    of_loop (λ past site turn. needed_of (loop_at s past site turn) (owners_at s past) (store_at s past) p q) past step

abbrev pub given_by : Scene → List Step → Step → ℕ → ℕ → List Cell
given_by s past step p q =
    of_loop (λ past site turn. given_of (loop_at s past site turn) (owners_at s past) (store_at s past) p q) past step

-- for the step with this number; nothing where there is none
abbrev pub needed_at : Scene → List Step → ℕ → ℕ → ℕ → List Cell
needed_at s done k p q = option_map_or (λ (step, past). needed_by s past step p q) (step_at done k) []

abbrev pub given_at : Scene → List Step → ℕ → ℕ → ℕ → List Cell
given_at s done k p q = option_map_or (λ (step, past). given_by s past step p q) (step_at done k) []
