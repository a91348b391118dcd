-- The letters of an accepted program come in whole groups and aren't longer than what is taken.
use Rattle.std.proofs.Common.{◌≡◌, ◌==◌, ℕ, suc, zero, ◌+◌, ◌*◌, ◌≤◌, Bool, true, false, ◌&&◌, List, [], ◌∷◌, if◌then◌else◌, length, map}
use Rattle.std.proofs.Common.{filter, arith, refl, sym, ap, subst, length-append}
use Rattle.std.specs.Prelude.{ℤ, pos, Option, Some, None, is_some, fold, flat_map}
use Rattle.std.specs.List.{AllByRecursion, enumerate_from}
use Rattle.std.proofs.lemmas.List.{length-map}
use Rattle.std.proofs.lemmas.List.Elements.{recursion_from_All}
use Rattle.std.proofs.lemmas.List.FromFn.{length-range_with_len}
use Rattle.std.proofs.lemmas.List.Sums.{length-filter, count_by-le-length}
use Rattle.fd_words.specs.Lists.{list_at}
use Rattle.fd_words.specs.Value.{remainder_of}
use Rattle.fd_words.specs.declared.place.Offence.{Offence}
use Rattle.fd_words.specs.declared.place.Role.{Role}
use Rattle.chaos_dist.specs.Counting.{below, up_to}
use Rattle.chaos_dist.specs.Layout.{owner_of}
use Rattle.chaos_dist.specs.Owners.{owner_in, local_in, page_of}
use Rattle.chaos_dist.specs.declared.step_form.StepForm.{StepForm}
use Rattle.chaos_dist.specs.declared.step_form.StepForm.TheVariants.{Regular, Map}
use Rattle.chaos_letter.specs.Fits.{IsMultiple}
use Rattle.chaos_vote.specs.Votes.{vote_numbers}
use Rattle.fd_program.specs.Cells.{Cell, is_before, with_cell}
use Rattle.fd_program.specs.Checks.{IsChecked, IsExtent, IsAligned}
use Rattle.fd_program.specs.Homes.{uses_at, home_of, inspected_by, executed_by, vote_of, cell_of, cells_of, between_nodes, needed_of}
use Rattle.fd_program.specs.Homes.{given_of, owner_met}
use Rattle.fd_program.specs.Layouts.{Scene, scene_of, store_at, owners_at, owners_by, loop_at, layout_at}
use Rattle.fd_program.specs.Loops.{iterations_of}
use Rattle.fd_program.specs.Past.{form_set}
use Rattle.fd_program.specs.Places.{decomposition_of, owner_for, value_on}
use Rattle.fd_program.specs.Reports.{completed_of}
use Rattle.fd_program.specs.Runs.{Run, run_past, run_from, run_of, stores_of, refusal_of, after_step}
use Rattle.fd_program.specs.StoreLaws.{run_keeps_lengths}
use Rattle.fd_program.specs.Stores.{FitsStore, array_at}
use Rattle.fd_program.specs.Trace.{trace_of}
use Rattle.fd_program.specs.Uses.{is_met, read_of, uses_from}
use Rattle.fd_words.specs.Roles.{is_index, is_read, is_target}
use Rattle.fd_program.specs.declared.array.ArrayFacts.{ArrayFacts}
use Rattle.fd_program.specs.declared.array.LayoutName.{LayoutName}
use Rattle.fd_program.specs.declared.array.OutputName.{OutputName}
use Rattle.fd_program.specs.declared.checked.Checked.{Checked}
use Rattle.fd_program.specs.declared.loop_facts.HomeRule.{HomeRule}
use Rattle.fd_program.specs.declared.loop_facts.HomeRule.TheVariants.{Owner}
use Rattle.fd_program.specs.declared.loop_facts.LoopFacts.{LoopFacts}
use Rattle.fd_program.specs.declared.loop_use.Use.{Use}
use Rattle.fd_program.specs.declared.reference.Reference.{Reference}
use Rattle.fd_program.specs.declared.refused.Refused.{Refused}
use Rattle.fd_program.specs.declared.trace.LoopTurn.{LoopTurn}
use Rattle.fd_program.specs.declared.trace.Step.{Step}
use Rattle.fd_program.specs.declared.trace.Step.TheVariants.{Distribute, Print, Forall}
use Rattle.plan_loop.specs.LoopLetters.{asking_iterations, is_wanted_in, wanted_of, asked_of, page_met, is_at, indexes_of}
use Rattle.plan_loop.specs.LoopLetters.{iteration_row, ask_row_of, place_ask_of, place_answer_of, index_ask_of, row_for, value_before}
use Rattle.plan_loop.specs.LoopLetters.{index_uses_of, fetched_of, value_given}
use Rattle.plan_loop.specs.declared.loop_phase.Asking.{Asking}
use Rattle.plan_loop.specs.declared.loop_phase.Asking.TheVariants.{Indexes, Homes, References}
use Rattle.plan_loop.specs.declared.loop_phase.Level.{Level}
use Rattle.plan_loop.specs.declared.loop_phase.LoopPhase.{LoopPhase}
use Rattle.plan_loop.specs.declared.loop_phase.LoopPhase.TheVariants as phase
use Rattle.plan_run.specs.declared.stage.Stage.{Stage}
use Rattle.plan_run.specs.declared.stage.Stage.TheVariants as stage
use Rattle.plan_run.specs.Phases.{Phase, is_vote_of, stages_of, phases_before, phases_from, output_phases, cut_at, cut_phases, numbers_at}
use Rattle.plan_run.specs.Phases.{group_of, is_free, most_in, moving_of, arrays_in, remap_row, print_row}
use Rattle.plan_run.specs.Limits.{IsStepWithin, IsWithin, IsWork}
use Rattle.plan_run.specs.Rows.{RunPlan, run_in, scene_in, phases_in, AreMeasured}

-- ---- lengths of lists

filter_le : {A : Type 0} (p : A → Bool) (xs : List A) → length (filter p xs) ≤ length xs
filter_le p xs = omega (arith, length-filter p xs, count_by-le-length p xs)

-- rows of one length
pub flat_rows : {A B : Type 0} (k : ℕ) (g : A → List B) → ((x : A) → length (g x) ≡ k) → (xs : List A)
    → length (flat_map g xs) ≡ length xs * k
flat_rows k g h [] = let z : 0 ≡ 0 * k = omega arith in z
flat_rows k g h (x ∷ xs) =
    let next : suc (length xs) * k ≡ length xs * k + k = omega arith in
    omega (arith, length-append (g x) (flat_map g xs), flat_rows k g h xs, h x, next)

-- rows of at most a length
flat_le : {A B : Type 0} (k : ℕ) (g : A → List B) → ((x : A) → length (g x) ≤ k) → (xs : List A) → length (flat_map g xs) ≤ length xs * k
flat_le k g h [] = let z : 0 ≤ 0 * k = omega arith in z
flat_le k g h (x ∷ xs) =
    let next : suc (length xs) * k ≡ length xs * k + k = omega arith in
    omega (arith, length-append (g x) (flat_map g xs), flat_le k g h xs, h x, next)

mul_left : (a b k : ℕ) → a ≤ b → a * k ≤ b * k
mul_left zero b k h = let z : 0 * k ≡ 0 = omega arith in omega (arith, z)
mul_left (suc a) zero k h = absurd (omega (arith, h))
mul_left (suc a) (suc b) k h =
    let one : suc a * k ≡ a * k + k = omega arith in
    let two : suc b * k ≡ b * k + k = omega arith in
    omega (arith, one, two, mul_left a b k (omega (arith, h)))

mul_right : (a b k : ℕ) → a ≤ b → k * a ≤ k * b
mul_right a b k h =
    let one : k * a ≡ a * k = omega arith in
    let two : k * b ≡ b * k = omega arith in
    omega (arith, one, two, mul_left a b k h)

-- a letter of rows: whole groups, and a bound
pub record AreRows (k most count : ℕ) : Type 0 where
  pub groups : IsMultiple k count
  pub within : count ≤ most * k

pub rows_are : {A B : Type 0} (k most : ℕ) (g : A → List B) → ((x : A) → length (g x) ≡ k) → (xs : List A) → length xs ≤ most
    → AreRows k most (length (flat_map g xs))
rows_are k most g h xs few = record {
  groups = (length xs, flat_rows k g h xs);
  within = omega (arith, flat_rows k g h xs, mul_left (length xs) most k few);
}

up_to_le : (keep : ℕ → Bool) (n : ℕ) → length (filter keep (up_to n)) ≤ n
up_to_le keep n = omega (arith, filter_le keep (up_to n), length-range_with_len 1 n)

nothing : (k : ℕ) → IsMultiple k 0
nothing k = let z : 0 ≡ 0 * k = omega arith in (0, z)

each_one : (n : ℕ) → IsMultiple 1 n
each_one n = let z : n ≡ n * 1 = omega arith in (n, z)

-- ---- what is small in a scene

pub record IsWithinLimits (s : Scene) : Type 0 where
  pub arrays : length s.checked.arrays ≤ 64
  pub layouts : length s.checked.layouts ≤ 128
  pub extents : (array : ℕ) → (array_at s.checked.arrays array).extent ≤ 1048576
  pub owners : (past : List Step) (d : ℕ) → length (list_at (owners_at s past) d) ≤ 1048576

-- ---- an execution of a FORALL

uses_length : (arrays : List ArrayFacts) (adds : List ℤ) (store : List (List ℤ)) (i : ℤ) (place : ℕ) (before : Option ℤ)
    (rs : List Reference)
    → length (uses_from arrays adds store i place before rs) ≡ length rs
uses_length arrays adds store i place before [] = refl
uses_length arrays adds store i place before (r ∷ rs) = ap suc (uses_length arrays adds store i (place + 1) _ rs)

both_kept : {A B : Type 0} (b : Bool) (x : A) (xs : List A) (y : B) (ys : List B) → length xs ≡ length ys
    → length (if b then x ∷ xs else xs) ≡ length (if b then y ∷ ys else ys)
both_kept true x xs y ys e = ap suc e
both_kept false x xs y ys e = e

index_uses : (arrays : List ArrayFacts) (adds : List ℤ) (store : List (List ℤ)) (i : ℤ) (place : ℕ) (before : Option ℤ)
    (rs : List Reference)
    → length (filter (λ (u : Use). is_index u.role) (uses_from arrays adds store i place before rs))
    ≡ length (filter (λ (r : Reference). is_index r.role) rs)
index_uses arrays adds store i place before [] = refl
index_uses arrays adds store i place before (r ∷ rs) = both_kept (is_index r.role) _ _ r _ (index_uses arrays adds store i (place + 1) _ rs)

module _ (f : LoopFacts) (owners : List (List ℕ)) (store : List (List ℤ)) (work : IsWork (length (iterations_of f.turn))
    (length f.site.references)) where
  -- the references of some iterations
  uses_few : (is : List ℤ) → length is ≤ length (iterations_of f.turn) → length (flat_map (uses_at f store) is) ≤ 16777216
  uses_few is few =
      omega (
        arith,
        flat_rows (length f.site.references) (uses_at f store) (λ i. uses_length f.arrays f.turn.adds store i 0 None f.site.references) is,
        mul_left (length is) (length (iterations_of f.turn)) (length f.site.references) few,
        work.most,
      )

  asking_few : (asking : Asking) (p : ℕ) → length (asking_iterations f owners store asking p) ≤ length (iterations_of f.turn)
  asking_few (Indexes level) p = filter_le _ (iterations_of f.turn)
  asking_few Homes p = filter_le _ (iterations_of f.turn)
  asking_few References p = filter_le _ (iterations_of f.turn)

  wanted_few : (asking : Asking) (p : ℕ) → length (wanted_of f owners store asking p) ≤ length f.layouts * 16777216
  wanted_few asking p =
      let uses : List Use = flat_map (uses_at f store) (asking_iterations f owners store asking p) in
      omega (
        arith,
        flat_le 16777216 (λ d. filter (is_wanted_in f asking d) uses) (λ d. omega (
          arith,
          filter_le (is_wanted_in f asking d) uses,
          uses_few (asking_iterations f owners store asking p) (asking_few asking p),
        )) (below (length f.layouts)),
        length-range_with_len 0 (length f.layouts),
      )

  asked_few : (asking : Asking) (p q : ℕ) → length (asked_of f owners store asking p q) ≤ length f.layouts * 16777216
  asked_few asking p q = omega (arith, filter_le (λ u. page_met f u == q) (wanted_of f owners store asking p), wanted_few asking p)

  inspected_few : (p : ℕ) → length (inspected_by f p) ≤ length (iterations_of f.turn)
  inspected_few p = filter_le _ (iterations_of f.turn)

  executed_few : (p : ℕ) → length (executed_by f owners store p) ≤ length (iterations_of f.turn)
  executed_few p = filter_le _ (iterations_of f.turn)

  indexes_few : (level : Level) (p : ℕ) → length (indexes_of f store level p) ≤ length (flat_map (uses_at f store) (inspected_by f p))
  indexes_few level p =
      omega (
        arith,
        filter_le (λ u. is_at level u.plain) (index_uses_of f store p),
        filter_le (λ u. is_index u.role && is_met f.arrays u) (flat_map (uses_at f store) (inspected_by f p)),
      )

  fetched_few : (level : Level) (p q : ℕ) → length (fetched_of f owners store level p q) ≤ 16777216
  fetched_few level p q =
      omega (
        arith,
        filter_le (λ u. owner_met f owners u == q) (indexes_of f store level p),
        indexes_few level p,
        uses_few (inspected_by f p) (inspected_few p),
      )

  row_length : (i : ℤ) → length (iteration_row f store i) ≡ 1 + length (filter (λ (r : Reference). is_index r.role) f.site.references)
  row_length i =
      omega (
        arith,
        length-map (filter (λ (u : Use). is_index u.role) (uses_at f store i)) (read_of store),
        index_uses f.arrays f.turn.adds store i 0 None f.site.references,
      )

  sent_few : (p q : ℕ) → length (filter (λ i. home_of f owners store i == q) (inspected_by f p)) ≤ length (iterations_of f.turn)
  sent_few p q = omega (arith, filter_le (λ i. home_of f owners store i == q) (inspected_by f p), inspected_few p)

  -- so many numbers at all iterations
  numbers_few : (k : ℕ) → k ≤ length f.site.references + length f.site.references → length (iterations_of f.turn) * k ≤ 33554432
  numbers_few k few =
      let twice : length (iterations_of f.turn) * (length f.site.references + length f.site.references) ≡ length (iterations_of f.turn)
      * length f.site.references + length (iterations_of f.turn) * length f.site.references = omega arith in
      omega (arith, mul_right k (length f.site.references + length f.site.references) (length (iterations_of f.turn)) few, twice, work.most)

  -- elements, each once
  with_le : (xs : List Cell) (x : Cell) → length (with_cell xs x) ≤ length xs + 1
  with_le [] x = omega arith
  with_le (y ∷ ys) x = by (is_before x y) (is_before y x) (with_le ys x)
    where
      by : (b c : Bool) → length (with_cell ys x) ≤ length ys + 1
          → length (if b then x ∷ y ∷ ys else y ∷ (if c then with_cell ys x else ys)) ≤ length (y ∷ ys) + 1
      by true c h = omega arith
      by false true h = omega (arith, h)
      by false false h = omega arith

  fold_le : (cells acc : List Cell) → length (fold with_cell acc cells) ≤ length acc + length cells
  fold_le [] acc = omega arith
  fold_le (x ∷ xs) acc = omega (arith, fold_le xs (with_cell acc x), with_le acc x)

  cells_few : (is_wanted : Role → Bool) (p q : ℕ) → length (cells_of f owners store is_wanted p q) ≤ 16777216
  cells_few is_wanted p q =
      let uses : List Use = flat_map (uses_at f store) (executed_by f owners store p) in
      let some : List Use = filter (λ u. is_wanted u.role && owner_met f owners u == q) uses in
      omega (
        arith,
        fold_le (map cell_of some) [],
        length-map some cell_of,
        filter_le (λ u. is_wanted u.role && owner_met f owners u == q) uses,
        uses_few (executed_by f owners store p) (executed_few p),
      )

  between_le : (p q : ℕ) (cells : List Cell) → length (between_nodes p q cells) ≤ length cells
  between_le p q cells = by (p == q)
    where
      by : (b : Bool) → length (if b then [] else cells) ≤ length cells
      by true = omega arith
      by false = omega arith

  needed_few : (p q : ℕ) → length (needed_of f owners store p q) ≤ 16777216
  needed_few p q = omega (arith, between_le p q (cells_of f owners store is_read p q), cells_few is_read p q)

  given_few : (p q : ℕ) → length (given_of f owners store p q) ≤ 16777216
  given_few p q = omega (arith, between_le p q (cells_of f owners store is_target p q), cells_few is_target p q)

-- ---- one stage of a step

-- a step that prints has no other stage
abbrev pub IsSuited : Step → Stage → Type 0
IsSuited (Distribute d form) stage = Unit {0}
IsSuited (Print array) stage.Print = Unit {0}
IsSuited (Print array) (stage.Output j) = Unit {0}
IsSuited (Print array) _ = ⊥
IsSuited (Forall site turn) stage = Unit {0}

-- the numbers come in whole groups, and where their number is free it is small
pub record Measures (s : Scene) (past : List Step) (step : Step) (stage : Stage) (p q : ℕ) : Type 0 where
  pub groups : IsMultiple (group_of s.checked step stage) (length (numbers_at s past step stage p q))
  pub most : is_free stage ≡ true → length (numbers_at s past step stage p q) ≤ most_in stage

vote_groups : (o : Option Offence) → IsMultiple 4 (length (vote_numbers o)) × (length (vote_numbers o) ≤ 4)
vote_groups None = (nothing 4, omega arith)
vote_groups (Some o) = let z : 4 ≡ 1 * 4 = omega arith in ((1, z), omega arith)

layouts_length : (past : List Step) (a : ℕ) (ls : List LayoutName) → length (map (layout_at past) (enumerate_from a ls)) ≡ length ls
layouts_length past a [] = refl
layouts_length past a (l ∷ ls) = ap suc (layouts_length past (a + 1) ls)

print_measures : (s : Scene) (past : List Step) (array p : ℕ) → IsWithinLimits s
    → AreRows 2 1048576 (length (numbers_at s past (Print array) stage.Print p p))
print_measures s past array p small =
    let n : ℕ = (array_at s.checked.arrays array).extent in
    let keep : ℕ → Bool = λ g. owner_for s.checked.arrays (owners_at s past) array (pos g) == p in
    rows_are 2 1048576 (print_row (store_at s past) array) (λ g. refl) (filter keep (up_to n))
    (omega (arith, up_to_le keep n, small.extents array))

loop_measures : (s : Scene) (past : List Step) (site : ℕ) (turn : LoopTurn) (l : LoopPhase) (p q : ℕ) → IsWithinLimits s
    → IsStepWithin s.checked (Forall site turn)
    → Measures s past (Forall site turn) (stage.InLoop l) p q
loop_measures s past site turn l p q small work = by l
  where
    f : LoopFacts
    f = loop_at s past site turn

    owners : List (List ℕ)
    owners = owners_at s past

    store : List (List ℤ)
    store = store_at s past

    few_layouts : length f.layouts ≤ 128
    few_layouts = omega (arith, layouts_length past 0 s.checked.layouts, small.layouts)

    by : (l : LoopPhase) → Measures s past (Forall site turn) (stage.InLoop l) p q
    by (phase.DerefAsk asking) =
        let rows = rows_are 2 2147483648 (place_ask_of f) (λ u. refl) (asked_of f owners store asking p q)
        (omega (arith, asked_few f owners store work asking p q, few_layouts)) in
        record { groups = rows.groups; most = λ e. omega (arith, rows.within) }
    by (phase.DerefAnswer asking) =
        record {
          groups = (
            length (asked_of f owners store asking q p),
            flat_rows 2 (place_answer_of f owners) (λ u. refl)
                (asked_of f owners store asking q p),
          );
          most = λ (e : false ≡ true). cc;
        }
    by (phase.IndexAsk level) =
        let rows = rows_are 2 16777216 (index_ask_of f owners) (λ u. refl) (fetched_of f owners store level p q)
        (fetched_few f owners store work level p q) in
        record { groups = rows.groups; most = λ e. omega (arith, rows.within) }
    by (phase.IndexValues level) = record { groups = each_one _; most = λ (e : false ≡ true). cc }
    by phase.Vote = let v = vote_groups (vote_of f store p) in record { groups = v.0; most = λ e. v.1 }
    by phase.Iterations =
        let k : ℕ = 1 + length (filter (λ (r : Reference). is_index r.role) f.site.references) in
        let rows = rows_are k (length (iterations_of f.turn)) (iteration_row f store) (row_length f owners store work)
        (filter (λ i. home_of f owners store i == q) (inspected_by f p)) (sent_few f owners store work p q) in
        let few : length (iterations_of f.turn) * k ≤ 33554432 = numbers_few f owners store work k
        (omega (arith, filter_le (λ (r : Reference). is_index r.role) f.site.references, work.some)) in
        record { groups = rows.groups; most = λ e. omega (arith, rows.within, few) }
    by phase.ScheduleAsk =
        let reads = rows_are 4 16777216 (ask_row_of f owners (pos 0)) (λ x. refl) (needed_of f owners store p q)
        (needed_few f owners store work p q) in
        let targets = rows_are 4 16777216 (ask_row_of f owners (pos 1)) (λ x. refl) (given_of f owners store p q)
        (given_few f owners store work p q) in
        let both = length-append (flat_map (ask_row_of f owners (pos 0)) (needed_of f owners store p q))
        (flat_map (ask_row_of f owners (pos 1)) (given_of f owners store p q)) in
        let times : ℕ = reads.groups.0 + targets.groups.0 in
        record {
          groups = (times, omega (arith, both, reads.groups.1, targets.groups.1));
          most = λ e. omega (arith, both, reads.within, targets.within);
        }
    by phase.Gather =
        record {
          groups = (
            length (needed_of f owners store q p),
            flat_rows 3 (row_for (value_before store)) (λ x. refl)
                (needed_of f owners store q p),
          );
          most = λ (e : false ≡ true). cc;
        }
    by phase.Scatter =
        record {
          groups = (
            length (given_of f owners store p q),
            flat_rows 3 (row_for (value_given f owners store p)) (λ x. refl)
                (given_of f owners store p q),
          );
          most = λ (e : false ≡ true). cc;
        }

-- no numbers
none_measure : (s : Scene) (past : List Step) (step : Step) (stage : Stage) (p q : ℕ) → numbers_at s past step stage p q ≡ []
    → Measures s past step stage p q
none_measure s past step stage p q e = record {
  groups = subst (λ xs. IsMultiple (group_of s.checked step stage) (length xs)) (sym e) (nothing (group_of s.checked step stage));
  most = λ free. subst (λ xs. length xs ≤ most_in stage) (sym e) (omega arith);
}

move_measures : (s : Scene) (past : List Step) (d : ℕ) (form : StepForm) (which : Stage) (p q : ℕ) → IsWithinLimits s
    → Measures s past (Distribute d form) which p q
move_measures s past d form which p q small = by which
  where
    old : List ℕ
    old = list_at (owners_at s past) d

    new : List ℕ
    new = list_at (owners_at s (Distribute d form ∷ past)) d

    few : (keep : ℕ → Bool) (past : List Step) → length (filter keep (up_to (length (list_at (owners_at s past) d)))) ≤ 1048576
    few keep past = omega (arith, up_to_le keep (length (list_at (owners_at s past) d)), small.owners past d)

    by : (which : Stage) → Measures s past (Distribute d form) which p q
    by (stage.MapPairs array) =
        let rows = rows_are 2 1048576 (λ (g : ℕ). pos g ∷ pos (owner_in new g) ∷ []) (λ g. refl) _
        (few (λ g. (owner_for s.checked.arrays (owners_at s past) array (pos g) == p) && (page_of (length new) s.nodes g == q))
        (Distribute d form ∷ past)) in
        record { groups = rows.groups; most = λ e. omega (arith, rows.within) }
    by stage.PageCounts = record { groups = each_one _; most = λ (e : false ≡ true). cc }
    by stage.MovingAsk =
        let rows = rows_are 2 1048576 (λ (g : ℕ). pos d ∷ pos g ∷ []) (λ g. refl) (moving_of s.nodes old p q)
        (few (λ g. (owner_in old g == p) && (page_of (length old) s.nodes g == q)) past) in
        record { groups = rows.groups; most = λ e. omega (arith, rows.within) }
    by stage.MovingAnswer =
        record {
          groups = (
            length (moving_of s.nodes old q p),
            flat_rows 2 (λ (g : ℕ). pos (owner_in new g) ∷ pos (local_in new g) ∷ [])
                (λ g. refl) (moving_of s.nodes old q p),
          );
          most = λ (e : false ≡ true). cc;
        }
    by stage.Remap =
        let k : ℕ = 1 + length (arrays_in s.checked d) in
        let long : (e : ℕ) → length (remap_row s.checked (store_at s past) d e) ≡ k =
        λ e. omega (arith, length-map (arrays_in s.checked d) (λ array. value_on s.checked.arrays (store_at s past) array e)) in
        let rows = rows_are k 1048576 (remap_row s.checked (store_at s past) d) long _
        (few (λ e. (owner_in old e == p) && (owner_in new e == q)) past) in
        let arrays : length (arrays_in s.checked d) ≤ 64 = omega (
          arith,
          filter_le (λ array. decomposition_of s.checked.arrays array == d)
              (below (length s.checked.arrays)),
          length-range_with_len 0 (length s.checked.arrays),
          small.arrays,
        ) in
        record { groups = rows.groups; most = λ e. omega (arith, rows.within, arrays) }
    by stage.Print = none_measure s past (Distribute d form) stage.Print p q refl
    by (stage.Output j) = none_measure s past (Distribute d form) (stage.Output j) p q refl
    by (stage.InLoop l) = none_measure s past (Distribute d form) (stage.InLoop l) p q refl

pub measures : (s : Scene) (past : List Step) (step : Step) (stage : Stage) (p q : ℕ) → IsWithinLimits s → IsStepWithin s.checked step
    → IsSuited step stage
    → Measures s past step stage p q
measures s past (Distribute d form) stage p q small work suited = move_measures s past d form stage p q small
measures s past (Print array) stage.Print p q small work suited =
    let rows = print_measures s past array p small in record { groups = rows.groups; most = λ e. omega (arith, rows.within) }
measures s past (Print array) (stage.Output j) p q small work suited =
    let rows = print_measures s past array p small in record { groups = rows.groups; most = λ e. omega (arith, rows.within) }
measures s past (Print array) (stage.MapPairs a) p q small work suited = absurd suited
measures s past (Print array) stage.PageCounts p q small work suited = absurd suited
measures s past (Print array) stage.MovingAsk p q small work suited = absurd suited
measures s past (Print array) stage.MovingAnswer p q small work suited = absurd suited
measures s past (Print array) stage.Remap p q small work suited = absurd suited
measures s past (Print array) (stage.InLoop l) p q small work suited = absurd suited
measures s past (Forall site turn) (stage.InLoop l) p q small work suited = loop_measures s past site turn l p q small work
measures s past (Forall site turn) (stage.MapPairs a) p q small work suited = none_measure s past (Forall site turn) (stage.MapPairs a) p
    q refl
measures s past (Forall site turn) stage.PageCounts p q small work suited = none_measure s past (Forall site turn) stage.PageCounts p q refl
measures s past (Forall site turn) stage.MovingAsk p q small work suited = none_measure s past (Forall site turn) stage.MovingAsk p q refl
measures s past (Forall site turn) stage.MovingAnswer p q small work suited = none_measure s past (Forall site turn) stage.MovingAnswer p
    q refl
measures s past (Forall site turn) stage.Remap p q small work suited = none_measure s past (Forall site turn) stage.Remap p q refl
measures s past (Forall site turn) stage.Print p q small work suited = none_measure s past (Forall site turn) stage.Print p q refl
measures s past (Forall site turn) (stage.Output j) p q small work suited = none_measure s past (Forall site turn) (stage.Output j) p q refl

-- ---- the scene of a run is small

store_fits : (c : Checked) (step : Step) (store : List (List ℤ)) → FitsStore c.arrays store → FitsStore c.arrays (after_step c step store)
store_fits c step store fits =
    run_keeps_lengths (record { checked = c; nodes = 1; rule = Owner; stores = store ∷ after_step c step store ∷ [] }) (step ∷ [])
    (refl, tt) fits

past_fits : (c : Checked) (step : Step) (store : List (List ℤ)) (o : Option Refused) (rest : Run) → FitsStore c.arrays store
    → AllByRecursion (FitsStore c.arrays) (stores_of rest) → AllByRecursion (FitsStore c.arrays) (stores_of (run_past step store o rest))
past_fits c step store None rest fits all = (fits, all)
past_fits c step store (Some r) rest fits all = (fits, (fits, tt))

stores_fit : (c : Checked) (steps : List Step) (store : List (List ℤ)) → FitsStore c.arrays store
    → AllByRecursion (FitsStore c.arrays) (stores_of (run_from c steps store))
stores_fit c [] store fits = (fits, tt)
stores_fit c (step ∷ steps) store fits =
    past_fits c step store (refusal_of c step store) (run_from c steps (after_step c step store)) fits
    (stores_fit c steps (after_step c step store) (store_fits c step store fits))

abbrev pub IsSmallArray : ArrayFacts → Type 0
IsSmallArray a = a.extent ≤ 1048576

list_small : (arrays : List ArrayFacts) (store : List (List ℤ)) (k : ℕ) → map length store ≡ map (λ (a : ArrayFacts). a.extent) arrays
    → AllByRecursion IsSmallArray arrays
    → length (list_at store k) ≤ 1048576
list_small arrays [] zero e h = omega arith
list_small arrays [] (suc k) e h = omega arith
list_small [] (x ∷ xs) k e h = cc
list_small (a ∷ arrays) (x ∷ xs) zero e h = let same : length x ≡ a.extent = cc in omega (arith, same, h.0)
list_small (a ∷ arrays) (x ∷ xs) (suc k) e h = let rest : map length xs ≡ map (λ (a : ArrayFacts). a.extent) arrays = cc in
    list_small arrays xs k rest h.1

lists_small : (arrays : List ArrayFacts) (stores : List (List (List ℤ))) (j k : ℕ) → AllByRecursion (FitsStore arrays) stores
    → AllByRecursion IsSmallArray arrays
    → length (list_at (list_at stores j) k) ≤ 1048576
lists_small arrays [] zero zero all h = omega arith
lists_small arrays [] zero (suc k) all h = omega arith
lists_small arrays [] (suc j) zero all h = omega arith
lists_small arrays [] (suc j) (suc k) all h = omega arith
lists_small arrays (x ∷ xs) zero k all h = list_small arrays x k all.0 h
lists_small arrays (x ∷ xs) (suc j) k all h = lists_small arrays xs j k all.1 h

extent_small : (arrays : List ArrayFacts) (k : ℕ) → AllByRecursion IsSmallArray arrays → (array_at arrays k).extent ≤ 1048576
extent_small [] zero h = omega arith
extent_small [] (suc k) h = omega arith
extent_small (a ∷ arrays) zero h = h.0
extent_small (a ∷ arrays) (suc k) h = extent_small arrays k h.1

abbrev pub IsSmallLayout : LayoutName → Type 0
IsSmallLayout l = l.extent ≤ 1048576

owners_small : (s : Scene) (past : List Step) (ls : List LayoutName) (a d : ℕ) → AllByRecursion IsSmallLayout ls
    → ((before : List Step) (array : ℕ) → length (list_at (store_at s before) array) ≤ 1048576)
    → length (list_at (map (λ (d, l). owners_by s l.extent (form_set past d)) (enumerate_from a ls)) d) ≤ 1048576
owners_small s past [] a zero h stores = omega arith
owners_small s past [] a (suc d) h stores = omega arith
owners_small s past (l ∷ ls) a zero h stores = by (form_set past a)
  where
    by : (form : StepForm × List Step) → length (owners_by s l.extent form) ≤ 1048576
    by (Regular shape, before) = omega (
      arith,
      length-map (up_to l.extent) (owner_of shape l.extent s.nodes),
      length-range_with_len 1 l.extent,
      h.0,
    )
    by (Map array, before) = omega (
      arith,
      length-map (list_at (store_at s before) array) (λ v. remainder_of v s.nodes),
      stores before array,
    )
owners_small s past (l ∷ ls) a (suc d) h stores = owners_small s past ls (a + 1) d h.1 stores

weaker : {A : Type 0} (P Q : A → Type 0) → ((x : A) → P x → Q x) → (xs : List A) → AllByRecursion P xs → AllByRecursion Q xs
weaker P Q h [] all = tt
weaker P Q h (x ∷ xs) all = (h x all.0, weaker P Q h xs all.1)

pub scene_is_small : (c : Checked) (nodes : ℕ) (rule : HomeRule) (store : List (List ℤ)) → IsChecked c → FitsStore c.arrays store
    → IsWithinLimits (scene_of c nodes rule (run_of c store))
scene_is_small c nodes rule store checked fits =
    let s = scene_of c nodes rule (run_of c store) in
    let arrays : AllByRecursion IsSmallArray c.arrays =
    weaker (IsAligned c.layouts) IsSmallArray (λ a h. h.extent.most) c.arrays
    (recursion_from_All (IsAligned c.layouts) c.arrays checked.arrays) in
    let layouts : AllByRecursion IsSmallLayout c.layouts =
    weaker (λ (l : LayoutName). IsExtent l.extent) IsSmallLayout (λ l h. h.most) c.layouts
    (recursion_from_All (λ (l : LayoutName). IsExtent l.extent) c.layouts checked.layouts) in
    let stores : (before : List Step) (array : ℕ) → length (list_at (store_at s before) array) ≤ 1048576 =
    λ before array. lists_small c.arrays s.stores (length before) array (stores_fit c (trace_of c) store fits) arrays in
    record {
      arrays = checked.few_arrays;
      layouts = checked.few_layouts;
      extents = λ array. extent_small c.arrays array arrays;
      owners = λ past d. owners_small s past c.layouts 0 d layouts stores;
    }

-- ---- all phases

abbrev pub IsPhaseWithin : Checked → Phase → Type 0
IsPhaseWithin c f = IsStepWithin c f.step × IsSuited f.step f.stage

all_before : (c : Checked) (later : List Phase) (past : List Step) (step : Step) (execution : ℕ) (stages : List Stage) → IsStepWithin c step
    → AllByRecursion (IsSuited step) stages → AllByRecursion (IsPhaseWithin c) later
    → AllByRecursion (IsPhaseWithin c) (phases_before later past step execution stages)
all_before c later past step execution [] work suited all = all
all_before c later past step execution (stage ∷ stages) work suited all =
    ((work, suited.0), all_before c later past step execution stages work suited.1 all)

all_outputs : (c : Checked) (steps : ℕ) (past : List Step) (j : ℕ) (os : List OutputName)
    → AllByRecursion (IsPhaseWithin c) (output_phases steps past j os)
all_outputs c steps past j [] = tt
all_outputs c steps past j (o ∷ os) = ((tt, tt), all_outputs c steps past (j + 1) os)

any_suits_move : (d : ℕ) (form : StepForm) (stages : List Stage) → AllByRecursion (IsSuited (Distribute d form)) stages
any_suits_move d form [] = tt
any_suits_move d form (stage ∷ stages) = (tt, any_suits_move d form stages)

any_suits_loop : (site : ℕ) (turn : LoopTurn) (stages : List Stage) → AllByRecursion (IsSuited (Forall site turn)) stages
any_suits_loop site turn [] = tt
any_suits_loop site turn (stage ∷ stages) = (tt, any_suits_loop site turn stages)

stages_suit : (c : Checked) (nodes : ℕ) (rule : HomeRule) (past : List Step) (step : Step)
    → AllByRecursion (IsSuited step) (stages_of c nodes rule past step)
stages_suit c nodes rule past (Distribute d form) = any_suits_move d form (stages_of c nodes rule past (Distribute d form))
stages_suit c nodes rule past (Print array) = (tt, tt)
stages_suit c nodes rule past (Forall site turn) = any_suits_loop site turn (stages_of c nodes rule past (Forall site turn))

all_from : (c : Checked) (nodes : ℕ) (rule : HomeRule) (past steps : List Step) → AllByRecursion (IsStepWithin c) steps
    → AllByRecursion (IsPhaseWithin c) (phases_from c nodes rule past steps)
all_from c nodes rule past [] work = all_outputs c (length past) past 0 c.outputs
all_from c nodes rule past (step ∷ steps) work =
    all_before c (phases_from c nodes rule (step ∷ past) steps) past step (length past) (stages_of c nodes rule past step) work.0
    (stages_suit c nodes rule past step) (all_from c nodes rule (step ∷ past) steps work.1)

all_cut : (c : Checked) (k : ℕ) (outs fs : List Phase) → AllByRecursion (IsPhaseWithin c) outs → AllByRecursion (IsPhaseWithin c) fs
    → AllByRecursion (IsPhaseWithin c) (cut_at k outs fs)
all_cut c k outs [] ho h = tt
all_cut c k outs (f ∷ fs) ho h = (h.0, by (is_vote_of k f) (all_cut c k outs fs ho h.1))
  where
    by : (b : Bool) → AllByRecursion (IsPhaseWithin c) (cut_at k outs fs)
        → AllByRecursion (IsPhaseWithin c) (if b then outs else cut_at k outs fs)
    by true rest = ho
    by false rest = rest

all_phases : (c : Checked) (nodes : ℕ) (rule : HomeRule) (past : List Step) (b : Bool) → AllByRecursion (IsStepWithin c) (trace_of c)
    → AllByRecursion (IsPhaseWithin c) (cut_phases c (phases_from c nodes rule [] (trace_of c)) past b)
all_phases c nodes rule past false work = all_from c nodes rule [] (trace_of c) work
all_phases c nodes rule past true work =
    all_cut c (length past) (output_phases (length (trace_of c)) past 0 c.outputs) (phases_from c nodes rule [] (trace_of c))
    (all_outputs c (length (trace_of c)) past 0 c.outputs) (all_from c nodes rule [] (trace_of c) work)

are_measured : (s : Scene) (fs : List Phase) → IsWithinLimits s → AllByRecursion (IsPhaseWithin s.checked) fs → AreMeasured s fs
are_measured s [] small all = tt
are_measured s (f ∷ fs) small all = (
  (λ p q. let m = measures s f.past f.step f.stage p q small all.0.0 all.0.1 in record { groups = m.groups; most = m.most }),
  are_measured s fs small all.1,
)

-- the letters of each phase
abbrev pub LettersAreMeasured : Type 0
LettersAreMeasured = (plan : RunPlan) → IsChecked plan.checked → FitsStore plan.checked.arrays plan.store → IsWithin plan.checked
    → AreMeasured (scene_in plan) (phases_in plan)

pub letters_are_measured : LettersAreMeasured
letters_are_measured plan checked fits within =
    are_measured (scene_in plan) (phases_in plan) (scene_is_small plan.checked plan.nodes plan.rule plan.store checked fits)
    (all_phases plan.checked plan.nodes plan.rule (completed_of (run_in plan)) (is_some (run_in plan).refused) within.work)
