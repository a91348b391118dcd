-- What a FORALL counts behind an execution.
use Rattle.std.specs.Prelude.{◌≡◌, refl, ℕ, zero, suc, ◌-◌, ◌<◌, ℤ, pos, Bool, true, false, if◌then◌else◌, List, [], ◌∷◌, ◌++◌, length, map}
use Rattle.std.specs.Prelude.{slice_get, sum_by, Option, Some}
use Rattle.std.specs.List.{AllByRecursion}
use Rattle.std.specs.Option.{option_map_or}
use Rattle.std.specs.Ordering.{int_eq}
use Rattle.std.proofs.Common.{ap, ◌∙◌, arith, append-nil}
use Rattle.std.proofs.lemmas.Bool.Decides.{nat_tests}
use Rattle.chaos_executing.specs.Counts.{CountsAreReported}
use Rattle.plan_tables.specs.Fits.{Fits}
use Rattle.chaos_sched.specs.declared.prepared.Prepared.{Prepared}
use Rattle.fd_program.specs.Homes.{needed_of}
use Rattle.fd_program.specs.ListLaws.{all_append, all_weaker}
use Rattle.fd_program.specs.Past.{inspecting_of, inspects_step}
use Rattle.fd_program.specs.Reports.{count_of_loop, total_of}
use Rattle.fd_program.specs.declared.checked.Checked.{Checked}
use Rattle.fd_program.specs.declared.count.SiteCount.{SiteCount}
use Rattle.fd_program.specs.declared.loop_facts.LoopFacts.{LoopFacts}
use Rattle.fd_program.specs.declared.trace.Step.{Step}
use Rattle.chaos_holdings.specs.Executions.{counted_with, is_last}

-- ---- the last of the executions that inspect

abbrev one_if : Bool → ℕ → List ℕ
one_if b n = if b then n ∷ [] else []

inspecting_below : (c : Checked) (past : List Step) → AllByRecursion (λ n. n < length past) (inspecting_of c past)
inspecting_below c [] = tt
inspecting_below c (step ∷ past) =
    all_append (λ n. n < suc (length past)) (inspecting_of c past) (one_if (inspects_step c past step) (length past))
    (all_weaker (λ n. n < length past) (λ n. n < suc (length past)) (λ n h. omega (arith, h)) (inspecting_of c past)
    (inspecting_below c past))
    (by (inspects_step c past step))
  where
    by : (b : Bool) → AllByRecursion (λ n. n < suc (length past)) (one_if b (length past))
    by true = (omega arith, tt)
    by false = tt

length_behind : (xs : List ℕ) (n : ℕ) → length (map pos (xs ++ n ∷ [])) ≡ suc (length xs)
length_behind [] n = refl
length_behind (x ∷ xs) n = ap suc (length_behind xs n)

get_behind : (xs : List ℕ) (n : ℕ) → slice_get (map pos (xs ++ n ∷ [])) (length xs) ≡ Some (pos n)
get_behind [] n = refl
get_behind (x ∷ xs) n = get_behind xs n

same_int : (n : ℕ) → int_eq (pos n) (pos n) ≡ true
same_int n = grind (arith, nat_tests)

other_int : (m n : ℕ) → m < n → int_eq (pos m) (pos n) ≡ false
other_int m n h = grind (arith, nat_tests)

not_there : (xs : List ℕ) (n k : ℕ) → AllByRecursion (λ m. m < n) xs
    → option_map_or (λ (x : ℤ). int_eq x (pos n)) (slice_get (map pos xs) k) false ≡ false
not_there [] n zero h = refl
not_there [] n (suc k) h = refl
not_there (x ∷ xs) n zero h = other_int x n h.0
not_there (x ∷ xs) n (suc k) h = not_there xs n k h.1

last_tells : (xs : List ℕ) (n : ℕ) (b : Bool) → AllByRecursion (λ m. m < n) xs → is_last (map pos (xs ++ one_if b n)) n ≡ b
last_tells xs n true h =
    let here : length (map pos (xs ++ n ∷ [])) - 1 ≡ length xs = omega (arith, length_behind xs n) in
    ap (λ k. option_map_or (λ (x : ℤ). int_eq x (pos n)) (slice_get (map pos (xs ++ n ∷ [])) k) false) here
    ∙ ap (λ o. option_map_or (λ (x : ℤ). int_eq x (pos n)) o false) (get_behind xs n) ∙ same_int n
last_tells xs n false h =
    ap (λ l. is_last (map pos l) n) (append-nil xs) ∙ not_there xs n (length (map pos xs) - 1) h

-- the present execution is the last of those that inspect exactly where it inspects
pub last_inspects : (c : Checked) (past : List Step) (step : Step) → is_last (map pos (inspecting_of c (step ∷ past))) (length past)
    ≡ inspects_step c past step
last_inspects c past step = last_tells (inspecting_of c past) (length past) (inspects_step c past step) (inspecting_below c past)

-- ---- what is counted

abbrev count_with : Bool → ℕ → ℕ → SiteCount
count_with b gathered scattered = record { executed = 1; inspected = if b then 1 else 0; gathered = gathered; scattered = scattered }

pub counted_same : CountsAreReported → (f : LoopFacts) (owners : List (List ℕ)) (store : List (List ℤ)) (slots : ℕ → ℕ → Option ℕ) (p : ℕ)
    (kept : Prepared) (b : Bool)
    → Fits f owners store slots p kept → counted_with kept b ≡ count_of_loop f owners store b p
counted_same reported f owners store slots p kept b fits =
    let both = reported f owners store slots p kept fits in
    ap (λ n. count_with b n (sum_by (λ items. length items) kept.schedule.scatter_send)) both.0
    ∙ ap (λ n. count_with b (total_of f.nodes (needed_of f owners store p)) n) both.1
