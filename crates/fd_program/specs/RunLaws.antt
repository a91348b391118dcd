-- How a run goes from one step to the next, and what the steps between two tell of the stores there.
use Rattle.std.specs.Prelude.{◌≡◌, ◌≢◌, refl, ℕ, zero, suc, ◌+◌, ◌-◌, ◌≤◌, ℤ, Bool, true, false, not, ◌&&◌, ◌||◌, ◌==◌, if◌then◌else◌, List}
use Rattle.std.specs.Prelude.{[], ◌∷◌, ◌++◌, length, map, fold, is_some, drop, slice_get, unwrap_or, Option, Some, None, IsSomeAnd, ◌⊎◌}
use Rattle.std.specs.List.{AllByRecursion, list_any}
use Rattle.std.specs.Option.{option_map_or}
use Rattle.std.proofs.Common.{ap, sym, ◌∙◌, subst, arith, inl, inr, append_assoc}
use Rattle.std.proofs.lemmas.Bool.Decides.{nat_tests}
use Rattle.std.proofs.lemmas.Grind.{reverse_onto}
use Rattle.std.proofs.lemmas.List.Elements.{recursion_from_All}
use Rattle.fd_words.specs.Lists.{list_at}
use Rattle.fd_words.specs.declared.place.Role.TheVariants.{Target}
use Rattle.fd_program.specs.Checks.{IsChecked, IsSite, IsStatement, HasRole}
use Rattle.fd_program.specs.Layouts.{Scene, scene_of, store_at}
use Rattle.fd_program.specs.ListLaws.{all_weaker, all_map, all_flat_map, all_at}
use Rattle.fd_program.specs.LoopCases.{use_at-array}
use Rattle.fd_program.specs.LoopLaws.{at_set_other}
use Rattle.fd_program.specs.Loops.{Write, written, write_of, writes_at, writes_of, after_loop, target_of, iterations_of}
use Rattle.fd_program.specs.Past.{has_target, is_changing, change_at}
use Rattle.fd_program.specs.Reports.{executed_of, completed_of}
use Rattle.fd_program.specs.Runs.{Run, run_past, run_from, run_of, stores_of, refusal_of, after_step}
use Rattle.fd_program.specs.Texts.{array_of}
use Rattle.fd_program.specs.Trace.{trace_of, site_at, no_site, is_empty_turn}
use Rattle.fd_program.specs.Uses.{uses_of}
use Rattle.fd_words.specs.Roles.{is_target}
use Rattle.fd_program.specs.declared.array.ArrayFacts.{ArrayFacts}
use Rattle.fd_program.specs.declared.body.CheckedBody.{CheckedBody}
use Rattle.fd_program.specs.declared.checked.Checked.{Checked}
use Rattle.fd_program.specs.declared.loop_facts.HomeRule.{HomeRule}
use Rattle.fd_program.specs.declared.reference.Reference.{Reference}
use Rattle.fd_program.specs.declared.refused.Refused.{Refused}
use Rattle.fd_program.specs.declared.site.Site.{Site}
use Rattle.fd_program.specs.declared.trace.LoopTurn.{LoopTurn}
use Rattle.fd_program.specs.declared.trace.Step.{Step}
use Rattle.fd_program.specs.declared.trace.Step.TheVariants.{Distribute, Print, Forall}

-- ---- from one step to the next

-- after the completed steps `past` the run of the scene has come to the steps `rest`
abbrev pub IsReached : Scene → List Step → List Step → Type 0
IsReached s past rest = drop (length past) s.stores ≡ stores_of (run_from s.checked rest (store_at s past))

get_first : {A : Type 0} (n : ℕ) (xs : List A) (x : A) (rest : List A) → drop n xs ≡ x ∷ rest → slice_get xs n ≡ Some x
get_first zero [] x rest e = cc
get_first zero (y ∷ ys) x rest e = ap (λ l. slice_get l 0) e
get_first (suc n) [] x rest e = cc
get_first (suc n) (y ∷ ys) x rest e = get_first n ys x rest e

pub drop_first : {A : Type 0} (n : ℕ) (xs : List A) (x : A) (rest : List A) → drop n xs ≡ x ∷ rest → drop (suc n) xs ≡ rest
drop_first zero [] x rest e = cc
drop_first zero (y ∷ ys) x rest e = ap (drop 1) e
drop_first (suc n) [] x rest e = cc
drop_first (suc n) (y ∷ ys) x rest e = drop_first n ys x rest e

-- the stores of a run begin with the store before it
stores_past : (step : Step) (store : List (List ℤ)) (o : Option Refused) (run : Run) → (rest : List (List (List ℤ)))
    × (stores_of (run_past step store o run) ≡ store ∷ rest)
stores_past step store None run = (stores_of run, refl)
stores_past step store (Some r) run = (store ∷ [], refl)

stores_first : (c : Checked) (steps : List Step) (store : List (List ℤ)) → (rest : List (List (List ℤ)))
    × (stores_of (run_from c steps store) ≡ store ∷ rest)
stores_first c [] store = ([], refl)
stores_first c (step ∷ steps) store = stores_past step store (refusal_of c step store) (run_from c steps (after_step c step store))

completed_past : (step : Step) (store : List (List ℤ)) (o : Option Refused) (run : Run) → o ≡ None → stores_of (run_past step store o run)
    ≡ store ∷ stores_of run
completed_past step store None run e = refl
completed_past step store (Some r) run e = cc

-- a step that isn't refused leads to the next
pub reached_next : (s : Scene) (past : List Step) (step : Step) (rest : List Step) → IsReached s past (step ∷ rest)
    → refusal_of s.checked step (store_at s past) ≡ None
    → (store_at s (step ∷ past) ≡ after_step s.checked step (store_at s past)) × IsReached s (step ∷ past) rest
reached_next s past step rest here none =
    let after = after_step s.checked step (store_at s past) in
    let all : drop (length past) s.stores ≡ store_at s past ∷ stores_of (run_from s.checked rest after)
    = here ∙ completed_past step (store_at s past) (refusal_of s.checked step (store_at s past)) (run_from s.checked rest after) none in
    let left : drop (suc (length past)) s.stores ≡ stores_of (run_from s.checked rest after) = drop_first (length past) s.stores _ _ all in
    let head = stores_first s.checked rest after in
    let got : store_at s (step ∷ past) ≡ after = ap (λ o. unwrap_or o []) (get_first (suc (length past)) s.stores after head.0 (left
    ∙ head.1)) in
    (got, left ∙ ap (λ store. stores_of (run_from s.checked rest store)) (sym got))

-- the stores of the scene are those that the completed steps leave, one after another
abbrev pub IsHistory : Scene → List Step → Type 0
IsHistory s [] = Unit {0}
IsHistory s (step ∷ past) = (store_at s (step ∷ past) ≡ after_step s.checked step (store_at s past)) × IsHistory s past

-- ---- an array that no step changes keeps its values

not_written : (ws : List Write) (store : List (List ℤ)) (array : ℕ) → AllByRecursion (λ (w : Write). w.array ≢ array) ws
    → list_at (fold written store ws) array ≡ list_at store array
not_written [] store array h = refl
not_written (w ∷ ws) store array h = not_written ws (written store w) array h.1 ∙ at_set_other store w.array array _ [] h.0

any_false : {A : Type 0} (q : A → Bool) (xs : List A) (k : ℕ) (x : A) → list_any q xs ≡ false → slice_get xs k ≡ Some x → q x ≡ false
any_false q [] k x none e = cc
any_false {A} q (y ∷ ys) k x none e = by k (q y) refl none e (any_false q ys)
  where
    by : (k : ℕ) (b : Bool) → q y ≡ b → (b || list_any q ys) ≡ false → slice_get (y ∷ ys) k ≡ Some x
        → ((j : ℕ) (z : A) → list_any q ys ≡ false → slice_get ys j ≡ Some z → q z ≡ false) → q x ≡ false
    by k true s none e rest = cc
    by zero false s none e rest = let same : y ≡ x = cc in subst (λ z. q z ≡ false) same s
    by (suc j) false s none e rest = rest j x none e

-- a statement doesn't write to an array that isn't a target
other_target : (site : Site) (array : ℕ) (s : CheckedBody) → has_target site array ≡ false → IsStatement site s
    → array_of site.references (target_of s) ≢ array
other_target site array s none known = by (target_of s) refl known.target
  where
    at_place : (k : ℕ) (o : Option Reference) → slice_get site.references k ≡ o → IsSomeAnd o (λ r. r.role ≡ Target)
        → option_map_or (λ (r : Reference). r.array) o 0 ≢ array
    at_place k None e h = absurd h
    at_place k (Some r) e h = λ same.
        let is_it : is_target r.role ≡ true = ap is_target h in
        let missed : (is_target r.role && (r.array == array)) ≡ false =
        any_false (λ (q : Reference). is_target q.role && (q.array == array)) site.references k r none e in
        let hit : (r.array == array) ≡ true = (let f : r.array ≡ array = same in grind (arith, nat_tests)) in
        let found : (is_target r.role && (r.array == array)) ≡ true = ap (λ b. b && (r.array == array)) is_it ∙ hit in
        cc

    by : (number : ℕ) → target_of s ≡ number → HasRole site.references Target (target_of s) → array_of site.references (target_of s) ≢ array
    by zero e role = absurd (let some : 1 ≤ target_of s = role.0 in omega (arith, e, some))
    by (suc k) e role =
        let back : target_of s - 1 ≡ k = omega (arith, e) in
        let there = subst (λ n. IsSomeAnd (slice_get site.references n) (λ r. r.role ≡ Target)) back role.1 in
        subst (λ n. array_of site.references n ≢ array) (sym e) (at_place k (slice_get site.references k) refl there)

pub after_loop-other : (arrays : List ArrayFacts) (site : Site) (turn : LoopTurn) (store : List (List ℤ)) (array : ℕ)
    → AllByRecursion (IsStatement site) site.body → has_target site array ≡ false
    → list_at (after_loop arrays site turn store) array ≡ list_at store array
after_loop-other arrays site turn store array known none =
    not_written (writes_of arrays site turn store) store array
    (all_flat_map (λ (w : Write). w.array ≢ array) (writes_at arrays site turn store) (iterations_of turn) (each (iterations_of turn)))
  where
    at_iteration : (i : ℤ) → AllByRecursion (λ (w : Write). w.array ≢ array) (writes_at arrays site turn store i)
    at_iteration i =
        all_map (λ (w : Write). w.array ≢ array) (write_of turn.terms store i (uses_of arrays site turn store i)) site.body
        (all_weaker (IsStatement site) (λ s. (write_of turn.terms store i (uses_of arrays site turn store i) s).array ≢ array)
        (λ s k. subst (λ n. n ≢ array) (sym (use_at-array arrays site turn store i (target_of s))) (other_target site array s none k))
        site.body known)

    each : (is : List ℤ) → AllByRecursion (λ i. AllByRecursion (λ (w : Write). w.array ≢ array) (writes_at arrays site turn store i)) is
    each [] = tt
    each (i ∷ is) = (at_iteration i, each is)

-- the statements of a FORALL of a checked program
pub statements_of : (c : Checked) (k : ℕ) → IsChecked c → AllByRecursion (IsStatement (site_at c.sites k)) (site_at c.sites k).body
statements_of c k known = by (slice_get c.sites k) refl
  where
    by : (o : Option Site) → slice_get c.sites k ≡ o → AllByRecursion (IsStatement (unwrap_or o no_site)) (unwrap_or o no_site).body
    by None e = tt
    by (Some site) e =
        let it : IsSite c.arrays site = all_at (IsSite c.arrays) c.sites k site (recursion_from_All (IsSite c.arrays) c.sites known.sites)
        e in
        recursion_from_All (IsStatement site) site.body it.body

-- a step that doesn't change an array keeps its values
changes_nothing : (c : Checked) (site : ℕ) (turn : LoopTurn) (store : List (List ℤ)) (array : ℕ) → IsChecked c
    → is_changing c site turn array ≡ false
    → list_at (after_step c (Forall site turn) store) array ≡ list_at store array
changes_nothing c site turn store array known none = by (is_empty_turn turn) refl none
  where
    by : (b : Bool) → is_empty_turn turn ≡ b → (not b && has_target (site_at c.sites site) array) ≡ false
        → list_at (if b then store else after_loop c.arrays (site_at c.sites site) turn store) array ≡ list_at store array
    by true e h = refl
    by false e h = after_loop-other c.arrays (site_at c.sites site) turn store array (statements_of c site known) h

-- ---- the steps before, of those before a later step

-- `before` are the steps before an earlier step or the same, the latest first
abbrev pub IsBefore : List Step → List Step → Type 0
IsBefore before [] = before ≡ []
IsBefore before (step ∷ past) = (before ≡ step ∷ past) ⊎ IsBefore before past

before_length : (before past : List Step) → IsBefore before past → length before ≤ length past
before_length before [] h = let e : length before ≡ 0 = ap length h in omega (arith, e)
before_length before (step ∷ past) (inl e) = let same : length before ≡ suc (length past) = ap length e in omega (arith, same)
before_length before (step ∷ past) (inr h) = omega (arith, before_length before past h)

change_within : (c : Checked) (past : List Step) (array : ℕ) → change_at c past array ≤ length past
change_within c [] array = omega arith
change_within c (Distribute d form ∷ past) array = omega (arith, change_within c past array)
change_within c (Print other ∷ past) array = omega (arith, change_within c past array)
change_within c (Forall site turn ∷ past) array = by (is_changing c site turn array) (change_within c past array)
  where
    by : (b : Bool) → change_at c past array ≤ length past → (if b then length past + 1 else change_at c past array) ≤ suc (length past)
    by true h = omega arith
    by false h = omega (arith, h)

-- an array whose change number is the same has the same values
pub same_change : (s : Scene) (before past : List Step) (array : ℕ) → IsChecked s.checked → IsBefore before past → IsHistory s past
    → change_at s.checked before array ≡ change_at s.checked past array → list_at (store_at s before) array
    ≡ list_at (store_at s past) array
same_change s before [] array known h history same = ap (λ p. list_at (store_at s p) array) h
same_change s before (step ∷ past) array known (inl e) history same = ap (λ p. list_at (store_at s p) array) e
same_change s before (Distribute d form ∷ past) array known (inr h) history same =
    same_change s before past array known h history.1 same ∙ ap (λ store. list_at store array) (sym history.0)
same_change s before (Print other ∷ past) array known (inr h) history same =
    same_change s before past array known h history.1 same ∙ ap (λ store. list_at store array) (sym history.0)
same_change s before (Forall site turn ∷ past) array known (inr h) history same =
    by (is_changing s.checked site turn array) refl same (same_change s before past array known h history.1)
  where
    by : (b : Bool) → is_changing s.checked site turn array ≡ b
        → change_at s.checked before array ≡ (if b then length past + 1 else change_at s.checked past array)
        → (change_at s.checked before array ≡ change_at s.checked past array → list_at (store_at s before) array
        ≡ list_at (store_at s past) array)
        → list_at (store_at s before) array ≡ list_at (store_at s (Forall site turn ∷ past)) array
    by true e f rest = absurd (omega (arith, change_within s.checked before array, before_length before past h, f))
    by false e f rest =
        rest f ∙ sym (changes_nothing s.checked site turn (store_at s past) array known e)
        ∙ ap (λ store. list_at store array) (sym history.0)

-- ---- the run of a program

-- the stores of a run are those that its completed steps leave, one after another
abbrev pub RunHasHistory : Type 0
RunHasHistory = (c : Checked) (nodes : ℕ) (rule : HomeRule) (store : List (List ℤ)) → IsHistory (scene_of c nodes rule (run_of c store))
    (completed_of (run_of c store))

-- the completed steps of a run that went on after `past`, the latest first
abbrev completed_on : Run → List Step → List Step
completed_on run past = drop (if is_some run.refused then 1 else 0) (executed_of run ++ past)

one_completed : (step : Step) (store : List (List ℤ)) (run : Run) (past : List Step) → completed_on (run_past step store None run) past
    ≡ completed_on run (step ∷ past)
one_completed step store run past =
    ap (drop (if is_some run.refused then 1 else 0))
    (ap (λ l. l ++ past) (reverse_onto (map (λ s. s.0) run.executed) step []) ∙ append_assoc (executed_of run) (step ∷ []) past)

history_on : (s : Scene) (past rest : List Step) → IsReached s past rest → IsHistory s past
    → IsHistory s (completed_on (run_from s.checked rest (store_at s past)) past)
history_on s past [] here history = history
history_on s past (step ∷ rest) here history =
    by (refusal_of s.checked step (store_at s past)) refl (λ reached more. history_on s (step ∷ past) rest reached more)
  where
    by : (o : Option Refused) → refusal_of s.checked step (store_at s past) ≡ o
        → (IsReached s (step ∷ past) rest → IsHistory s (step ∷ past)
        → IsHistory s (completed_on (run_from s.checked rest (store_at s (step ∷ past))) (step ∷ past)))
        → IsHistory s (completed_on (run_past step (store_at s past) o
        (run_from s.checked rest (after_step s.checked step (store_at s past)))) past)
    by (Some r) e onwards = history
    by None e onwards =
        let next = reached_next s past step rest here e in
        let run = run_from s.checked rest (after_step s.checked step (store_at s past)) in
        subst (λ steps. IsHistory s steps) (sym (one_completed step (store_at s past) run past))
        (subst (λ store. IsHistory s (completed_on (run_from s.checked rest store) (step ∷ past))) next.0
        (onwards next.1 (next.0, history)))

-- the run of a scene begins with its first store
pub reached_start : (c : Checked) (nodes : ℕ) (rule : HomeRule) (store : List (List ℤ))
    → IsReached (scene_of c nodes rule (run_of c store)) [] (trace_of c)
reached_start c nodes rule store =
    let first = stores_first c (trace_of c) store in
    let begins : store ≡ store_at (scene_of c nodes rule (run_of c store)) [] = sym (ap (λ stores. list_at stores 0) first.1) in
    ap (λ begin. stores_of (run_from c (trace_of c) begin)) begins

pub run_has_history : RunHasHistory
run_has_history c nodes rule store =
    let s = scene_of c nodes rule (run_of c store) in
    let first = stores_first c (trace_of c) store in
    let begins : store_at s [] ≡ store = ap (λ stores. list_at stores 0) first.1 in
    let whole : executed_of (run_of c store) ++ [] ≡ executed_of (run_of c store) = nothing_more (executed_of (run_of c store)) in
    subst (λ steps. IsHistory s (drop (if is_some (run_of c store).refused then 1 else 0) steps)) whole
    (subst (λ begin. IsHistory s (completed_on (run_from c (trace_of c) begin) [])) begins
    (history_on s [] (trace_of c) (reached_start c nodes rule store) tt))
  where
    nothing_more : (xs : List Step) → xs ++ [] ≡ xs
    nothing_more [] = refl
    nothing_more (x ∷ xs) = ap (λ l. x ∷ l) (nothing_more xs)
