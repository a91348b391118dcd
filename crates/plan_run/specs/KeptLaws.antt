-- What is kept of each FORALL over a step.
use Rattle.std.specs.Prelude.{◌≡◌, ◌≢◌, ◌↔◌, refl, ℕ, zero, suc, ◌+◌, ◌<◌, ◌≤◌, ℤ, pos, Bool, true, false, not, ◌&&◌, ◌||◌, ◌==◌}
use Rattle.std.specs.Prelude.{if◌then◌else◌, cond, List, [], ◌∷◌, length, map, filter, flat_map, slice_get, Option, Some, None, IsSomeAnd}
use Rattle.std.specs.Prelude.{MatchOption, MatchBool, ◌⊎◌}
use Rattle.std.specs.List.{AllZip, AllByRecursion, list_any, range_with_len}
use Rattle.std.specs.Option.{option_map_or}
use Rattle.std.proofs.Common.{ap, sym, ◌∙◌, subst, arith, inl, inr}
use Rattle.std.proofs.Math.Path.{fun_ext}
use Rattle.std.proofs.lemmas.Bool.{eqb-true, cases_eq, cases_lt}
use Rattle.std.proofs.lemmas.Bool.Decides.{nat_tests}
use Rattle.fd_words.specs.Lists.{list_at}
use Rattle.fd_words.specs.declared.place.Role.{Role}
use Rattle.chaos_dist.specs.Counting.{below}
use Rattle.chaos_dist.specs.Owners.{owner_in, local_in}
use Rattle.chaos_hash.specs.Stamps.{Stamps}
use Rattle.fd_program.specs.Cells.{Cell, ascending}
use Rattle.fd_program.specs.CellsLaws.{cells_are_in_order}
use Rattle.fd_program.specs.Checks.{IsChecked}
use Rattle.fd_program.specs.Homes.{uses_at, owner_met, executed_by, cell_of, cells_of, between_nodes, needed_of, given_of}
use Rattle.fd_program.specs.Layouts.{Scene, store_at, owners_at, owners_by, loop_at}
use Rattle.fd_program.specs.ListLaws.{Among, among_all, all_among, all_map, all_filter, all_flat_map, all_weaker}
use Rattle.fd_program.specs.Past.{form_set, version_at, decompositions_of, record_at, is_same_record, latest_of, inspects_at}
use Rattle.fd_program.specs.Places.{decomposition_of, stands_at}
use Rattle.fd_program.specs.RecordLaws.{record_determines, latest_before, same_version, same_record_is, IsSameRecord}
use Rattle.fd_program.specs.RunLaws.{IsHistory, IsBefore}
use Rattle.fd_program.specs.SameLoops.{AreSameExecutions, HaveSameOwners}
use Rattle.fd_program.specs.Stores.{number_at}
use Rattle.fd_program.specs.Trace.{site_at, is_empty_turn}
use Rattle.fd_program.specs.Uses.{use_of, uses_from, index_value, subscript_of}
use Rattle.fd_words.specs.Roles.{is_index, is_read, is_target}
use Rattle.fd_program.specs.declared.array.ArrayFacts.{ArrayFacts}
use Rattle.fd_program.specs.declared.array.LayoutName.{LayoutName}
use Rattle.fd_program.specs.declared.checked.Checked.{Checked}
use Rattle.fd_program.specs.declared.loop_facts.LoopFacts.{LoopFacts}
use Rattle.fd_program.specs.declared.loop_record.LoopRecord.{LoopRecord}
use Rattle.fd_program.specs.declared.loop_use.Use.{Use}
use Rattle.fd_program.specs.declared.reference.Reference.{Reference}
use Rattle.fd_program.specs.declared.trace.LoopTurn.{LoopTurn}
use Rattle.fd_program.specs.declared.trace.Step.{Step}
use Rattle.fd_program.specs.declared.trace.Step.TheVariants.{Distribute, Print, Forall}
use Rattle.plan_tables.specs.Fits.{Fits, StandsFor, IsItem, IsOwn, IsOther, AreItems}
use Rattle.fd_program.specs.Met.{kept_uses, decomposition_met, stands_met}
use Rattle.chaos_sched.specs.declared.item.Item.{Item}
use Rattle.chaos_sched.specs.declared.local_ref.LocalRef.{LocalRef}
use Rattle.chaos_sched.specs.declared.local_ref.LocalRef.TheVariants.{Here, Ghost}
use Rattle.chaos_sched.specs.declared.prepared.Prepared.{Prepared}
use Rattle.plan_tables.specs.Tables.{slots_entered, reached, entry_at, HasStamp}
use Rattle.plan_run.specs.Held.{Kept, KeepsLoop, KeepsLatest, IsInspected, was_moved}
use Rattle.plan_run.specs.OwnerLaws.{is_quiet, quiet_moves_none, owners_of-one, equals_itself}
use Rattle.fd_program.specs.AmongLaws.{zip_weaker}
use Rattle.fd_program.specs.RecordLaws.{any_true}
use Rattle.fd_program.specs.RecordLaws.{each_place}
use Rattle.fd_program.specs.SameLoops.{filter_same}

-- ---- statements

-- a step that changes nothing leaves what is kept of each FORALL
abbrev pub QuietKeepsLoops : Type 0
QuietKeepsLoops =
    (s : Scene) (past : List Step) (step : Step) (k p : ℕ) (tables : List Stamps) (kept : Option Kept) → is_quiet s.checked past step ≡ true
    → KeepsLoop s past k p tables kept → KeepsLoop s (step ∷ past) k p tables kept

-- an execution of a FORALL leaves what is kept of each other
abbrev pub OtherLoopsStay : Type 0
OtherLoopsStay =
    (s : Scene) (past : List Step) (site : ℕ) (turn : LoopTurn) (k p : ℕ) (tables : List Stamps) (kept : Option Kept) → site ≢ k
    → KeepsLoop s past k p tables kept → KeepsLoop s (Forall site turn ∷ past) k p tables kept

-- of one that was inspected its record is kept, and the inspection
abbrev pub InspectedIsKept : Type 0
InspectedIsKept =
    (s : Scene) (past : List Step) (site : ℕ) (turn : LoopTurn) (p : ℕ) (tables : List Stamps) (x : Prepared) → is_empty_turn turn ≡ false
    → IsInspected (loop_at s past site turn) (owners_at s past) (store_at s past) p tables x
    → KeepsLoop s (Forall site turn ∷ past) site p tables (Some (record { latest = record_at s.checked past site turn; prepared = Some x }))

-- what was kept of one that isn't inspected again fits this execution, and stays
abbrev pub ReusedIsKept : Type 0
ReusedIsKept =
    (s : Scene) (past : List Step) (site : ℕ) (turn : LoopTurn) (p : ℕ) (tables : List Stamps) (kept : Option Kept)
    → IsChecked s.checked → site < length s.checked.sites → IsHistory s past → is_empty_turn turn ≡ false
    → inspects_at s.checked past site turn ≡ false
    → KeepsLoop s past site p tables kept
    → IsSomeAnd kept (λ x. IsSomeAnd x.prepared (IsInspected (loop_at s past site turn) (owners_at s past) (store_at s past) p tables))
    × KeepsLoop s (Forall site turn ∷ past) site p tables kept

-- ---- lists

pub any_same : {A : Type 0} (f g : A → Bool) → ((x : A) → f x ≡ g x) → (xs : List A) → list_any f xs ≡ list_any g xs
any_same f g same [] = refl
any_same f g same (x ∷ xs) = ap (λ b. b || list_any f xs) (same x) ∙ ap (λ b. g x || b) (any_same f g same xs)

none_any : {A : Type 0} (f : A → Bool) → ((x : A) → f x ≡ false) → (xs : List A) → list_any f xs ≡ false
none_any f none [] = refl
none_any f none (x ∷ xs) = ap (λ b. b || list_any f xs) (none x) ∙ none_any f none xs

-- ---- moves

moved_same : (c : Checked) (past before : List Step) (step : Step) (k : ℕ) → ((d : ℕ) → version_at c (step ∷ past) d ≡ version_at c past d)
    → was_moved c (step ∷ past) before k ≡ was_moved c past before k
moved_same c past before step k same =
    any_same (λ d. not (version_at c (step ∷ past) d == version_at c before d)) (λ d. not (version_at c past d == version_at c before d))
    (λ d. ap (λ n. not (n == version_at c before d)) (same d)) (decompositions_of c (site_at c.sites k))

forall_moves_none : (c : Checked) (past : List Step) (site : ℕ) (turn : LoopTurn) (d : ℕ) → version_at c (Forall site turn ∷ past) d
    ≡ version_at c past d
forall_moves_none c past site turn d = omega arith

-- a FORALL moves nothing of itself
just_executed : (c : Checked) (past : List Step) (site : ℕ) (turn : LoopTurn) (k : ℕ) → was_moved c (Forall site turn ∷ past) past k ≡ false
just_executed c past site turn k =
    moved_same c past past (Forall site turn) k (forall_moves_none c past site turn)
    ∙ none_any (λ d. not (version_at c past d == version_at c past d)) (λ d. ap not (equals_itself (version_at c past d)))
    (decompositions_of c (site_at c.sites k))

-- what is kept, by the latest execution
abbrev pub KeptBy : Scene → List Step → ℕ → ℕ → List Stamps → Option Kept → Option (LoopTurn × List Step) → Type 0
KeptBy s past k p tables kept latest = MatchOption latest (kept ≡ None) (λ l. IsSomeAnd kept (KeepsLatest s past k p tables l))

-- over a step that moves nothing and executes another FORALL, or none
kept_on : (s : Scene) (past : List Step) (step : Step) (k p : ℕ) (tables : List Stamps) (kept : Option Kept)
    → ((d : ℕ) → version_at s.checked (step ∷ past) d ≡ version_at s.checked past d) → latest_of (step ∷ past) k ≡ latest_of past k
    → KeepsLoop s past k p tables kept → KeepsLoop s (step ∷ past) k p tables kept
kept_on s past step k p tables kept versions latest h =
    subst (KeptBy s (step ∷ past) k p tables kept) (sym latest) (by (latest_of past k) kept h)
  where
    by : (l : Option (LoopTurn × List Step)) (kept : Option Kept) → KeptBy s past k p tables kept l
        → KeptBy s (step ∷ past) k p tables kept l
    by None kept h = h
    by (Some l) None h = absurd h
    by (Some l) (Some x) h = (
      h.0,
      subst (λ b. MatchBool b (x.prepared ≡ None)
          (IsSomeAnd x.prepared (IsInspected (loop_at s l.1 k l.0) (owners_at s l.1) (store_at s l.1) p tables)))
          (sym (moved_same s.checked past l.1 step k versions)) h.1,
    )

quiet_latest : (c : Checked) (past : List Step) (step : Step) (k : ℕ) → is_quiet c past step ≡ true
    → latest_of (step ∷ past) k ≡ latest_of past k
quiet_latest c past (Distribute d form) k e = refl
quiet_latest c past (Print array) k e = refl
quiet_latest c past (Forall site turn) k e = by (site == k) (is_empty_turn turn) e
  where
    by : (a b : Bool) → b ≡ true → (if a && not b then Some (turn, past) else latest_of past k) ≡ latest_of past k
    by true true e = refl
    by true false e = cc
    by false b e = refl

pub quiet_keeps_loops : QuietKeepsLoops
quiet_keeps_loops s past step k p tables kept quiet h =
    kept_on s past step k p tables kept (λ d. quiet_moves_none s.checked past step d quiet) (quiet_latest s.checked past step k quiet) h

pub differ : (n m : ℕ) → n ≢ m → (n == m) ≡ false
differ n m h = grind (arith, nat_tests)

pub other_loops_stay : OtherLoopsStay
other_loops_stay s past site turn k p tables kept other h =
    kept_on s past (Forall site turn) k p tables kept (forall_moves_none s.checked past site turn)
    (ap (λ b. if b && not (is_empty_turn turn) then Some (turn, past) else latest_of past k) (differ site k other)) h

latest_itself : (past : List Step) (site : ℕ) (turn : LoopTurn) → is_empty_turn turn ≡ false → latest_of (Forall site turn ∷ past) site
    ≡ Some (turn, past)
latest_itself past site turn some =
    ap (λ b. if b && not (is_empty_turn turn) then Some (turn, past) else latest_of past site) (equals_itself site)
    ∙ ap (λ b. if not b then Some (turn, past) else latest_of past site) some

-- an execution's own record, and an inspection that fits it
kept_itself : (s : Scene) (past : List Step) (site : ℕ) (turn : LoopTurn) (p : ℕ) (tables : List Stamps) (x : Kept)
    → is_empty_turn turn ≡ false
    → x.latest ≡ record_at s.checked past site turn
    → IsSomeAnd x.prepared (IsInspected (loop_at s past site turn) (owners_at s past) (store_at s past) p tables)
    → KeepsLoop s (Forall site turn ∷ past) site p tables (Some x)
kept_itself s past site turn p tables x some same h =
    subst (KeptBy s (Forall site turn ∷ past) site p tables (Some x)) (sym (latest_itself past site turn some)) (
      same,
      subst (λ b. MatchBool b (x.prepared ≡ None) (IsSomeAnd x.prepared (IsInspected (loop_at s past site turn) (owners_at s past)
          (store_at s past) p tables)))
          (sym (just_executed s.checked past site turn site)) h,
    )

pub inspected_is_kept : InspectedIsKept
inspected_is_kept s past site turn p tables x some h =
    kept_itself s past site turn p tables (record { latest = record_at s.checked past site turn; prepared = Some x }) some refl h

-- ---- owners where nothing was moved

pub get_less : {A : Type 0} (xs : List A) (k : ℕ) (x : A) → slice_get xs k ≡ Some x → k < length xs
get_less [] k x e = cc
get_less (y ∷ ys) zero x e = omega arith
get_less (y ∷ ys) (suc k) x e = omega (arith, get_less ys k x e)

pub any_first : (a b : Bool) → (a || b) ≡ false → (a ≡ false) × (b ≡ false)
any_first true b e = cc
any_first false b e = (refl, e)

pub any_later : (a b : Bool) → b ≡ true → (a || b) ≡ true
any_later true b e = refl
any_later false b e = e

-- none of the numbers that pass has the property
pub none_in : (q r : ℕ → Bool) (a n d : ℕ) → list_any q (filter r (range_with_len a n)) ≡ false → a ≤ d → d < a + n → r d ≡ true
    → q d ≡ false
none_in q r a zero d h low high e = absurd (omega (arith, low, high))
none_in q r a (suc n) d h low high e = by (r a) refl h (λ rest above. none_in q r (a + 1) n d rest above (omega (arith, high)) e)
    (cases_eq a d)
  where
    by : (b : Bool) → r a ≡ b → list_any q (cond b (a ∷ filter r (range_with_len (a + 1) n)) (filter r (range_with_len (a + 1) n))) ≡ false
        → (list_any q (filter r (range_with_len (a + 1) n)) ≡ false → a + 1 ≤ d → q d ≡ false) → (a ≡ d) ⊎ (a ≢ d) → q d ≡ false
    by true s h rest (inl same) = subst (λ k. q k ≡ false) same (any_first (q a) (list_any q (filter r (range_with_len (a + 1) n))) h).0
    by true s h rest (inr other) =
        rest (any_first (q a) (list_any q (filter r (range_with_len (a + 1) n))) h).1
        (elim (cases_lt a d) [ inl less ↦ omega (arith, less) | inr more ↦ absurd (other (omega (arith, low, more))) ])
    by false s h rest (inl same) = let no : r a ≡ true = ap r same ∙ e in cc
    by false s h rest (inr other) =
        rest h (elim (cases_lt a d) [ inl less ↦ omega (arith, less) | inr more ↦ absurd (other (omega (arith, low, more))) ])

not_false : (b : Bool) → not b ≡ false → b ≡ true
not_false true e = refl
not_false false e = cc

-- the decompositions of a FORALL have the owners of then
unmoved_owners : (s : Scene) (before past : List Step) (k : ℕ) → IsChecked s.checked → IsBefore before past → IsHistory s past
    → was_moved s.checked past before k ≡ false
    → HaveSameOwners s.checked.arrays (owners_at s before) (owners_at s past) (site_at s.checked.sites k).references
unmoved_owners s before past k known h history unmoved =
    each_place (λ (r : Reference). list_at (owners_at s before) (decomposition_of c.arrays r.array) ≡ list_at (owners_at s past)
    (decomposition_of c.arrays r.array)) references
    (λ j r e. one (decomposition_of c.arrays r.array)
    (any_true (λ (x : Reference). decomposition_of c.arrays x.array == decomposition_of c.arrays r.array) references j r e
    (equals_itself (decomposition_of c.arrays r.array))))
  where
    c : Checked
    c = s.checked

    references : List Reference
    references = (site_at c.sites k).references

    one : (d : ℕ) → list_any (λ (x : Reference). decomposition_of c.arrays x.array == d) references ≡ true
        → list_at (owners_at s before) d ≡ list_at (owners_at s past) d
    one d named = owners_of-one s before d ∙ by (slice_get c.layouts d) refl ∙ sym (owners_of-one s past d)
      where
        by : (o : Option LayoutName) → slice_get c.layouts d ≡ o
            → option_map_or (λ (l : LayoutName). owners_by s l.extent (form_set before d)) o [] ≡ option_map_or
            (λ (l : LayoutName). owners_by s l.extent (form_set past d)) o []
        by None e = refl
        by (Some l) e =
            let within : d < 0 + length c.layouts = omega (arith, get_less c.layouts d l e) in
            let equal : (version_at c past d == version_at c before d) ≡ true = not_false (version_at c past d == version_at c before d)
            (none_in (λ d. not (version_at c past d == version_at c before d))
            (λ d. list_any (λ (x : Reference). decomposition_of c.arrays x.array == d) references)
            0 (length c.layouts) d unmoved (omega arith) within named) in
            same_version s l.extent before past d known h history (sym (eqb-true (version_at c past d) (version_at c before d) equal))

-- ---- two executions with one record

all_of : {A : Type 0} (P : A → Type 0) → ((x : A) → P x) → (xs : List A) → AllByRecursion P xs
all_of P h [] = tt
all_of P h (x ∷ xs) = (h x, all_of P h xs)

zip_with : {A B : Type 0} (C : A → Type 0) (P Q : A → B → Type 0) → ((x : A) (y : B) → C x → P x y → Q x y) → (xs : List A) (ys : List B)
    → AllByRecursion C xs → AllZip P xs ys → AllZip Q xs ys
zip_with C P Q f [] [] g h = tt
zip_with C P Q f [] (y ∷ ys) g h = absurd h
zip_with C P Q f (x ∷ xs) [] g h = absurd h
zip_with C P Q f (x ∷ xs) (y ∷ ys) g h = (f x y g.0 h.0, zip_with C P Q f xs ys g.1 h.1)

uses_owned_from : (arrays : List ArrayFacts) (owners others : List (List ℕ)) (adds : List ℤ) (store : List (List ℤ)) (i : ℤ) (place : ℕ)
    (before : Option ℤ)
    (references : List Reference) → HaveSameOwners arrays owners others references
    → AllByRecursion (λ (u : Use). list_at owners (decomposition_of arrays u.array) ≡ list_at others (decomposition_of arrays u.array))
    (uses_from arrays adds store i place before references)
uses_owned_from arrays owners others adds store i place before [] h = tt
uses_owned_from arrays owners others adds store i place before (r ∷ rs) h =
    let u = use_of r i (place + 1) (subscript_of r.subscript i (number_at adds place) before) in
    (h.0, uses_owned_from arrays owners others adds store i (place + 1) (index_value arrays store u) rs h.1)

-- what fits the one fits the other
module _ (s : Scene) (site : ℕ) (one other : LoopTurn) (before past : List Step) (p : ℕ) (tables : List Stamps)
    (own : HaveSameOwners s.checked.arrays (owners_at s before) (owners_at s past) (site_at s.checked.sites site).references)
    (same : AreSameExecutions (loop_at s before site one) (loop_at s past site other) (owners_at s before) (owners_at s past)
    (store_at s before) (store_at s past)) where
  abbrev arrays : List ArrayFacts
  arrays = s.checked.arrays

  abbrev f : LoopFacts
  f = loop_at s before site one

  abbrev g : LoopFacts
  g = loop_at s past site other

  abbrev owners : List (List ℕ)
  owners = owners_at s before

  abbrev others : List (List ℕ)
  others = owners_at s past

  abbrev store : List (List ℤ)
  store = store_at s before

  abbrev later : List (List ℤ)
  later = store_at s past

  abbrev slots : ℕ → ℕ → Option ℕ
  slots = slots_entered g tables

  abbrev Owned : Use → Type 0
  Owned u = list_at owners (decomposition_of arrays u.array) ≡ list_at others (decomposition_of arrays u.array)

  abbrev OwnedCell : Cell → Type 0
  OwnedCell x = list_at owners (decomposition_of arrays x.array) ≡ list_at others (decomposition_of arrays x.array)

  all_uses : (is : List ℤ) → AllByRecursion Owned (flat_map (uses_at g later) is)
  all_uses is =
      all_flat_map Owned (uses_at g later) is
      (all_of (λ i. AllByRecursion Owned (uses_at g later i)) (λ i. uses_owned_from arrays owners others other.adds later i 0 None
      (site_at s.checked.sites site).references own) is)

  kept_owned : (is : List ℤ) → AllByRecursion Owned (kept_uses g later is)
  kept_owned is =
      all_weaker (λ u. (not (is_index u.role) ≡ true) × Owned u) Owned (λ u h. h.1) (kept_uses g later is)
      (all_filter Owned (λ u. not (is_index u.role)) (flat_map (uses_at g later) is) (all_uses is))

  kept_same : (is : List ℤ) → kept_uses f store is ≡ kept_uses g later is
  kept_same is = ap (λ (us : ℤ → List Use). filter (λ u. not (is_index u.role)) (flat_map us is)) (fun_ext same.uses)

  stands : (u : Use) (l : LocalRef) → Owned u → StandsFor f owners slots p u l → StandsFor g others slots p u l
  stands u (Here local) e h = (
    subst (λ o. owner_in o (stands_at arrays u.array u.subscript) ≡ p) e h.0,
    subst (λ o. local ≡ local_in o (stands_at arrays u.array u.subscript)) e h.1,
  )
  stands u (Ghost slot) e h = (subst (λ o. owner_in o (stands_at arrays u.array u.subscript) ≢ p) e h.0, h.1)

  cells_owned : (wanted : Role → Bool) (q r : ℕ) → AllByRecursion OwnedCell (cells_of g others later wanted q r)
  cells_owned wanted q r =
      let us = flat_map (uses_at g later) (executed_by g others later q) in
      let passing = filter (λ u. wanted u.role && owner_met g others u == r) us in
      let each : AllByRecursion OwnedCell (map cell_of passing) = all_map OwnedCell cell_of passing
      (all_weaker (λ u. ((wanted u.role && owner_met g others u == r) ≡ true) × Owned u) Owned (λ u h. h.1) passing
      (all_filter Owned (λ u. wanted u.role && owner_met g others u == r) us (all_uses (executed_by g others later q)))) in
      among_all OwnedCell (ascending (map cell_of passing)) (λ x a. all_among OwnedCell (map cell_of passing) x each
      ((cells_are_in_order (map cell_of passing)).same.0 x a))

  between_owned : (q r : ℕ) (cells : List Cell) → AllByRecursion OwnedCell cells → AllByRecursion OwnedCell (between_nodes q r cells)
  between_owned q r cells h = by (q == r)
    where
      by : (b : Bool) → AllByRecursion OwnedCell (if b then [] else cells)
      by true = tt
      by false = h

  one_item : (x : Cell) (i : Item) → OwnedCell x → IsItem f owners x i → IsItem g others x i
  one_item x i e h = record {
    array = h.array;
    element = h.element;
    local = subst (λ o. i.local ≡ local_in o (stands_at arrays x.array (pos x.element))) e h.local;
  }

  items : (R S : Cell → Item → Type 0) (cs ds : ℕ → List Cell) → ((q : ℕ) → cs q ≡ ds q) → ((q : ℕ) → AllByRecursion OwnedCell (ds q))
      → ((x : Cell) (i : Item) → OwnedCell x → R x i → S x i) → (lists : List (List Item)) → AreItems s.nodes R cs lists
      → AreItems s.nodes S ds lists
  items R S cs ds cells known to lists h =
      zip_weaker (λ q items. AllZip R (cs q) items) (λ q items. AllZip S (ds q) items)
      (λ q items k. zip_with OwnedCell R S to (ds q) items (known q) (subst (λ xs. AllZip R xs items) (cells q) k)) (below s.nodes) lists h

  own_items : (x : Cell) (i : Item) → OwnedCell x → IsOwn f owners x i → IsOwn g others x i
  own_items x i e h = (one_item x i e h.0, h.1)

  other_items : (x : Cell) (i : Item) → OwnedCell x → IsOther f owners slots x i → IsOther g others slots x i
  other_items x i e h = (one_item x i e h.0, h.1)

  needed_owned : (q r : ℕ) → AllByRecursion OwnedCell (needed_of g others later q r)
  needed_owned q r = between_owned q r (cells_of g others later is_read q r) (cells_owned is_read q r)

  given_owned : (q r : ℕ) → AllByRecursion OwnedCell (given_of g others later q r)
  given_owned q r = between_owned q r (cells_of g others later is_target q r) (cells_owned is_target q r)

  fits_later : (x : Prepared) → Fits f owners store slots p x → Fits g others later slots p x
  fits_later x h = record {
    iterations = h.iterations ∙ same.executed p;
    references = zip_with Owned (StandsFor f owners slots p) (StandsFor g others slots p) stands (kept_uses g later x.iterations)
        x.references (kept_owned x.iterations)
        (subst (λ us. AllZip (StandsFor f owners slots p) us x.references) (kept_same x.iterations) h.references);
    gather_send = items (IsOwn f owners) (IsOwn g others) (λ q. needed_of f owners store q p) (λ q. needed_of g others later q p)
        (λ q. same.needed q p) (λ q. needed_owned q p) own_items x.schedule.gather_send h.gather_send;
    gather_fetch = items (IsOther f owners slots) (IsOther g others slots) (λ q. needed_of f owners store p q)
        (λ q. needed_of g others later p q) (λ q. same.needed p q) (λ q. needed_owned p q) other_items x.schedule.gather_fetch
        h.gather_fetch;
    scatter_send = items (IsOther f owners slots) (IsOther g others slots) (λ q. given_of f owners store p q)
        (λ q. given_of g others later p q) (λ q. same.given p q) (λ q. given_owned p q) other_items x.schedule.scatter_send h.scatter_send;
    scatter_take = items (IsOwn f owners) (IsOwn g others) (λ q. given_of f owners store q p) (λ q. given_of g others later q p)
        (λ q. same.given q p) (λ q. given_owned q p) own_items x.schedule.scatter_take h.scatter_take;
  }

  reached_same : (d stamp : ℕ) → reached f owners store p d stamp ≡ reached g others later p d stamp
  reached_same d stamp =
      let is = executed_by g others later p in
      let chosen = λ (us : List Use). map (stands_met f)
      (filter (λ u. (decomposition_met f u == d) && (u.stamp == stamp) && not (owner_met f owners u == p)) us) in
      ap (λ is. chosen (kept_uses f store is)) (same.executed p)
      ∙ ap chosen (kept_same is)
      ∙ ap (map (stands_met g))
      (filter_same Owned (λ u. (decomposition_met f u == d) && (u.stamp == stamp) && not (owner_met f owners u == p))
      (λ u. (decomposition_met g u == d) && (u.stamp == stamp) && not (owner_met g others u == p))
      (λ u e. ap (λ o. (decomposition_met g u == d) && (u.stamp == stamp) && not (owner_in o (stands_at arrays u.array u.subscript) == p))
      e) (kept_uses g later is) (kept_owned is))

  inspected_later : (x : Prepared) → IsInspected f owners store p tables x → IsInspected g others later p tables x
  inspected_later x h = record {
    fits = fits_later x h.fits;
    entered = λ d e stamp known. subst (λ list. HasStamp (entry_at tables d e) stamp ↔ Among e list) (reached_same d stamp)
        (h.entered d e stamp known);
  }

-- ---- an execution that doesn't inspect

same_record : (a b : LoopRecord) → IsSameRecord a b → a ≡ b
same_record a b h =
    ap (λ x. let r : LoopRecord = record { low = x; high = a.high; adds = a.adds; versions = a.versions; changes = a.changes } in r) h.low
    ∙ ap (λ x. let r : LoopRecord = record { low = b.low; high = x; adds = a.adds; versions = a.versions; changes = a.changes } in r) h.high
    ∙ ap (λ x. let r : LoopRecord = record { low = b.low; high = b.high; adds = x; versions = a.versions; changes = a.changes } in r) h.adds
    ∙ ap (λ x. let r : LoopRecord = record { low = b.low; high = b.high; adds = b.adds; versions = x; changes = a.changes } in r) h.versions
    ∙ ap (λ x. let r : LoopRecord = record { low = b.low; high = b.high; adds = b.adds; versions = b.versions; changes = x } in r) h.changes

same_versions : (f g : ℕ → ℕ) (ds : List ℕ) → map (λ d. pos (f d)) ds ≡ map (λ d. pos (g d)) ds → list_any (λ d. not (g d == f d)) ds
    ≡ false
same_versions f g [] e = refl
same_versions f g (d ∷ ds) e =
    let first : g d ≡ f d = cc in
    let equal : (g d == f d) ≡ true = ap (λ n. g d == n) (sym first) ∙ equals_itself (g d) in
    ap (λ b. not b || list_any (λ d. not (g d == f d)) ds) equal ∙ same_versions f g ds (cc)

pub some_weaker : {A : Type 0} (P Q : A → Type 0) → ((x : A) → P x → Q x) → (o : Option A) → IsSomeAnd o P → IsSomeAnd o Q
some_weaker P Q f None h = absurd h
some_weaker P Q f (Some x) h = f x h

pub reused_is_kept : ReusedIsKept
reused_is_kept s past site turn p tables kept known there history some none h =
    by (latest_of past site) refl kept
    (sym (ap (λ b. not b && option_map_or (λ (latest, before). not (is_same_record (record_at s.checked before site latest)
    (record_at s.checked past site turn))) (latest_of past site) true) some) ∙ none) h
  where
    by : (l : Option (LoopTurn × List Step)) → latest_of past site ≡ l → (kept : Option Kept)
        → option_map_or (λ (latest, before). not (is_same_record (record_at s.checked before site latest)
        (record_at s.checked past site turn))) l true ≡ false
        → KeptBy s past site p tables kept l
        → IsSomeAnd kept (λ x. IsSomeAnd x.prepared (IsInspected (loop_at s past site turn) (owners_at s past) (store_at s past) p tables))
        × KeepsLoop s (Forall site turn ∷ past) site p tables kept
    by None e kept none h = cc
    by (Some l) e None none h = absurd h
    by (Some l) e (Some x) none h =
        let equal = not_false (is_same_record (record_at s.checked l.1 site l.0) (record_at s.checked past site turn)) none in
        let it : IsSameRecord (record_at s.checked l.1 site l.0) (record_at s.checked past site turn) =
        same_record_is (record_at s.checked l.1 site l.0) (record_at s.checked past site turn) equal in
        let before = latest_before past site l.0 l.1 e in
        let unmoved : was_moved s.checked past l.1 site ≡ false =
        same_versions (version_at s.checked l.1) (version_at s.checked past) (decompositions_of s.checked (site_at s.checked.sites site))
        it.versions in
        let own = unmoved_owners s l.1 past site known before history unmoved in
        let same = record_determines s site l.0 turn l.1 past known there before history equal in
        let held = subst (λ b. MatchBool b (x.prepared ≡ None)
        (IsSomeAnd x.prepared (IsInspected (loop_at s l.1 site l.0) (owners_at s l.1) (store_at s l.1) p tables))) unmoved h.1 in
        let now = some_weaker (IsInspected (loop_at s l.1 site l.0) (owners_at s l.1) (store_at s l.1) p tables)
        (IsInspected (loop_at s past site turn) (owners_at s past) (store_at s past) p tables)
        (inspected_later s site l.0 turn l.1 past p tables own same) x.prepared held in (
          now,
          kept_itself s past site turn p tables x some (h.0 ∙ same_record (record_at s.checked l.1 site l.0)
              (record_at s.checked past site turn) it) now,
        )
