-- What a node asks, what others ask of it, and the schedule.
use Rattle.fd_program.specs.AmongLaws.{both_true, number_is}
use Rattle.std.proofs.Common.{negsuc, ◌≤ℤ◌, ◌≡◌, ℕ, zero, suc, ◌+◌, ◌<◌, ◌≤◌, ◌^◌, ℤ, pos, Bool, true, false, cond, not, ◌&&◌, ◌==◌, List}
use Rattle.std.proofs.Common.{[], ◌∷◌, ◌++◌, map, filter, Option, Some, refl, ap, sym, subst, ◌∙◌, arith, inl, inr, true≢false}
use Rattle.std.specs.Prelude.{if◌then◌else◌, unwrap_or}
use Rattle.std.specs.List.{AllByRecursion, AllZip, flat_map, range_with_len}
use Rattle.std.proofs.lemmas.Bool.Decides.{eqb_tells}
use Rattle.std.proofs.lemmas.Int.{ints}
use Rattle.fd_words.specs.Lists.{list_at}
use Rattle.fd_words.specs.declared.place.Role.{Role}
use Rattle.fd_words.specs.declared.place.Role.TheVariants.{Index, Read, Target}
use Rattle.chaos_dist.specs.Homes.{natural}
use Rattle.list_laws.specs.Rows.{map-range-same}
use Rattle.plan_tables.specs.Fits.{slot_for, IsOwn, IsOther, AreItems}
use Rattle.fd_program.specs.Met.{kept_uses}
use Rattle.plan_loop.specs.LoopLetters.{ask_row_of, numbers_in_loop, sent_in, owed_in}
use Rattle.plan_loop.specs.declared.loop_phase.LoopPhase.TheVariants.{ScheduleAsk}
use Rattle.inspect_enter.proofs.InOrder.{cell_in, in_order_cells}
use Rattle.inspect_enter.proofs.AllMet.{executed_met}
use Rattle.inspect_enter.specs.Preparing.{IsNeed, IsSettled, uses_beyond}
use Rattle.inspect_uses.specs.Standing.{within, standing}
use Rattle.chaos_sched.proofs.Agreement.{by_node, IsNamedItem, reads_told, targets_told}
use Rattle.chaos_sched.specs.Agreement.{on_owner}
use Rattle.chaos_sched.specs.Scheduled.{same_role, item_of, in_order, needed_items, needed_from, ask_row, ask_to, asks_for}
use Rattle.chaos_sched.specs.Scheduled.{asked_by}
use Rattle.chaos_sched.specs.Schedules.{schedule_of}
use Rattle.chaos_sched.specs.declared.item.Item.{Item}
use Rattle.chaos_sched.specs.declared.need.Need.{Need}
use Rattle.fd_program.specs.Cells.{Cell, ascending}
use Rattle.fd_program.specs.CellsLaws.{cells_are_in_order}
use Rattle.fd_program.specs.Homes.{uses_at, owner_met, cell_of, cells_of, between_nodes, executed_by, needed_of, given_of}
use Rattle.fd_program.specs.ListLaws.{among_all, all_among, all_weaker, all_filter, all_flat_map, all_map}
use Rattle.fd_program.specs.Places.{local_for}
use Rattle.fd_program.specs.Uses.{is_met}
use Rattle.fd_words.specs.Roles.{is_index, is_read, is_target}
use Rattle.fd_program.specs.declared.loop_facts.LoopFacts.{LoopFacts}
use Rattle.fd_program.specs.declared.loop_use.Use.{Use}

-- ---- lists

natural_is : (z : ℤ) → pos 1 ≤ℤ z → pos (natural z) ≡ z
natural_is (pos n) h = refl
natural_is (negsuc n) h = absurd (omega (arith, ints, h))

zip_range : {B : Type 0} (R : ℕ → B → Type 0) (F : ℕ → B) (a n : ℕ) → ((q : ℕ) → q < a + n → R q (F q))
    → AllZip R (range_with_len a n) (map F (range_with_len a n))
zip_range R F a zero h = tt
zip_range R F a (suc n) h = (h a (omega arith), zip_range R F (a + 1) n (λ q lt. h q (omega (arith, lt))))

zip_map : {A B : Type 0} (R : A → B → Type 0) (g : A → B) (xs : List A) → AllByRecursion (λ x. R x (g x)) xs → AllZip R xs (map g xs)
zip_map R g [] h = tt
zip_map R g (x ∷ xs) h = (h.0, zip_map R g xs h.1)

-- a filter after one that it implies, and after one that it excludes
filter_implied : {A : Type 0} (p q : A → Bool) → ((x : A) → p x ≡ true → q x ≡ true) → (xs : List A) → filter p (filter q xs) ≡ filter p xs
filter_implied p q h [] = refl
filter_implied {A} p q h (x ∷ xs) = by (p x) (q x) refl refl (filter_implied p q h xs)
  where
    by : (a b : Bool) → p x ≡ a → q x ≡ b → filter p (filter q xs) ≡ filter p xs → filter p (cond b (x ∷ filter q xs) (filter q xs))
        ≡ cond a (x ∷ filter p xs) (filter p xs)
    by true true e k rest = ap (λ c. cond c (x ∷ filter p (filter q xs)) (filter p (filter q xs))) e ∙ ap (λ l. x ∷ l) rest
    by false true e k rest = ap (λ c. cond c (x ∷ filter p (filter q xs)) (filter p (filter q xs))) e ∙ rest
    by true false e k rest = absurd (true≢false (sym (h x e) ∙ k))
    by false false e k rest = rest

filter_excluded : {A : Type 0} (p q : A → Bool) → ((x : A) → q x ≡ true → p x ≡ false) → (xs : List A) → filter p (filter q xs) ≡ []
filter_excluded p q h [] = refl
filter_excluded {A} p q h (x ∷ xs) = by (q x) refl (filter_excluded p q h xs)
  where
    by : (b : Bool) → q x ≡ b → filter p (filter q xs) ≡ [] → filter p (cond b (x ∷ filter q xs) (filter q xs)) ≡ []
    by true k rest = ap (λ c. cond c (x ∷ filter p (filter q xs)) (filter p (filter q xs))) (h x k) ∙ rest
    by false k rest = rest

passing : {A : Type 0} (P : A → Type 0) (p : A → Bool) (xs : List A) → AllByRecursion P xs → AllByRecursion P (filter p xs)
passing P p xs h = all_weaker (λ x. (p x ≡ true) × P x) P (λ x both. both.1) (filter p xs) (all_filter P p xs h)

excludes : (a b : Bool) → b ≡ false → (a && b) ≡ false
excludes true b e = e
excludes false b e = refl

not_number : (n m : ℕ) → not (n == m) ≡ true → (n == m) ≡ false
not_number n m e = by (n == m) e
  where
    by : (b : Bool) → not b ≡ true → b ≡ false
    by true h = absurd (true≢false (sym h))
    by false h = refl

-- elements that ascend stay as they are
ascending_again : (cells : List Cell) → ascending cells ≡ ascending (ascending cells)
ascending_again cells = (cells_are_in_order (ascending cells)).only (ascending cells) (cells_are_in_order cells).ascends
    (λ x a. a, λ x a. a)

all_ascending : (P : Cell → Type 0) (cells : List Cell) → AllByRecursion P cells → AllByRecursion P (ascending cells)
all_ascending P cells h = among_all P (ascending cells) (λ x a. all_among P cells x h ((cells_are_in_order cells).same.0 x a))

module _ (f : LoopFacts) (owners : List (List ℕ)) (store : List (List ℤ)) where
  -- a role that is wanted, and its test
  pub record IsTestOf (role : Role) (w : Role → Bool) : Type 0 where
    pub same : (r : Role) → same_role r role ≡ w r
    pub no_index : (r : Role) → w r ≡ true → not (is_index r) ≡ true

  reads : IsTestOf Read is_read
  reads = record {
    same = λ role. elim role as (λ r. same_role r Read ≡ is_read r) [ Index ↦ refl | Read ↦ refl | Target ↦ refl ];
    no_index = λ role. elim role as (λ r. is_read r ≡ true → not (is_index r) ≡ true)
        [ Index ↦ λ e. e | Read ↦ λ _. refl | Target ↦ λ _. refl ];
  }

  targets : IsTestOf Target is_target
  targets = record {
    same = λ role. elim role as (λ r. same_role r Target ≡ is_target r) [ Index ↦ refl | Read ↦ refl | Target ↦ refl ];
    no_index = λ role. elim role as (λ r. is_target r ≡ true → not (is_index r) ≡ true)
        [ Index ↦ λ e. e | Read ↦ λ _. refl | Target ↦ λ _. refl ];
  }

  abbrev wanted : (Role → Bool) → ℕ → Use → Bool
  wanted w q u = w u.role && (owner_met f owners u == q)

  -- the elements that are wanted of a node are those of the references that reach beyond the own node
  cells_beyond : (role : Role) (w : Role → Bool) → IsTestOf role w → (p q : ℕ)
      → between_nodes p q (cells_of f owners store w p q) ≡ ascending (map cell_of (filter (wanted w q) (uses_beyond f owners store p)))
  cells_beyond role w test p q = elim (eqb_tells p q) [
    | inl same ↦
        ap (λ b. if b then [] else cells_of f owners store w p q) same.0
        ∙ sym (ap (λ us. ascending (map cell_of us)) (filter_excluded (wanted w q) (λ u. not (owner_met f owners u == p)) (own same.1)
        (kept_uses f store (executed_by f owners store p))))
    | inr other ↦
        ap (λ b. if b then [] else cells_of f owners store w p q) other.0
        ∙ ap (λ us. ascending (map cell_of us))
        (sym (filter_implied (wanted w q) (λ u. not (is_index u.role)) (λ u e. test.no_index u.role (both_true (w u.role) _ e).0)
        (flat_map (uses_at f store) (executed_by f owners store p)))
        ∙ sym (filter_implied (wanted w q) (λ u. not (owner_met f owners u == p)) (beyond other.1)
        (kept_uses f store (executed_by f owners store p))))
  ]
    where
      own : p ≡ q → (u : Use) → not (owner_met f owners u == p) ≡ true → wanted w q u ≡ false
      own same u e = excludes (w u.role) _ (ap (λ k. owner_met f owners u == k) (sym same) ∙ not_number (owner_met f owners u) p e)

      beyond : (p ≡ q → ⊥) → (u : Use) → wanted w q u ≡ true → not (owner_met f owners u == p) ≡ true
      beyond apart u e =
          let at : owner_met f owners u ≡ q = number_is (owner_met f owners u) q (both_true (w u.role) _ e).1 in
          elim (eqb_tells (owner_met f owners u) p) [
            | inl same ↦ absurd (apart (sym same.1 ∙ at))
            | inr other ↦ ap not other.0
          ]

  -- ---- needs

  module _ (slots : ℕ → ℕ → Option ℕ) where
    abbrev pub item_for : Cell → Item
    item_for x = record {
      array = x.array;
      element = x.element;
      local = local_for f.arrays owners x.array (pos x.element);
      slot = unwrap_or (slot_for f slots x.array (pos x.element)) 0;
    }

    exact : (u : Use) → is_met f.arrays u ≡ true → pos (natural u.subscript) ≡ u.subscript
    exact u met = natural_is u.subscript (within f u met).first

    cell_is : (u : Use) (n : Need) → IsNeed f owners slots u n → cell_in (item_of n) ≡ cell_of u
    cell_is u n h = ap (λ a. let c : Cell = record { array = a; element = n.element } in c) h.array
        ∙ ap (λ e. let c : Cell = record { array = u.array; element = e } in c) h.element

    item_is : (u : Use) (n : Need) → is_met f.arrays u ≡ true → IsNeed f owners slots u n → item_for (cell_in (item_of n)) ≡ item_of n
    item_is u n met h =
        let z : pos n.element ≡ u.subscript = ap pos h.element ∙ exact u met in
        let local : local_for f.arrays owners n.array (pos n.element) ≡ n.place.local =
        ap (λ a. local_for f.arrays owners a (pos n.element)) h.array ∙ ap (local_for f.arrays owners u.array) z
        ∙ sym (ap (λ p. p.local) h.place) in
        let slot : unwrap_or (slot_for f slots n.array (pos n.element)) 0 ≡ n.slot =
        ap (λ a. unwrap_or (slot_for f slots a (pos n.element)) 0) h.array ∙ ap (λ y. unwrap_or (slot_for f slots u.array y) 0) z
        ∙ ap (λ o. unwrap_or o 0) h.slot in
        ap (λ l. let i : Item = record {
          array = n.array;
          element = n.element;
          local = l;
          slot = unwrap_or (slot_for f slots n.array (pos n.element)) 0;
        } in i) local
        ∙ ap (λ s. let i : Item = record { array = n.array; element = n.element; local = n.place.local; slot = s } in i) slot

    items_are : (role : Role) (q : ℕ) (us : List Use) (ns : List Need) → AllByRecursion (λ u. is_met f.arrays u ≡ true) us
        → AllZip (IsNeed f owners slots) us ns
        → AllByRecursion (λ i. item_for (cell_in i) ≡ i) (needed_items role q ns)
    items_are role q [] [] met h = tt
    items_are role q [] (n ∷ ns) met h = absurd h
    items_are role q (u ∷ us) [] met h = absurd h
    items_are role q (u ∷ us) (n ∷ ns) met h = by (same_role n.role role && (n.place.owner == q)) (items_are role q us ns met.1 h.1)
      where
        by : (b : Bool) → AllByRecursion (λ i. item_for (cell_in i) ≡ i) (needed_items role q ns)
            → AllByRecursion (λ i. item_for (cell_in i) ≡ i)
            (map item_of (cond b (n ∷ filter (λ m. same_role m.role role && (m.place.owner == q)) ns)
            (filter (λ m. same_role m.role role && (m.place.owner == q)) ns)))
        by true rest = (item_is u n met.0 h.0, rest)
        by false rest = rest

    cells_are : (role : Role) (w : Role → Bool) → IsTestOf role w → (q : ℕ) (us : List Use) (ns : List Need)
        → AllZip (IsNeed f owners slots) us ns
        → map cell_in (needed_items role q ns) ≡ map cell_of (filter (wanted w q) us)
    cells_are role w test q [] [] h = refl
    cells_are role w test q [] (n ∷ ns) h = absurd h
    cells_are role w test q (u ∷ us) [] h = absurd h
    cells_are role w test q (u ∷ us) (n ∷ ns) h =
        ap (λ b. map cell_in (map item_of (cond b (n ∷ filter (λ m. same_role m.role role && (m.place.owner == q)) ns)
        (filter (λ m. same_role m.role role && (m.place.owner == q)) ns)))) same
        ∙ by (wanted w q u) (cells_are role w test q us ns h.1)
      where
        same : (same_role n.role role && (n.place.owner == q)) ≡ wanted w q u
        same =
            ap (λ b. b && (n.place.owner == q)) (test.same n.role ∙ ap w h.0.role) ∙ ap (λ p. w u.role && (p.owner == q)) h.0.place

        by : (b : Bool) → map cell_in (needed_items role q ns) ≡ map cell_of (filter (wanted w q) us)
            → map cell_in (map item_of (cond b (n ∷ filter (λ m. same_role m.role role && (m.place.owner == q)) ns)
            (filter (λ m. same_role m.role role && (m.place.owner == q)) ns)))
            ≡ map cell_of (cond b (u ∷ filter (wanted w q) us) (filter (wanted w q) us))
        by true rest = ap (λ l. cell_in (item_of n) ∷ l) rest ∙ ap (λ c. c ∷ map cell_of (filter (wanted w q) us)) (cell_is u n h.0)
        by false rest = rest

    module _ (p : ℕ) (needs : List Need) (met : AllByRecursion (λ u. is_met f.arrays u ≡ true) (uses_beyond f owners store p))
        (are : AllZip (IsNeed f owners slots) (uses_beyond f owners store p) needs) where
      pub needed_is : (role : Role) (w : Role → Bool) → IsTestOf role w → (q : ℕ)
          → needed_from role q needs ≡ map item_for (between_nodes p q (cells_of f owners store w p q))
      unfolding needed_from
      needed_is role w test q =
          in_order_cells item_for (λ x. refl) (needed_items role q needs) (items_are role q (uses_beyond f owners store p) needs met are)
          ∙ ap (λ cells. map item_for (ascending cells)) (cells_are role w test q (uses_beyond f owners store p) needs are)
          ∙ ap (map item_for) (sym (cells_beyond role w test p q))

  -- ---- asks

  rows_are : (number : ℕ) (g : Cell → Item) → ((x : Cell) → ask_row number (g x) ≡ ask_row_of f owners (pos number) x) → (cells : List Cell)
      → flat_map (ask_row number) (map g cells) ≡ flat_map (ask_row_of f owners (pos number)) cells
  rows_are number g same [] = refl
  rows_are number g same (x ∷ cells) = ap (λ l. l ++ flat_map (ask_row number) (map g cells)) (same x)
      ∙ ap (λ l. ask_row_of f owners (pos number) x ++ l) (rows_are number g same cells)

  -- ---- rows as they are read

  abbrev own_item : Cell → Item
  own_item x = record { array = x.array; element = x.element; local = local_for f.arrays owners x.array (pos x.element); slot = 0 }

  abbrev IsNamedCell : Cell → Type 0
  IsNamedCell x = (x.array < 2 ^ 32) × (1 ≤ x.element)

  named_own : (cells : List Cell) → AllByRecursion IsNamedCell cells → AllByRecursion IsNamedItem (map own_item cells)
  named_own [] h = tt
  named_own (x ∷ cells) h = (h.0, named_own cells h.1)

  own_again : (cells : List Cell) → map on_owner (map own_item cells) ≡ map own_item cells
  own_again [] = refl
  own_again (x ∷ cells) = ap (λ l. own_item x ∷ l) (own_again cells)

  cells_back : (cells : List Cell) → map cell_in (map own_item cells) ≡ cells
  cells_back [] = refl
  cells_back (x ∷ cells) = ap (λ l. x ∷ l) (cells_back cells)

  items_own : (cells : List Cell) → AllByRecursion (λ i. own_item (cell_in i) ≡ i) (map own_item cells)
  items_own [] = tt
  items_own (x ∷ cells) = (refl, items_own cells)

  own_in_order : (cells : List Cell) → cells ≡ ascending cells → in_order (map own_item cells) ≡ map own_item cells
  own_in_order cells up =
      in_order_cells own_item (λ x. refl) (map own_item cells) (items_own cells) ∙ ap (λ l. map own_item (ascending l)) (cells_back cells)
      ∙ ap (map own_item) (sym up)

  asked_rows : (reads targets : List Cell)
      → flat_map (ask_row_of f owners (pos 0)) reads ++ flat_map (ask_row_of f owners (pos 1)) targets
      ≡ flat_map (ask_row 0) (map own_item reads) ++ flat_map (ask_row 1) (map own_item targets)
  asked_rows reads targets =
      ap (λ l. l ++ flat_map (ask_row_of f owners (pos 1)) targets) (sym (rows_are 0 own_item (λ x. refl) reads))
      ∙ ap (λ l. flat_map (ask_row 0) (map own_item reads) ++ l) (sym (rows_are 1 own_item (λ x. refl) targets))

  pub reads_asked : (reads targets : List Cell) → reads ≡ ascending reads → AllByRecursion IsNamedCell reads
      → asked_by 0 (flat_map (ask_row_of f owners (pos 0)) reads ++ flat_map (ask_row_of f owners (pos 1)) targets) ≡ map own_item reads
  reads_asked reads targets up named =
      ap (asked_by 0) (asked_rows reads targets) ∙ reads_told (map own_item reads) (map own_item targets) (named_own reads named)
      ∙ ap in_order (own_again reads) ∙ own_in_order reads up

  pub targets_asked : (reads targets : List Cell) → targets ≡ ascending targets → AllByRecursion IsNamedCell targets
      → asked_by 1 (flat_map (ask_row_of f owners (pos 0)) reads ++ flat_map (ask_row_of f owners (pos 1)) targets) ≡ map own_item targets
  targets_asked reads targets up named =
      ap (asked_by 1) (asked_rows reads targets) ∙ targets_told (map own_item reads) (map own_item targets) (named_own targets named)
      ∙ ap in_order (own_again targets) ∙ own_in_order targets up

  -- ---- in a loop that is settled

  module _ (settled : IsSettled f owners store) where
    beyond_met : (p : ℕ) → AllByRecursion (λ u. is_met f.arrays u ≡ true) (uses_beyond f owners store p)
    beyond_met p =
        passing _ (λ u. not (owner_met f owners u == p)) (kept_uses f store (executed_by f owners store p))
        (passing _ (λ u. not (is_index u.role)) (flat_map (uses_at f store) (executed_by f owners store p))
        (all_flat_map _ (uses_at f store) (executed_by f owners store p) (executed_met f owners store p settled.accepted settled.sound)))

    named_cell : (u : Use) → is_met f.arrays u ≡ true → IsNamedCell (cell_of u)
    named_cell u met =
        let inside = within f u met in
        let less = (standing f settled.accepted u met).array in
        let few = settled.few in
        let first : pos 1 ≤ℤ u.subscript = inside.first in
        (omega (arith, less, few), natural_some u.subscript first)
      where
        natural_some : (z : ℤ) → pos 1 ≤ℤ z → 1 ≤ natural z
        natural_some (pos n) h = omega (arith, ints, h)
        natural_some (negsuc n) h = absurd (omega (arith, ints, h))

    named_cells : (role : Role) (w : Role → Bool) → IsTestOf role w → (p q : ℕ)
        → AllByRecursion IsNamedCell (between_nodes p q (cells_of f owners store w p q))
    named_cells role w test p q =
        subst (AllByRecursion IsNamedCell) (sym (cells_beyond role w test p q))
        (all_ascending IsNamedCell _ (all_map IsNamedCell cell_of _ (all_weaker _ (λ u. IsNamedCell (cell_of u)) named_cell _
        (passing _ (wanted w q) _ (beyond_met p)))))

    cells_up : (role : Role) (w : Role → Bool) → IsTestOf role w → (p q : ℕ) → between_nodes p q (cells_of f owners store w p q)
        ≡ ascending (between_nodes p q (cells_of f owners store w p q))
    cells_up role w test p q =
        let is = cells_beyond role w test p q in is ∙ ascending_again (map cell_of (filter (wanted w q) (uses_beyond f owners store p)))
        ∙ ap ascending (sym is)

    module _ (slots : ℕ → ℕ → Option ℕ) (p : ℕ) (needs : List Need) (are : AllZip (IsNeed f owners slots) (uses_beyond f owners store p)
        needs) where
      pub asks_are : asks_for f.nodes needs ≡ sent_in f owners store ScheduleAsk p
      unfolding ask_to
      asks_are =
          map-range-same (λ q. ask_to q needs) (λ q. numbers_in_loop f owners store ScheduleAsk p q) 0 f.nodes (λ q.
          ap (λ l. flat_map (ask_row 0) l ++ flat_map (ask_row 1) (needed_from Target q needs))
          (needed_is slots p needs (beyond_met p) are Read is_read reads q)
          ∙ ap (λ l. flat_map (ask_row 0) (map (item_for slots) (needed_of f owners store p q)) ++ flat_map (ask_row 1) l)
          (needed_is slots p needs (beyond_met p) are Target is_target targets q)
          ∙ ap (λ l. l ++ flat_map (ask_row 1) (map (item_for slots) (given_of f owners store p q)))
          (rows_are 0 (item_for slots) (λ x. refl) (needed_of f owners store p q))
          ∙ ap (λ l. flat_map (ask_row_of f owners (pos 0)) (needed_of f owners store p q) ++ l) (rows_are 1 (item_for slots) (λ x. refl)
          (given_of f owners store p q)))

      -- the slot of each element that is needed
      has_slot : (us : List Use) (ns : List Need) → AllByRecursion (λ u. is_met f.arrays u ≡ true) us → AllZip (IsNeed f owners slots) us ns
          → AllByRecursion (λ u. IsOther f owners slots (cell_of u) (item_for slots (cell_of u))) us
      has_slot [] [] met h = tt
      has_slot [] (n ∷ ns) met h = tt
      has_slot (u ∷ us) [] met h = absurd h
      has_slot (u ∷ us) (n ∷ ns) met h =
          let told : slot_for f slots u.array (pos (natural u.subscript)) ≡ Some n.slot = ap (slot_for f slots u.array)
          (exact slots u met.0) ∙ h.0.slot in (
            (record { array = refl; element = refl; local = refl }, told ∙ ap (λ o. Some (unwrap_or o 0)) (sym told)),
            has_slot us ns met.1 h.1,
          )

      others_are : (role : Role) (w : Role → Bool) → IsTestOf role w → (q : ℕ)
          → AllZip (IsOther f owners slots) (between_nodes p q (cells_of f owners store w p q)) (needed_from role q needs)
      others_are role w test q =
          subst (AllZip (IsOther f owners slots) (between_nodes p q (cells_of f owners store w p q)))
          (sym (needed_is slots p needs (beyond_met p) are role w test q))
          (zip_map (IsOther f owners slots) (item_for slots) _
          (subst (AllByRecursion (λ x. IsOther f owners slots x (item_for slots x))) (sym (cells_beyond role w test p q))
          (all_ascending _ _ (all_map _ cell_of _
          (passing _ (wanted w q) _ (has_slot (uses_beyond f owners store p) needs (beyond_met p) are))))))

      own_are : (cells : List Cell) → AllByRecursion (λ x. IsOwn f owners x (own_item x)) cells
      own_are [] = tt
      own_are (x ∷ cells) = ((record { array = refl; element = refl; local = refl }, refl), own_are cells)

      taken_is : (taken : List (List ℤ)) → taken ≡ owed_in f owners store ScheduleAsk p → (q : ℕ) → q < f.nodes
          → list_at taken q ≡ numbers_in_loop f owners store ScheduleAsk q p
      taken_is taken is q less = ap (λ l. list_at l q) is ∙ by_node (λ r. numbers_in_loop f owners store ScheduleAsk r p) q f.nodes less

      pub gather_send_is : (taken : List (List ℤ)) → taken ≡ owed_in f owners store ScheduleAsk p
          → AreItems f.nodes (IsOwn f owners) (λ q. needed_of f owners store q p) (schedule_of f.nodes needs taken).gather_send
      gather_send_is taken is =
          zip_range (λ q items. AllZip (IsOwn f owners) (needed_of f owners store q p) items) (λ q. asked_by 0 (list_at taken q)) 0
          f.nodes (λ q less.
          subst (AllZip (IsOwn f owners) (needed_of f owners store q p))
          (sym (ap (asked_by 0) (taken_is taken is q (omega (arith, less)))
          ∙ reads_asked (needed_of f owners store q p) (given_of f owners store q p) (cells_up Read is_read reads q p)
          (named_cells Read is_read reads q p)))
          (zip_map (IsOwn f owners) own_item (needed_of f owners store q p) (own_are (needed_of f owners store q p))))

      pub scatter_take_is : (taken : List (List ℤ)) → taken ≡ owed_in f owners store ScheduleAsk p
          → AreItems f.nodes (IsOwn f owners) (λ q. given_of f owners store q p) (schedule_of f.nodes needs taken).scatter_take
      scatter_take_is taken is =
          zip_range (λ q items. AllZip (IsOwn f owners) (given_of f owners store q p) items) (λ q. asked_by 1 (list_at taken q)) 0 f.nodes
          (λ q less.
          subst (AllZip (IsOwn f owners) (given_of f owners store q p))
          (sym (ap (asked_by 1) (taken_is taken is q (omega (arith, less)))
          ∙ targets_asked (needed_of f owners store q p) (given_of f owners store q p) (cells_up Target is_target targets q p)
          (named_cells Target is_target targets q p)))
          (zip_map (IsOwn f owners) own_item (given_of f owners store q p) (own_are (given_of f owners store q p))))

      pub gather_fetch_is : (taken : List (List ℤ)) → AreItems f.nodes (IsOther f owners slots) (λ q. needed_of f owners store p q)
          (schedule_of f.nodes needs taken).gather_fetch
      gather_fetch_is taken =
          zip_range (λ q items. AllZip (IsOther f owners slots) (needed_of f owners store p q) items) (λ q. needed_from Read q needs) 0
          f.nodes (λ q less. others_are Read is_read reads q)

      pub scatter_send_is : (taken : List (List ℤ)) → AreItems f.nodes (IsOther f owners slots) (λ q. given_of f owners store p q)
          (schedule_of f.nodes needs taken).scatter_send
      scatter_send_is taken =
          zip_range (λ q items. AllZip (IsOther f owners slots) (given_of f owners store p q) items) (λ q. needed_from Target q needs) 0
          f.nodes (λ q less. others_are Target is_target targets q)
