-- What other nodes ask of a node in a section is what the letters of a loop would ask of it.
use Rattle.std.specs.Prelude.{◌≡◌, refl, ℕ, ◌≢◌, ℤ, pos, ◌+ℤ◌, ◌≤ℤ◌, Bool, true, false, ◌&&◌, ◌==◌}
use Rattle.std.specs.Prelude.{if◌then◌else◌, List, [], ◌∷◌, ◌++◌, map, filter, flat_map}
use Rattle.std.specs.List.{AllByRecursion, AllZip}
use Rattle.std.proofs.Common.{ap, sym, ◌∙◌, subst, arith, inl, inr}
use Rattle.std.proofs.lemmas.Bool.Decides.{eqb_tells}
use Rattle.std.proofs.lemmas.Int.{ints}
use Rattle.chaos_dist.specs.Homes.{natural}
use Rattle.list_laws.specs.Rows.{map-range-same}
use Rattle.list_laws.specs.Tests.{same_when, other_number, both_true, left_true, right_true}
use Rattle.fd_words.specs.Roles.{is_read, is_target}
use Rattle.fd_words.specs.declared.place.Role.{Role}
use Rattle.fd_words.specs.declared.place.Role.TheVariants.{Index, Read, Target}
use Rattle.fd_program.specs.AmongLaws.{among_map, from_map, among_filter, from_filter}
use Rattle.fd_program.specs.Cells.{Cell, ascending}
use Rattle.fd_program.specs.CellsLaws.{cells_are_in_order}
use Rattle.fd_program.specs.Homes.{between_nodes, cell_of, cells_of, executed_by, given_of, home_of, needed_of, owner_met, uses_at}
use Rattle.fd_program.specs.ListLaws.{Among, among_all, all_among, among_flat_map, from_flat_map}
use Rattle.fd_program.specs.Loops.{iterations_of}
use Rattle.fd_program.specs.Places.{local_for}
use Rattle.fd_program.specs.RangeLaws.{counted}
use Rattle.fd_program.specs.Uses.{is_met}
use Rattle.fd_program.specs.declared.loop_facts.LoopFacts.{LoopFacts}
use Rattle.fd_program.specs.declared.loop_use.Use.{Use}
use Rattle.inspect_enter.proofs.AllMet.{all_met}
use Rattle.inspect_enter.proofs.InOrder.{cell_in, in_order_cells}
use Rattle.inspect_enter.specs.Preparing.{IsSettled}
use Rattle.plan_loop.specs.LoopLetters.{ask_row_of, numbers_in_loop, owed_in}
use Rattle.plan_loop.specs.declared.loop_phase.LoopPhase.TheVariants.{ScheduleAsk}
use Rattle.chaos_sched.specs.Scheduled.{ask_row, ask_to, asks_for, item_of, needed_from, needed_items, same_role}
use Rattle.chaos_sched.specs.declared.item.Item.{Item}
use Rattle.chaos_sched.specs.declared.need.Need.{Need}
use Rattle.chaos_section.specs.Sections.{asked_at, asked_by, home_on, local_at, need_at, needs_of, own_on, owner_at, role_of}
use Rattle.chaos_section.specs.declared.section.SectionReference.{SectionReference}
use Rattle.section_laws.specs.SectionLoops.{is_section, section_loop, section_references}
use Rattle.section_laws.proofs.Reached.{IsTold, uses_of_section}
use Rattle.section_laws.proofs.Homed.{home_same, told_all}

-- ---- lists

left_of_zip : {A B : Type 0} (R : A → B → Type 0) (xs : List A) (ys : List B) (x : A) → AllZip R xs ys → Among x xs
    → (y : B) × Among y ys × R x y
left_of_zip R [] ys x h a = absurd a
left_of_zip R (z ∷ xs) [] x h a = absurd h
left_of_zip R (z ∷ xs) (y ∷ ys) x h (inl e) = (y, inl refl, subst (λ k. R k y) (sym e) h.0)
left_of_zip R (z ∷ xs) (y ∷ ys) x h (inr a) = let found = left_of_zip R xs ys x h.1 a in (found.0, inr found.1, found.2)

right_of_zip : {A B : Type 0} (R : A → B → Type 0) (xs : List A) (ys : List B) (y : B) → AllZip R xs ys → Among y ys
    → (x : A) × Among x xs × R x y
right_of_zip R xs [] y h a = absurd a
right_of_zip R [] (z ∷ ys) y h a = absurd h
right_of_zip R (x ∷ xs) (z ∷ ys) y h (inl e) = (x, inl refl, subst (λ k. R x k) (sym e) h.0)
right_of_zip R (x ∷ xs) (z ∷ ys) y h (inr a) = let found = right_of_zip R xs ys y h.1 a in (found.0, inr found.1, found.2)

none_among : {A : Type 0} (xs : List A) → ((x : A) → Among x xs → ⊥) → xs ≡ []
none_among [] h = refl
none_among (x ∷ xs) h = absurd (h x (inl refl))

-- elements that are the same are the same in order
ascending-same : (xs ys : List Cell) → ((x : Cell) → Among x xs → Among x ys) → ((x : Cell) → Among x ys → Among x xs)
    → ascending xs ≡ ascending ys
ascending-same xs ys into out =
    let one = cells_are_in_order xs in
    (cells_are_in_order ys).only (ascending xs) one.ascends (λ x a. into x (one.same.0 x a), λ x a. one.same.1 x (out x a))

from_if : {A : Type 0} (b : Bool) (x y : A) → Among x (if b then [] else y ∷ []) → (b ≡ false) × (x ≡ y)
from_if true x y a = absurd a
from_if false x y (inl e) = (refl, e)
from_if false x y (inr a) = absurd a

module _ (f : LoopFacts) (owners : List (List ℕ)) (store : List (List ℤ)) (me : ℕ) (settled : IsSettled f owners store)
    (section : is_section f ≡ true) where
  zip_in : (i : ℤ) → Among i (iterations_of f.turn)
      → AllZip (IsTold f owners i) (section_references f 0 f.site.references) (uses_at f store i)
  zip_in i a =
      told_all f owners i (section_references f 0 f.site.references) (uses_at f store i) settled.accepted settled.owned
      (uses_of_section f store i section)
      (all_among (λ k. AllByRecursion (λ u. is_met f.arrays u ≡ true) (uses_at f store k)) (iterations_of f.turn) i
      (all_met f store settled.accepted settled.sound) a)

  home_in : (i : ℤ) → Among i (iterations_of f.turn) → home_on (section_loop f) i ≡ home_of f owners store i
  home_in i a =
      home_same f owners store i settled.accepted settled.owned section
      (all_among (λ k. AllByRecursion (λ u. is_met f.arrays u ≡ true) (uses_at f store k)) (iterations_of f.turn) i
      (all_met f store settled.accepted settled.sound) a)

  -- a need comes from a reference at an iteration of another home
  record IsAsk (n : Need) : Type 0 where
    i : ℤ
    s : SectionReference
    u : Use
    inside : Among i (iterations_of f.turn)
    used : Among u (uses_at f store i)
    is_told : IsTold f owners i s u
    own : (owner_at f.nodes s i == me) ≡ true
    other : (home_on (section_loop f) i == me) ≡ false
    is : n ≡ need_at (section_loop f) s i

  asked : (n : Need) → Among n (needs_of (section_loop f) me) → IsAsk n
  asked n a =
      let l = section_loop f in
      let by_reference = from_flat_map (asked_by l me) l.references n a in
      let at = from_flat_map (asked_at l me by_reference.0) (own_on l me by_reference.0) n by_reference.2 in
      let kept = from_filter (λ i. owner_at f.nodes by_reference.0 i == me) (iterations_of f.turn) at.0 at.1 in
      let one = from_if (home_on l at.0 == me) n (need_at l by_reference.0 at.0) at.2 in
      let used = left_of_zip (IsTold f owners at.0) l.references (uses_at f store at.0) by_reference.0 (zip_in at.0 kept.0) by_reference.1
      in
      record {
        i = at.0;
        s = by_reference.0;
        u = used.0;
        inside = kept.0;
        used = used.1;
        is_told = used.2;
        own = kept.1;
        other = one.0;
        is = one.1;
      }

  -- ---- elements and items

  abbrev own_item : Cell → Item
  own_item x = record { array = x.array; element = x.element; local = local_for f.arrays owners x.array (pos x.element); slot = 0 }

  element_is : (i : ℤ) (s : SectionReference) (u : Use) → IsTold f owners i s u → natural (i +ℤ s.add) ≡ natural u.subscript
  element_is i s u h = ap natural (sym h.is_use.subscript)

  cell_is : (i : ℤ) (s : SectionReference) (u : Use) → IsTold f owners i s u
      → cell_in (item_of (need_at (section_loop f) s i)) ≡ cell_of u
  cell_is i s u h =
      ap (λ a. let c : Cell = record { array = a; element = natural (i +ℤ s.add) } in c) (sym h.is_use.array)
      ∙ ap (λ e. let c : Cell = record { array = u.array; element = e } in c) (element_is i s u h)

  item_is : (i : ℤ) (s : SectionReference) (u : Use) → IsTold f owners i s u
      → own_item (cell_in (item_of (need_at (section_loop f) s i))) ≡ item_of (need_at (section_loop f) s i)
  item_is i s u h =
      let number : pos (natural (i +ℤ s.add)) ≡ u.subscript =
      ap pos (element_is i s u h) ∙ counted u.subscript (let k : pos 1 ≤ℤ u.subscript = h.first in omega (arith, ints, k)) in
      let local : local_for f.arrays owners s.array (pos (natural (i +ℤ s.add))) ≡ local_at f.nodes s i =
      ap (λ a. local_for f.arrays owners a (pos (natural (i +ℤ s.add)))) (sym h.is_use.array)
      ∙ ap (local_for f.arrays owners u.array) number ∙ h.local in
      ap (λ k. let x : Item = record { array = s.array; element = natural (i +ℤ s.add); local = k; slot = 0 } in x) local

  chosen : Role → ℕ → Need → Bool
  chosen role q n = same_role n.role role && (n.place.owner == q)

  items_own : (role : Role) (q : ℕ) → AllByRecursion (λ x. own_item (cell_in x) ≡ x) (needed_items role q (needs_of (section_loop f) me))
  items_own role q =
      among_all (λ x. own_item (cell_in x) ≡ x) (needed_items role q (needs_of (section_loop f) me)) (λ x a.
      let from = from_map item_of (filter (λ n. same_role n.role role && (n.place.owner == q)) (needs_of (section_loop f) me)) x a in
      let kept = from_filter (λ n. same_role n.role role && (n.place.owner == q)) (needs_of (section_loop f) me) from.0 from.1 in
      let ask = asked from.0 kept.0 in
      let same : x ≡ item_of (need_at (section_loop f) ask.s ask.i) = from.2 ∙ ap item_of ask.is in
      subst (λ y. own_item (cell_in y) ≡ y) (sym same) (item_is ask.i ask.s ask.u ask.is_told))

  -- ---- the same elements

  abbrev wanted : (Role → Bool) → Use → Bool
  wanted w u = w u.role && (owner_met f owners u == me)

  module _ (role : Role) (w : Role → Bool) (tests : (r : Role) → same_role r role ≡ w r) (q : ℕ) where
    abbrev cells_asked : List Cell
    cells_asked = map cell_in (needed_items role q (needs_of (section_loop f) me))

    abbrev cells_wanted : List Cell
    cells_wanted = map cell_of (filter (wanted w) (flat_map (uses_at f store) (executed_by f owners store q)))

    into : (x : Cell) → Among x cells_asked → Among x cells_wanted
    into x a =
        let l = section_loop f in
        let item = from_map cell_in (needed_items role q (needs_of l me)) x a in
        let need = from_map item_of (filter (λ n. same_role n.role role && (n.place.owner == q)) (needs_of l me)) item.0 item.1 in
        let kept = from_filter (λ n. same_role n.role role && (n.place.owner == q)) (needs_of l me) need.0 need.1 in
        let ask = asked need.0 kept.0 in
        let test : (same_role (role_of ask.s) role && (home_on l ask.i == q)) ≡ true =
        ap (λ n. same_role n.role role && (n.place.owner == q)) (sym ask.is) ∙ kept.1 in
        let role_is : w ask.u.role ≡ true = ap w (sym ask.is_told.is_use.role) ∙ sym (tests (role_of ask.s)) ∙ left_true _ _ test in
        let home : (home_of f owners store ask.i == q) ≡ true = ap (λ h. h == q) (sym (home_in ask.i ask.inside)) ∙ right_true _ _ test in
        let owner : (owner_met f owners ask.u == me) ≡ true = ap (λ o. o == me) ask.is_told.owner ∙ ask.own in
        let same : x ≡ cell_of ask.u = item.2 ∙ ap cell_in (need.2 ∙ ap item_of ask.is) ∙ cell_is ask.i ask.s ask.u ask.is_told in
        subst (λ y. Among y cells_wanted) (sym same)
        (among_map cell_of (filter (wanted w) (flat_map (uses_at f store) (executed_by f owners store q))) ask.u
        (among_filter (wanted w) (flat_map (uses_at f store) (executed_by f owners store q)) ask.u
        (among_flat_map (uses_at f store) (executed_by f owners store q) ask.i ask.u
        (among_filter (λ i. home_of f owners store i == q) (iterations_of f.turn) ask.i ask.inside home) ask.used)
        (both_true _ _ role_is owner)))

    out : q ≢ me → (x : Cell) → Among x cells_wanted → Among x cells_asked
    out apart x a =
        let l = section_loop f in
        let used = from_map cell_of (filter (wanted w) (flat_map (uses_at f store) (executed_by f owners store q))) x a in
        let kept = from_filter (wanted w) (flat_map (uses_at f store) (executed_by f owners store q)) used.0 used.1 in
        let at = from_flat_map (uses_at f store) (executed_by f owners store q) used.0 kept.0 in
        let i = at.0 in
        let run = from_filter (λ i. home_of f owners store i == q) (iterations_of f.turn) i at.1 in
        let reference = right_of_zip (IsTold f owners i) l.references (uses_at f store i) used.0 (zip_in i run.0) at.2 in
        let s = reference.0 in
        let h = reference.2 in
        let home : (home_on l i == q) ≡ true = ap (λ k. k == q) (home_in i run.0) ∙ run.1 in
        let away : (home_on l i == me) ≡ false = ap (λ k. k == me) (same_when (home_on l i) q home) ∙ other_number q me apart in
        let own : (owner_at f.nodes s i == me) ≡ true = ap (λ o. o == me) (sym h.owner) ∙ right_true _ _ kept.1 in
        let n : Need = need_at l s i in
        let there : Among n (asked_at l me s i) = subst (λ b. Among n (if b then [] else n ∷ [])) (sym away) (inl refl) in
        let among : Among n (needs_of l me) =
        among_flat_map (asked_by l me) l.references s n reference.1
        (among_flat_map (asked_at l me s) (own_on l me s) i n
        (among_filter (λ k. owner_at f.nodes s k == me) (iterations_of f.turn) i run.0 own) there) in
        let role_is : same_role (role_of s) role ≡ true = tests (role_of s) ∙ ap w h.is_use.role ∙ left_true _ _ kept.1 in
        let same : x ≡ cell_in (item_of n) = used.2 ∙ sym (cell_is i s used.0 h) in
        subst (λ y. Among y cells_asked) (sym same)
        (among_map cell_in (needed_items role q (needs_of l me)) (item_of n)
        (among_map item_of (filter (λ n. same_role n.role role && (n.place.owner == q)) (needs_of l me)) n
        (among_filter (λ n. same_role n.role role && (n.place.owner == q)) (needs_of l me) n among (both_true _ _ role_is home))))

    nothing_own : q ≡ me → needed_items role q (needs_of (section_loop f) me) ≡ []
    nothing_own same =
        none_among (needed_items role q (needs_of (section_loop f) me)) (λ x a.
        let need = from_map item_of (filter (λ n. same_role n.role role && (n.place.owner == q)) (needs_of (section_loop f) me)) x a in
        let kept = from_filter (λ n. same_role n.role role && (n.place.owner == q)) (needs_of (section_loop f) me) need.0 need.1 in
        let ask = asked need.0 kept.0 in
        let home : (home_on (section_loop f) ask.i == q) ≡ true =
        ap (λ n. n.place.owner == q) (sym ask.is) ∙ right_true _ _ kept.1 in
        let yes : true ≡ false = sym home ∙ ap (λ k. home_on (section_loop f) ask.i == k) same ∙ ask.other in
        cc)

    same_cells : ascending cells_asked ≡ between_nodes q me (cells_of f owners store w q me)
    same_cells = elim (eqb_tells q me) [
      | inl same ↦
          ap (λ items. ascending (map cell_in items)) (nothing_own same.1)
          ∙ sym (ap (λ b. if b then [] else cells_of f owners store w q me) same.0)
      | inr other ↦
          ascending-same cells_asked cells_wanted into (out other.1)
          ∙ sym (ap (λ b. if b then [] else cells_of f owners store w q me) other.0)
    ]

    pub needed_is : needed_from role q (needs_of (section_loop f) me) ≡ map own_item (between_nodes q me (cells_of f owners store w q me))
    unfolding needed_from
    needed_is =
        in_order_cells own_item (λ x. refl) (needed_items role q (needs_of (section_loop f) me)) (items_own role q)
        ∙ ap (map own_item) same_cells

  -- ---- rows

  rows_are : (number : ℕ) (cells : List Cell)
      → flat_map (ask_row number) (map own_item cells) ≡ flat_map (ask_row_of f owners (pos number)) cells
  rows_are number [] = refl
  rows_are number (x ∷ cells) = ap (λ l. ask_row number (own_item x) ++ l) (rows_are number cells)

  reads : (r : Role) → same_role r Read ≡ is_read r
  reads Index = refl
  reads Read = refl
  reads Target = refl

  targets : (r : Role) → same_role r Target ≡ is_target r
  targets Index = refl
  targets Read = refl
  targets Target = refl

  ask_is : (q : ℕ) → ask_to q (needs_of (section_loop f) me) ≡ numbers_in_loop f owners store ScheduleAsk q me
  unfolding ask_to
  ask_is q =
      ap (λ items. flat_map (ask_row 0) items ++ flat_map (ask_row 1) (needed_from Target q (needs_of (section_loop f) me)))
      (needed_is Read is_read reads q)
      ∙ ap (λ items. flat_map (ask_row 0) (map own_item (needed_of f owners store q me)) ++ flat_map (ask_row 1) items)
      (needed_is Target is_target targets q)
      ∙ ap (λ l. l ++ flat_map (ask_row 1) (map own_item (given_of f owners store q me))) (rows_are 0 (needed_of f owners store q me))
      ∙ ap (λ l. flat_map (ask_row_of f owners (pos 0)) (needed_of f owners store q me) ++ l) (rows_are 1 (given_of f owners store q me))

  pub asks_are : asks_for f.nodes (needs_of (section_loop f) me) ≡ owed_in f owners store ScheduleAsk me
  asks_are =
      map-range-same (λ q. ask_to q (needs_of (section_loop f) me)) (λ q. numbers_in_loop f owners store ScheduleAsk q me) 0 f.nodes ask_is
