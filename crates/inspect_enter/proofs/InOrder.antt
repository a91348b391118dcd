-- Items in order, where each is that of its element.
use Rattle.fd_program.specs.AmongLaws.{from_map, among_map}
use Rattle.std.proofs.Common.{◌≡◌, ℕ, ◌<◌, Bool, true, false, ◌&&◌, ◌||◌, ◌==◌, List, [], ◌∷◌, map, refl, ap, sym, subst, ◌∙◌}
use Rattle.std.proofs.Common.{Ordering, Less, Equal, Greater, arith, inl, inr, true≢false}
use Rattle.std.specs.Prelude.{nat_lt}
use Rattle.std.specs.List.{AllByRecursion, dedup, list_any}
use Rattle.std.specs.List.Sorted.{IsStrictlySortedBy}
use Rattle.std.specs.Ordering.{nat_cmp, ordering_then, is_eq, eq_by_cmp}
use Rattle.std.specs.Cmp.{nat_cmp_is, tied_itself}
use Rattle.std.proofs.lemmas.Bool.{cases_lt}
use Rattle.std.proofs.lemmas.Bool.Decides.{nat_tests}
use Rattle.list_laws.proofs.Once.{ascending-unique}
use Rattle.chaos_sched.proofs.Agreement.{none_dropped, sorted_further}
use Rattle.chaos_sched.proofs.Small.{item_cmp_total, item_cmp-IsAntisymmetric}
use Rattle.chaos_sched.specs.Agreement.{element_cmp}
use Rattle.chaos_sched.specs.Scheduled.{item_cmp, same_element, in_order}
use Rattle.chaos_sched.specs.declared.item.Item.{Item}
use Rattle.fd_program.specs.Cells.{Cell, is_before, ascending}
use Rattle.fd_program.specs.CellsLaws.{IsAscending, cells_are_in_order}
use Rattle.fd_program.specs.ListLaws.{Among, all_among}

abbrev pub cell_in : Item → Cell
cell_in i = record { array = i.array; element = i.element }

-- ---- elements of lists

is_equal : (r : Ordering) → is_eq r ≡ true → r ≡ Equal
is_equal Less e = absurd (true≢false (sym e))
is_equal Equal e = refl
is_equal Greater e = absurd (true≢false (sym e))

any_among : (q : Item) (xs : List Item) → Among q xs → list_any (eq_by_cmp item_cmp q) xs ≡ true
any_among q [] a = absurd a
any_among q (x ∷ xs) (inl e) = ap (λ b. b || list_any (eq_by_cmp item_cmp q) xs) (ap (eq_by_cmp item_cmp q) (sym e)
    ∙ ap is_eq (tied_itself item_cmp_total q))
any_among q (x ∷ xs) (inr a) = by (eq_by_cmp item_cmp q x) (any_among q xs a)
  where
    by : (b : Bool) {c : Bool} → c ≡ true → (b || c) ≡ true
    by true e = refl
    by false e = e

among_any : (q : Item) (xs : List Item) → list_any (eq_by_cmp item_cmp q) xs ≡ true → Among q xs
among_any q [] e = absurd (true≢false (sym e))
among_any q (x ∷ xs) e = by (eq_by_cmp item_cmp q x) refl e (among_any q xs)
  where
    by : (b : Bool) → eq_by_cmp item_cmp q x ≡ b → (b || list_any (eq_by_cmp item_cmp q) xs) ≡ true
        → (list_any (eq_by_cmp item_cmp q) xs ≡ true → Among q xs) → Among q (x ∷ xs)
    by true same h rest = inl (item_cmp-IsAntisymmetric q x (is_equal (item_cmp q x) same))
    by false other h rest = inr (rest h)

same_test : (a b : Bool) → (a ≡ true → b ≡ true) → (b ≡ true → a ≡ true) → a ≡ b
same_test true b f g = sym (f refl)
same_test false true f g = g refl
same_test false false f g = refl

-- ---- lists that ascend

less_by : (a b c d : ℕ) → (nat_lt a b || (a == b && nat_lt c d)) ≡ true → ordering_then (nat_cmp a b) (nat_cmp c d) ≡ Less
less_by a b c d e = elim (cases_lt a b) [
  | inl less ↦ ap (λ r. ordering_then r (nat_cmp c d)) (sym (nat_cmp_is a b Less less))
  | inr more ↦
      let same : a ≡ b = grind (arith, nat_tests) in
      let less : c < d = grind (arith, nat_tests) in
      ap (λ r. ordering_then r (nat_cmp c d)) (sym (nat_cmp_is a b Equal same)) ∙ sym (nat_cmp_is c d Less less)
]

module _ (g : Cell → Item) (its : (x : Cell) → cell_in (g x) ≡ x) where
  element_less : (x y : Cell) → is_before x y ≡ true → element_cmp (g x) (g y) ≡ Less
  element_less x y e =
      less_by (g x).array (g y).array (g x).element (g y).element
      (ap (λ c. is_before c (cell_in (g y))) (its x) ∙ ap (is_before x) (its y) ∙ e)

  all_less : (x : Cell) (ys : List Cell) → AllByRecursion (λ y. is_before x y ≡ true) ys
      → AllByRecursion (λ i. element_cmp (g x) i ≡ Less) (map g ys)
  all_less x [] h = tt
  all_less x (y ∷ ys) h = (element_less x y h.0, all_less x ys h.1)

  up_by_element : (xs : List Cell) → IsAscending xs → IsStrictlySortedBy element_cmp (map g xs)
  unfolding IsStrictlySortedBy
  up_by_element [] h = tt
  up_by_element (x ∷ xs) h = (all_less x xs h.0, up_by_element xs h.1)

  -- items in order are those of their elements in order
  pub in_order_cells : (items : List Item) → AllByRecursion (λ i. g (cell_in i) ≡ i) items
      → in_order items ≡ map g (ascending (map cell_in items))
  unfolding in_order
  in_order_cells items is =
      let order = cells_are_in_order (map cell_in items) in
      let up = up_by_element (ascending (map cell_in items)) order.ascends in
      let out : (q : Item) → Among q (map g (ascending (map cell_in items))) → Among q items = λ q a.
      let x = from_map g (ascending (map cell_in items)) q a in
      let i = from_map cell_in items x.0 (order.same.0 x.0 x.1) in
      subst (λ k. Among k items) (sym (x.2 ∙ ap g i.2 ∙ all_among (λ i. g (cell_in i) ≡ i) items i.0 is i.1)) i.1 in
      let into : (q : Item) → Among q items → Among q (map g (ascending (map cell_in items))) = λ q a.
      subst (λ k. Among k (map g (ascending (map cell_in items)))) (all_among (λ i. g (cell_in i) ≡ i) items q is a)
      (among_map g (ascending (map cell_in items)) (cell_in q) (order.same.1 (cell_in q) (among_map cell_in items q a))) in
      ap (dedup same_element) (sym (ascending-unique item_cmp item_cmp_total item_cmp-IsAntisymmetric items
      (map g (ascending (map cell_in items))) (sorted_further _ up)
      (λ q. same_test _ _ (λ e. any_among q items (out q (among_any q _ e))) (λ e. any_among q _ (into q (among_any q items e))))))
      ∙ none_dropped _ up
