-- What the schedules of two nodes say of one another.
use Rattle.std.proofs.Common.{◌≡◌, ℕ, zero, suc, ◌+◌, ◌<◌, ◌≤◌, ◌^◌, ℤ, pos, true, false, cond, ◌&&◌, ◌==◌, ◌⊎◌, inl, inr, List, [], ◌∷◌}
use Rattle.std.proofs.Common.{◌++◌, map, Some, None, refl, ap, sym, subst, ◌∙◌, Ordering, Less, Equal, Greater, arith, true≢false, add-zero}
use Rattle.std.proofs.Common.{append-nil}
use Rattle.std.specs.Prelude.{nat_lt, All}
use lib.Dec.{T}
use Rattle.std.specs.List.{AllByRecursion, dedup, dedup_from, flat_map, range_with_len}
use Rattle.std.specs.List.Sorted.{IsStrictlySortedBy}
use Rattle.std.specs.Option.{option_to_list}
use Rattle.std.specs.Ordering.{nat_cmp, int_eq, ordering_then, ordering_reverse, is_eq, is_lt}
use Rattle.std.specs.Cmp.{IsTotalOrder, nat_cmp_total, on_total, then_total, unsigned_ties}
use Rattle.std.specs.FinMap as fin
use Rattle.std.specs.FinMap.Entries.{below_all, is_sorted}
use Rattle.std.proofs.lemmas.Bool.Decides.{nat_tests}
use Rattle.std.proofs.lemmas.List.Elements.{recursion_from_All}
use Rattle.fd_words.specs.Lists.{list_at}
use Rattle.fd_words.specs.declared.place.Role.{Role}
use Rattle.fd_words.specs.declared.place.Role.TheVariants.{Read, Target}
use Rattle.list_laws.specs.Order.{alone, ascending}
use Rattle.list_laws.proofs.Ascending.{first, second}
use Rattle.list_laws.proofs.Once.{ascending-unique}
use Rattle.chaos_sched.specs.declared.item.Item.{Item}
use Rattle.chaos_sched.specs.declared.need.Need.{Need}
use Rattle.chaos_sched.specs.Scheduled.{item_cmp, same_element, in_order, needed_items, needed_from, ask_row, ask_to, asked_item}
use Rattle.chaos_sched.specs.Scheduled.{asked_items, asked_by}
use Rattle.chaos_sched.specs.Agreement.{element_cmp, on_owner, IsNamed, SidesAgree, ListsAscend}
use Rattle.chaos_sched.proofs.Small.{all_dedup_from, all_needed, item_cmp_total, item_cmp-IsAntisymmetric}

-- ---- orders

element_cmp_total : IsTotalOrder element_cmp
element_cmp_total = then_total (on_total (λ (i : Item). i.array) nat_cmp_total) (on_total (λ (i : Item). i.element) nat_cmp_total)

both_equal : (r s : Ordering) → (is_eq r && is_eq s) ≡ is_eq (ordering_then r s)
both_equal Less s = refl
both_equal Equal s = refl
both_equal Greater s = refl

ties : (x y : Item) → same_element x y ≡ is_eq (element_cmp x y)
ties x y =
    ap (λ b. b && (x.element == y.element)) (unsigned_ties x.array y.array)
    ∙ ap (λ b. is_eq (nat_cmp x.array y.array) && b) (unsigned_ties x.element y.element)
    ∙ both_equal (nat_cmp x.array y.array) (nat_cmp x.element y.element)

reversed : (r : Ordering) → is_eq (ordering_reverse r) ≡ is_eq r
reversed Less = refl
reversed Equal = refl
reversed Greater = refl

turned : (x y : Item) → same_element x y ≡ is_eq (element_cmp y x)
turned x y = ties x y ∙ ap is_eq (element_cmp_total.antisymm x y) ∙ reversed (element_cmp y x)

less_when : (r : Ordering) → T (is_lt r) → r ≡ Less
less_when Less h = refl
less_when Equal h = absurd h
less_when Greater h = absurd h

-- what comes first among items is first by array and element, or the same element
less_unless : (r s t : Ordering) → ordering_then r (ordering_then s t) ≡ Less → is_eq (ordering_then r s) ≡ false → ordering_then r s ≡ Less
less_unless Less s t e f = refl
less_unless Equal Less t e f = refl
less_unless Equal Equal t e f = absurd (true≢false f)
less_unless Equal Greater t e f = e
less_unless Greater s t e f = e

less_or_equal : (r s t : Ordering) → ordering_then r (ordering_then s t) ≡ Less → (ordering_then r s ≡ Less) ⊎ (ordering_then r s ≡ Equal)
less_or_equal Less s t e = inl refl
less_or_equal Equal Less t e = inl refl
less_or_equal Equal Equal t e = inr refl
less_or_equal Equal Greater t e = inl e
less_or_equal Greater s t e = inl e

less_further : (r s t : Ordering) → ordering_then r s ≡ Less → ordering_then r (ordering_then s t) ≡ Less
less_further Less s t e = refl
less_further Equal Less t e = refl
less_further Equal Equal t e = absurd (true≢false (ap is_eq e))
less_further Equal Greater t e = e
less_further Greater s t e = e

abbrev rest_cmp : Item → Item → Ordering
rest_cmp a b = ordering_then (nat_cmp a.local b.local) (nat_cmp a.slot b.slot)

each : {A : Type 0} (P Q : A → Type 0) → ((x : A) → P x → Q x) → (xs : List A) → AllByRecursion P xs → AllByRecursion Q xs
each P Q f [] h = tt
each P Q f (x ∷ xs) h = (f x h.0, each P Q f xs h.1)

-- ---- lists in order ascend by array and element

above_keys : (x : Item) (es : List (Item × Unit {0})) → T (below_all item_cmp x es) → AllByRecursion (λ y. item_cmp x y ≡ Less)
    (map (λ e. e.0) es)
above_keys x [] h = tt
above_keys x (e ∷ es) h = (
  less_when (item_cmp x e.0) (first (is_lt (item_cmp x e.0)) _ h),
  above_keys x es (second (is_lt (item_cmp x e.0)) _ h),
)

sorted_keys : (es : List (Item × Unit {0})) → T (is_sorted item_cmp es) → IsStrictlySortedBy item_cmp (map (λ e. e.0) es)
unfolding IsStrictlySortedBy
sorted_keys [] h = tt
sorted_keys (e ∷ es) h = (
  above_keys e.0 es (first (below_all item_cmp e.0 es) _ h),
  sorted_keys es (second (below_all item_cmp e.0 es) _ h),
)

ascending-sorted : (items : List Item) → IsStrictlySortedBy item_cmp (ascending item_cmp items)
ascending-sorted items = let m = fin.from_entries {R = item_cmp} (alone items) in sorted_keys (fin.entries m) (fin.entries_sorted m)

before_both : (k x y : Item) → element_cmp k x ≡ Less → item_cmp x y ≡ Less → element_cmp k y ≡ Less
before_both k x y e f =
    elim (less_or_equal (nat_cmp x.array y.array) (nat_cmp x.element y.element) (rest_cmp x y) f) [
      | inl less ↦ element_cmp_total.trans k x y e less
      | inr same ↦
          element_cmp_total.antisymm k y ∙ ap ordering_reverse (sym (element_cmp_total.congr x y k same))
          ∙ sym (element_cmp_total.antisymm k x) ∙ e
    ]

once_from : (k : Item) (xs : List Item) → AllByRecursion (λ y. item_cmp k y ≡ Less) xs → IsStrictlySortedBy item_cmp xs
    → IsStrictlySortedBy element_cmp (dedup_from same_element k xs)
unfolding IsStrictlySortedBy
once_from k [] above up = (tt, tt)
once_from k (x ∷ xs) above up =
    elim (same_element x k) as (λ b. same_element x k ≡ b
    → IsStrictlySortedBy element_cmp (cond b (dedup_from same_element k xs) (k ∷ dedup_from same_element x xs))) [
      | true ↦ λ _. once_from k xs above.1 up.1
      | false ↦ λ other.
          let less : element_cmp k x ≡ Less = less_unless (nat_cmp k.array x.array) (nat_cmp k.element x.element) (rest_cmp k x) above.0
          (sym (turned x k) ∙ other) in (
            all_dedup_from (λ y. element_cmp k y ≡ Less) same_element x xs less
                (each (λ y. item_cmp x y ≡ Less) (λ y. element_cmp k y ≡ Less) (λ y. before_both k x y less) xs up.0),
            once_from x xs up.0 up.1,
          )
    ] refl

once : (xs : List Item) → IsStrictlySortedBy item_cmp xs → IsStrictlySortedBy element_cmp (dedup same_element xs)
unfolding IsStrictlySortedBy
once [] up = tt
once (x ∷ xs) up = once_from x xs up.0 up.1

pub in_order-sorted : (items : List Item) → IsStrictlySortedBy element_cmp (in_order items)
unfolding in_order
in_order-sorted items = once (ascending item_cmp items) (ascending-sorted items)

-- ---- a list in order stays as it is

pub sorted_further : (xs : List Item) → IsStrictlySortedBy element_cmp xs → IsStrictlySortedBy item_cmp xs
unfolding IsStrictlySortedBy
sorted_further [] up = tt
sorted_further (x ∷ xs) up = (
  each (λ y. element_cmp x y ≡ Less) (λ y. item_cmp x y ≡ Less) (λ y. less_further (nat_cmp x.array y.array)
      (nat_cmp x.element y.element) (rest_cmp x y)) xs up.0,
  sorted_further xs up.1,
)

all_kept : (k : Item) (xs : List Item) → AllByRecursion (λ y. element_cmp k y ≡ Less) xs → IsStrictlySortedBy element_cmp xs
    → dedup_from same_element k xs ≡ k ∷ xs
unfolding IsStrictlySortedBy
all_kept k [] above up = refl
all_kept k (x ∷ xs) above up =
    ap (λ b. cond b (dedup_from same_element k xs) (k ∷ dedup_from same_element x xs)) (turned x k ∙ ap is_eq above.0)
    ∙ ap (λ l. k ∷ l) (all_kept x xs up.0 up.1)

pub none_dropped : (xs : List Item) → IsStrictlySortedBy element_cmp xs → dedup same_element xs ≡ xs
unfolding IsStrictlySortedBy
none_dropped [] up = refl
none_dropped (x ∷ xs) up = all_kept x xs up.0 up.1

in_order-same : (xs : List Item) → IsStrictlySortedBy element_cmp xs → in_order xs ≡ xs
unfolding in_order
in_order-same xs up =
    ap (dedup same_element) (sym (ascending-unique item_cmp item_cmp_total item_cmp-IsAntisymmetric xs xs (sorted_further xs up)
    (λ q. refl))) ∙ none_dropped xs up

above_owner : (k : Item) (xs : List Item) → AllByRecursion (λ y. element_cmp k y ≡ Less) xs
    → AllByRecursion (λ y. element_cmp (on_owner k) y ≡ Less) (map on_owner xs)
above_owner k [] h = tt
above_owner k (x ∷ xs) h = (h.0, above_owner k xs h.1)

sorted_owner : (xs : List Item) → IsStrictlySortedBy element_cmp xs → IsStrictlySortedBy element_cmp (map on_owner xs)
unfolding IsStrictlySortedBy
sorted_owner [] up = tt
sorted_owner (x ∷ xs) up = (above_owner x xs up.0, sorted_owner xs up.1)

-- ---- the rows of an ask, as they are read

abbrev pub IsNamedItem : Item → Type 0
IsNamedItem i = (i.array < 2 ^ 32) × (1 ≤ i.element)

is_in_range : (array element : ℕ) → array < 2 ^ 32 → 1 ≤ element → (nat_lt array (2 ^ 32) && nat_lt 0 element) ≡ true
is_in_range array element h k = grind (arith, nat_tests)

own_rows : (number : ℕ) → int_eq (pos number) (pos number) ≡ true → (xs : List Item) (rest : List ℤ) → AllByRecursion IsNamedItem xs
    → asked_items number (flat_map (ask_row number) xs ++ rest) ≡ map on_owner xs ++ asked_items number rest
own_rows number same [] rest named = refl
own_rows number same (x ∷ xs) rest named =
    let more = asked_items number (flat_map (ask_row number) xs ++ rest) in
    ap (λ b. option_to_list (cond b (asked_item (pos x.array) (pos x.element) (pos x.local)) None) ++ more) same
    ∙ ap (λ b. option_to_list (cond b (Some (on_owner x)) None) ++ more) (is_in_range x.array x.element named.0.0 named.0.1)
    ∙ ap (λ l. on_owner x ∷ l) (own_rows number same xs rest named.1)

other_rows : (number other : ℕ) → int_eq (pos other) (pos number) ≡ false → (xs : List Item) (rest : List ℤ)
    → asked_items number (flat_map (ask_row other) xs ++ rest) ≡ asked_items number rest
other_rows number other differs [] rest = refl
other_rows number other differs (x ∷ xs) rest =
    let more = asked_items number (flat_map (ask_row other) xs ++ rest) in
    ap (λ b. option_to_list (cond b (asked_item (pos x.array) (pos x.element) (pos x.local)) None) ++ more) differs
    ∙ other_rows number other differs xs rest

named_items : (role : Role) (q : ℕ) (needs : List Need) → All IsNamed needs → AllByRecursion IsNamedItem (needed_from role q needs)
named_items role q needs named = all_needed IsNamedItem role q needs (recursion_from_All IsNamed needs named)

in_order-owner : (role : Role) (q : ℕ) (needs : List Need) → in_order (map on_owner (needed_from role q needs)) ≡ map on_owner
    (needed_from role q needs)
unfolding needed_from
in_order-owner role q needs = in_order-same (map on_owner (needed_from role q needs)) (sorted_owner (needed_from role q needs)
    (in_order-sorted (needed_items role q needs)))

-- what is read of rows for reads and for targets
pub reads_told : (reads targets : List Item) → AllByRecursion IsNamedItem reads
    → asked_by 0 (flat_map (ask_row 0) reads ++ flat_map (ask_row 1) targets) ≡ in_order (map on_owner reads)
unfolding asked_by
reads_told reads targets named = ap in_order (
    own_rows 0 refl reads (flat_map (ask_row 1) targets) named
    ∙ ap (λ l. map on_owner reads ++ asked_items 0 l) (sym (append-nil (flat_map (ask_row 1) targets)))
    ∙ ap (λ l. map on_owner reads ++ l) (other_rows 0 1 refl targets [])
    ∙ append-nil (map on_owner reads)
    )

pub targets_told : (reads targets : List Item) → AllByRecursion IsNamedItem targets
    → asked_by 1 (flat_map (ask_row 0) reads ++ flat_map (ask_row 1) targets) ≡ in_order (map on_owner targets)
unfolding asked_by
targets_told reads targets named = ap in_order (
    other_rows 1 0 refl reads (flat_map (ask_row 1) targets)
    ∙ ap (asked_items 1) (sym (append-nil (flat_map (ask_row 1) targets)))
    ∙ own_rows 1 refl targets [] named
    ∙ append-nil (map on_owner targets)
    )

reads_asked : (q : ℕ) (needs : List Need) → All IsNamed needs → asked_by 0 (ask_to q needs) ≡ map on_owner (needed_from Read q needs)
unfolding ask_to
reads_asked q needs named =
    reads_told (needed_from Read q needs) (needed_from Target q needs) (named_items Read q needs named) ∙ in_order-owner Read q needs

targets_asked : (q : ℕ) (needs : List Need) → All IsNamed needs → asked_by 1 (ask_to q needs) ≡ map on_owner (needed_from Target q needs)
unfolding ask_to
targets_asked q needs named =
    targets_told (needed_from Read q needs) (needed_from Target q needs) (named_items Target q needs named) ∙ in_order-owner Target q needs

-- ---- lists by node

at_range : {B : Type 0} (f : ℕ → List B) (a k n : ℕ) → k < n → list_at (map f (range_with_len a n)) k ≡ f (a + k)
at_range f a k zero h = absurd (omega arith)
at_range f a zero (suc n) h = ap f (sym (add-zero a))
at_range f a (suc k) (suc n) h = let less : k < n = omega arith in let more : a + 1 + k ≡ a + suc k = omega arith in
    at_range f (a + 1) k n less ∙ ap f more

pub by_node : {B : Type 0} (f : ℕ → List B) (q n : ℕ) → q < n → list_at (map f (range_with_len 0 n)) q ≡ f q
by_node f q n h = let e : 0 + q ≡ q = omega arith in at_range f 0 q n h ∙ ap f e

pub sides_agree : SidesAgree
sides_agree nodes p q needs_of_p needs_of_q taken_by_p taken_by_q hp hq named took =
    let asked : list_at taken_by_q p ≡ ask_to q needs_of_p = took ∙ by_node (λ r. ask_to r needs_of_p) q nodes hq in (
      by_node (λ r. asked_by 0 (list_at taken_by_q r)) p nodes hp ∙ ap (asked_by 0) asked ∙ reads_asked q needs_of_p named
          ∙ sym (ap (map on_owner) (by_node (λ r. needed_from Read r needs_of_p) q nodes hq)),
      by_node (λ r. asked_by 1 (list_at taken_by_q r)) p nodes hp ∙ ap (asked_by 1) asked ∙ targets_asked q needs_of_p named
          ∙ sym (ap (map on_owner) (by_node (λ r. needed_from Target r needs_of_p) q nodes hq)),
    )

sorted_asked : (number : ℕ) (rows : List ℤ) → IsStrictlySortedBy element_cmp (asked_by number rows)
unfolding asked_by
sorted_asked number rows = in_order-sorted (asked_items number rows)

sorted_needed : (role : Role) (q : ℕ) (needs : List Need) → IsStrictlySortedBy element_cmp (needed_from role q needs)
unfolding needed_from
sorted_needed role q needs = in_order-sorted (needed_items role q needs)

pub lists_ascend : ListsAscend
lists_ascend nodes q needs asks hq = (
  subst (IsStrictlySortedBy element_cmp) (sym (by_node (λ r. asked_by 0 (list_at asks r)) q nodes hq)) (sorted_asked 0 (list_at asks q)),
  subst (IsStrictlySortedBy element_cmp) (sym (by_node (λ r. needed_from Read r needs) q nodes hq)) (sorted_needed Read q needs),
  subst (IsStrictlySortedBy element_cmp) (sym (by_node (λ r. needed_from Target r needs) q nodes hq)) (sorted_needed Target q needs),
  subst (IsStrictlySortedBy element_cmp) (sym (by_node (λ r. asked_by 1 (list_at asks r)) q nodes hq)) (sorted_asked 1 (list_at asks q)),
)
