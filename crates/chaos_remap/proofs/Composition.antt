-- Remapping over all nodes.
use Rattle.std.proofs.Common.{◌≡◌, ℕ, zero, suc, ◌+◌, ◌-◌, ◌*◌, ◌/◌, ◌<◌, ◌≤◌, ℤ, pos, Bool, true, false, cond, ◌&&◌, ◌==◌, List, [], ◌∷◌}
use Rattle.std.proofs.Common.{length, map, filter, Some, unwrap_or, refl, ap, sym, subst, ◌∙◌, Less, arith, rules, add-zero, zero-add}
use Rattle.std.specs.Prelude.{slice_get, ◌<ℤ◌}
use Rattle.std.specs.Option.{option_map}
use Rattle.std.specs.List.{AllByRecursion, flat_map, list_any, range_with_len}
use Rattle.std.specs.List.Sorted.{IsStrictlySortedBy}
use Rattle.std.specs.Ordering.{nat_cmp, ordering_then, eq_by_cmp}
use Rattle.std.specs.Cmp.{IsTotalOrder, nat_cmp_total, int_cmp_total, on_total, then_total, int_cmp_is}
use Rattle.std.specs.FinMap as fin
use Rattle.std.proofs.lemmas.Bool.Decides.{nat_tests}
use Rattle.std.proofs.lemmas.Nat.{div-mul-add}
use Rattle.std.proofs.lemmas.Int.{ints}
use Rattle.std.proofs.lemmas.List.Elements.{recursion_from_All}
use Rattle.std.proofs.lemmas.List.Folds.{flat_map-map}
use Rattle.std.proofs.lemmas.List.FromFn.{length-map-range_with_len}
use Rattle.std.proofs.lemmas.Option.{slice_get-map, slice_get_within}
use Rattle.fd_words.specs.Lists.{list_at}
use Rattle.fd_words.specs.declared.place.Place.{Place}
use Rattle.chaos_dist.specs.Counting.{count_up_to, up_to, below, IsKth, kth_up_to, length-filter-up_to, slice_get-filter-up_to}
use Rattle.chaos_dist.specs.Owners.{owner_in, local_in, elements_on}
use Rattle.list_laws.specs.Tests.{left_true, same_number, same_when}
use Rattle.list_laws.specs.Order.{ascending}
use Rattle.list_laws.specs.Rows.{map-range-same}
use Rattle.list_laws.proofs.Once.{ascending-unique}
use Rattle.chaos_remap.specs.declared.rows.Row.{Row}
use Rattle.chaos_remap.specs.Remapping.{number_at, owner_or_first, new_owner, packed_row}
use Rattle.chaos_remap.specs.Rows.{row_cmp, row_of, rows_of, rows_in, value_in, column_of}
use Rattle.chaos_remap.specs.Remapped.{sorted_rows, remapped}
use Rattle.chaos_remap.specs.Composition.{numbers_on, parts_on, letter_to, taken_by, ArraysStay}
use Rattle.chaos_remap.proofs.Families.{any-key, any-swap, any-same, any-filter, any-flat_map, any-map, filter-both, flat_map-same, by_node}
use Rattle.chaos_remap.proofs.Families.{get-pieces, length-pieces, flat_map-places, map-same, map-places}

inside : {A : Type 0} (x y : A) → Some x ≡ Some y → x ≡ y
inside x y e = cc

-- the number that stands at a place among those that pass
pub is_kth : (p : ℕ → Bool) (n k g : ℕ) → slice_get (filter p (up_to n)) k ≡ Some g → IsKth p n k g
is_kth p n k g e =
    let short : k < count_up_to p n = subst (λ m. k < m) (length-filter-up_to p n) (slice_get_within (filter p (up_to n)) k g e) in
    let found = kth_up_to p n k short in
    let there : slice_get (filter p (up_to n)) k ≡ Some found.0 =
    ap (slice_get (filter p (up_to n))) (sym found.1.before) ∙ slice_get-filter-up_to p n found.0 found.1.from_one found.1.within
    found.1.passes in
    subst (λ h. IsKth p n k h) (inside found.0 g (sym there ∙ e)) found.1

-- ---- the letters

-- the row of an element: its number and each array's value there
abbrev pub whole_row : List (ℕ → ℤ) → ℕ → List ℤ
whole_row arrays g = pos g ∷ map (λ value. value g) arrays

length-map-own : {A B : Type 0} (f : A → B) (xs : List A) → length (map f xs) ≡ length xs
length-map-own f [] = refl
length-map-own f (x ∷ xs) = ap suc (length-map-own f xs)

wide : (arrays : List (ℕ → ℤ)) (g : ℕ) → length (whole_row arrays g) ≡ suc (length arrays)
wide arrays g = ap suc (length-map-own (λ value. value g) arrays)

map_twice : {A B C : Type 0} (g : B → C) (f : A → B) (xs : List A) → map g (map f xs) ≡ map (λ x. g (f x)) xs
map_twice g f [] = refl
map_twice g f (x ∷ xs) = ap (λ l. g (f x) ∷ l) (map_twice g f xs)

number_of_map : (f : ℕ → ℤ) (es : List ℕ) (k g : ℕ) → slice_get es k ≡ Some g → number_at (map f es) k ≡ f g
number_of_map f es k g e = ap (λ o. unwrap_or o (pos 0)) (slice_get-map f es k ∙ ap (option_map f) e)

pub row_at : (arrays : List (ℕ → ℤ)) (es : List ℕ) (k g : ℕ) → slice_get es k ≡ Some g
    → packed_row (map pos es) (map (λ value. map value es) arrays) (pos k) ≡ whole_row arrays g
row_at arrays es k g e =
    ap (λ n. n ∷ map (λ piece. number_at piece k) (map (λ value. map value es) arrays)) (number_of_map pos es k g e)
    ∙ ap (λ l. pos g ∷ l) (map_twice (λ (piece : List ℤ). number_at piece k) (λ (value : ℕ → ℤ). map value es) arrays
    ∙ map-same (λ (value : ℕ → ℤ). number_at (map value es) k) (λ value. value g) arrays (λ _ value _. number_of_map value es k g e))

pub goes_to : (place : ℕ → Place) (es : List ℕ) (k g : ℕ) → slice_get es k ≡ Some g → new_owner (map place es) k ≡ (place g).owner
goes_to place es k g e = ap owner_or_first (slice_get-map place es k ∙ ap (option_map place) e)

and_assoc : (a b c : Bool) → ((a && b) && c) ≡ (a && (b && c))
and_assoc true b c = refl
and_assoc false b c = refl

row_cmp_total : IsTotalOrder row_cmp
row_cmp_total = then_total (on_total (λ (r : Row). r.element) int_cmp_total) (then_total (on_total (λ (r : Row). r.sender) nat_cmp_total)
    (on_total (λ (r : Row). r.start) nat_cmp_total))

row_cmp-IsAntisymmetric : fin.IsAntisymmetric row_cmp
row_cmp-IsAntisymmetric = search rules

module _ (nodes : ℕ) (arrays : List (ℕ → ℤ)) (old new : List ℕ) (node : ℕ) (there : node < nodes) (as_long : length old ≡ length new)
    (owned : (g : ℕ) → owner_in old g < nodes) where
  abbrev width : ℕ
  width = suc (length arrays)

  -- elements that come to the node, and those among them that come from a sender
  abbrev arrives : ℕ → Bool
  arrives g = owner_in new g == node

  abbrev comes : ℕ → ℕ → Bool
  comes sender g = (owner_in old g == sender) && arrives g

  abbrev sent : ℕ → List ℕ
  sent sender = filter (comes sender) (up_to (length old))

  abbrev letters : List (List ℤ)
  letters = map (λ sender. flat_map (whole_row arrays) (sent sender)) (below nodes)

  letter_is : (sender : ℕ) → letter_to nodes arrays old new node sender ≡ flat_map (whole_row arrays) (sent sender)
  letter_is sender =
      let es = elements_on old sender in
      let place : ℕ → Place = λ g. record { owner = owner_in new g; local = local_in new g } in
      let pack = packed_row (numbers_on old sender) (parts_on arrays old sender) in
      let to = λ (q k : ℕ). new_owner (map place es) k == q in
      ap (flat_map pack) (by_node (λ q. map pos (filter (to q) (range_with_len 0 (length (map place es))))) node nodes there)
      ∙ flat_map-map pack pos (filter (to node) (range_with_len 0 (length (map place es))))
      ∙ ap (λ n. flat_map (λ k. pack (pos k)) (filter (to node) (range_with_len 0 n))) (length-map-own place es)
      ∙ flat_map-places (λ k. pack (pos k)) (whole_row arrays) (to node) arrives 0 es
      (λ k g e. ap (λ m. pack (pos m)) (zero-add k) ∙ row_at arrays es k g e)
      (λ k g e. ap (to node) (zero-add k) ∙ ap (λ o. o == node) (goes_to place es k g e))
      ∙ ap (flat_map (whole_row arrays)) (filter-both (λ g. owner_in old g == sender) arrives (up_to (length old)))

  taken_is : taken_by nodes arrays old new node ≡ letters
  taken_is = map-range-same (letter_to nodes arrays old new node) (λ sender. flat_map (whole_row arrays) (sent sender)) 0 nodes letter_is

  letter_at : (sender : ℕ) → sender < nodes → list_at letters sender ≡ flat_map (whole_row arrays) (sent sender)
  letter_at sender h = by_node (λ sender. flat_map (whole_row arrays) (sent sender)) sender nodes h

  -- ---- the rows

  -- where the row of an element stands
  abbrev row_for : ℕ → Row
  row_for g = record { element = pos g; sender = owner_in old g; start = count_up_to (comes (owner_in old g)) (g - 1) * width }

  row_is : (sender k g : ℕ) → slice_get (sent sender) k ≡ Some g → row_of width sender (flat_map (whole_row arrays) (sent sender)) k
      ≡ row_for g
  row_is sender k g e =
      let h = is_kth (comes sender) (length old) k g e in
      let own : owner_in old g ≡ sender = same_when (owner_in old g) sender (left_true (owner_in old g == sender) (arrives g) h.passes) in
      let element : number_at (flat_map (whole_row arrays) (sent sender)) (k * width) ≡ pos g =
      ap (number_at (flat_map (whole_row arrays) (sent sender))) (sym (add-zero (k * width)))
      ∙ ap (λ o. unwrap_or o (pos 0)) (get-pieces (whole_row arrays) width (wide arrays) (sent sender) k 0 g e (omega arith)) in
      let start : k * width ≡ count_up_to (comes (owner_in old g)) (g - 1) * width =
      ap (λ n. n * width) (sym h.before ∙ ap (λ s. count_up_to (comes s) (g - 1)) (sym own)) in
      λ i. record { element = element i; sender = sym own i; start = start i }

  rows_from : (sender : ℕ) → rows_of width sender (flat_map (whole_row arrays) (sent sender)) ≡ map row_for (sent sender)
  rows_from sender =
      let numbers = flat_map (whole_row arrays) (sent sender) in
      let n = length (sent sender) in
      let count : length numbers / width ≡ n =
      ap (λ m. m / width) (length-pieces (whole_row arrays) width (wide arrays) (sent sender) ∙ sym (add-zero (n * width)))
      ∙ div-mul-add n width 0 (omega arith) in
      ap (λ m. map (row_of width sender numbers) (range_with_len 0 m)) count
      ∙ map-places (row_of width sender numbers) row_for 0 (sent sender) (λ k g e. ap (row_of width sender numbers) (zero-add k)
      ∙ row_is sender k g e)

  rows_are : rows_in width letters ≡ flat_map (λ sender. map row_for (sent sender)) (below nodes)
  rows_are =
      ap (λ n. flat_map (λ sender. rows_of width sender (list_at letters sender)) (range_with_len 0 n))
      (length-map-range_with_len (λ sender. flat_map (whole_row arrays) (sent sender)) 0 nodes)
      ∙ flat_map-same (λ sender. rows_of width sender (list_at letters sender)) (λ sender. map row_for (sent sender)) nodes
      (λ sender h. ap (rows_of width sender) (letter_at sender h) ∙ rows_from sender)

  -- ---- the rows in order are those of the elements in order

  members : (r : Row) → list_any (eq_by_cmp row_cmp r) (map row_for (filter arrives (up_to (length old))))
      ≡ list_any (eq_by_cmp row_cmp r) (flat_map (λ sender. map row_for (sent sender)) (below nodes))
  members r =
      let f = eq_by_cmp row_cmp r in
      let at = λ (g : ℕ). f (row_for g) in
      let all = up_to (length old) in
      any-map f row_for (filter arrives all) ∙ any-filter at arrives all
      ∙ sym (any-flat_map f (λ sender. map row_for (sent sender)) (below nodes)
      ∙ any-same (λ sender. list_any f (map row_for (sent sender)))
      (λ sender. list_any (λ g. (owner_in old g == sender) && (arrives g && at g)) all) (below nodes)
      (λ sender. any-map f row_for (sent sender) ∙ any-filter at (comes sender) all
      ∙ any-same (λ g. comes sender g && at g) (λ g. (owner_in old g == sender) && (arrives g && at g)) all
      (λ g. and_assoc (owner_in old g == sender) (arrives g) (at g)))
      ∙ any-swap (λ g sender. (owner_in old g == sender) && (arrives g && at g)) all (below nodes)
      ∙ any-same (λ g. list_any (λ sender. (owner_in old g == sender) && (arrives g && at g)) (below nodes)) (λ g. arrives g && at g) all
      (λ g. any-key (owner_in old g) nodes (arrives g && at g) (owned g)))

  first_less : (g h : ℕ) → g < h → row_cmp (row_for g) (row_for h) ≡ Less
  first_less g h less =
      let below_it : pos g <ℤ pos h = omega (arith, ints) in
      ap (λ o. ordering_then o (ordering_then (nat_cmp (row_for g).sender (row_for h).sender)
      (nat_cmp (row_for g).start (row_for h).start))) (sym (int_cmp_is (pos g) (pos h) Less below_it))

  all_above : (g a n : ℕ) → g < a → AllByRecursion (λ r. row_cmp (row_for g) r ≡ Less) (map row_for (filter arrives (range_with_len a n)))
  all_above g a zero h = tt
  all_above g a (suc n) h =
      let rest = filter arrives (range_with_len (a + 1) n) in
      let later : AllByRecursion (λ r. row_cmp (row_for g) r ≡ Less) (map row_for rest) = all_above g (a + 1) n (omega arith) in
      elim (arrives a) as (λ b. AllByRecursion (λ r. row_cmp (row_for g) r ≡ Less) (map row_for (cond b (a ∷ rest) rest)))
      [ true ↦ (first_less g a h, later) | false ↦ later ]

  sorted_from : (a n : ℕ) → IsStrictlySortedBy row_cmp (map row_for (filter arrives (range_with_len a n)))
  unfolding IsStrictlySortedBy
  sorted_from a zero = tt
  sorted_from a (suc n) =
      let rest = filter arrives (range_with_len (a + 1) n) in
      elim (arrives a) as (λ b. IsStrictlySortedBy row_cmp (map row_for (cond b (a ∷ rest) rest))) [
        | true ↦ (all_above a (a + 1) n (omega arith), sorted_from (a + 1) n)
        | false ↦ sorted_from (a + 1) n
      ]

  sorted_are : sorted_rows width letters ≡ map row_for (elements_on new node)
  unfolding sorted_rows
  sorted_are =
      ap (ascending row_cmp) rows_are
      ∙ sym (ascending-unique row_cmp row_cmp_total row_cmp-IsAntisymmetric (flat_map (λ sender. map row_for (sent sender)) (below nodes))
      (map row_for (filter arrives (up_to (length old))))
      (sorted_from 1 (length old)) members)
      ∙ ap (λ n. map row_for (filter arrives (up_to n))) as_long

  -- ---- their numbers

  value_is : (j k g : ℕ) → j < width → slice_get (elements_on new node) k ≡ Some g → value_in letters j (row_for g)
      ≡ number_at (whole_row arrays g) j
  value_is j k g less e =
      let h = is_kth arrives (length new) k g e in
      let sender = owner_in old g in
      let count = count_up_to (comes sender) (g - 1) in
      let passes : comes sender g ≡ true = ap (λ b. b && arrives g) (same_number sender) ∙ h.passes in
      let at : slice_get (sent sender) count ≡ Some g =
      slice_get-filter-up_to (comes sender) (length old) g h.from_one (subst (λ n. g ≤ n) (sym as_long) h.within) passes in
      ap (λ l. number_at l (count * width + j)) (letter_at sender (owned g))
      ∙ ap (λ o. unwrap_or o (pos 0)) (get-pieces (whole_row arrays) width (wide arrays) (sent sender) count j g at less)

  column_is : (j : ℕ) → j < width → column_of letters (map row_for (elements_on new node)) j ≡ map (λ g. number_at (whole_row arrays g) j)
      (elements_on new node)
  column_is j less =
      map_twice (value_in letters j) row_for (elements_on new node)
      ∙ map-same (λ g. value_in letters j (row_for g)) (λ g. number_at (whole_row arrays g) j) (elements_on new node)
      (λ k g e. value_is j k g less e)

  array_value : (g k : ℕ) (value : ℕ → ℤ) → slice_get arrays k ≡ Some value → number_at (whole_row arrays g) (suc k) ≡ value g
  array_value g k value e =
      ap (λ o. unwrap_or o (pos 0)) (slice_get-map (λ (value : ℕ → ℤ). value g) arrays k ∙ ap (option_map (λ (value : ℕ → ℤ). value g)) e)

  pieces_are : map (column_of letters (map row_for (elements_on new node))) (range_with_len 1 (width - 1)) ≡ parts_on arrays new node
  pieces_are =
      let rows = map row_for (elements_on new node) in
      let back : width - 1 ≡ length arrays = omega arith in
      ap (λ n. map (column_of letters rows) (range_with_len 1 n)) back
      ∙ map-places (column_of letters rows) (λ (value : ℕ → ℤ). map value (elements_on new node)) 1 arrays
      (λ k value e.
      let next : 1 + k ≡ suc k = omega arith in
      let some : k < length arrays = slice_get_within arrays k value e in
      ap (column_of letters rows) next ∙ column_is (suc k) (omega (arith, some))
      ∙ map-same (λ g. number_at (whole_row arrays g) (suc k)) value (elements_on new node) (λ _ g _. array_value g k value e))

  all_placed : remapped width letters ≡ record { elements = numbers_on new node; pieces = parts_on arrays new node }
  all_placed =
      let elements : column_of letters (sorted_rows width letters) 0 ≡ numbers_on new node =
      ap (λ rows. column_of letters rows 0) sorted_are ∙ column_is 0 (omega arith) in
      let pieces : map (column_of letters (sorted_rows width letters)) (range_with_len 1 (width - 1)) ≡ parts_on arrays new node =
      ap (λ rows. map (column_of letters rows) (range_with_len 1 (width - 1))) sorted_are ∙ pieces_are in
      λ i. record { elements = elements i; pieces = pieces i }

  pub composed : remapped width (taken_by nodes arrays old new node) ≡ record {
    elements = numbers_on new node;
    pieces = parts_on arrays new node;
  }
  composed = ap (remapped width) taken_is ∙ all_placed

owner_below : (n : ℕ) (owners : List ℕ) (k : ℕ) → 0 < n → AllByRecursion (λ owner. owner < n) owners → unwrap_or (slice_get owners k) 0 < n
owner_below n [] k some h = some
owner_below n (o ∷ owners) zero some h = h.0
owner_below n (o ∷ owners) (suc k) some h = owner_below n owners k some h.1

pub arrays_stay : ArraysStay
arrays_stay nodes arrays old new node there as_long all =
    composed nodes arrays old new node there as_long (λ g. owner_below nodes old (g - 1) (omega arith)
    (recursion_from_All (λ owner. owner < nodes) old all))
