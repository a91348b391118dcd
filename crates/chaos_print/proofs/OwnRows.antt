-- The rows that a node finds beside its elements are those of the array.
use Rattle.std.specs.Prelude.{◌≡◌, refl, ℕ, zero, suc, ◌+◌, ◌-◌, ◌≤◌, ◌<◌, ℤ, pos, negsuc, ◌+ℤ◌, ◌-ℤ◌, ◌≤ℤ◌, ◌<ℤ◌, Bool, true, false, ◌&&◌}
use Rattle.std.specs.Prelude.{◌==◌, int_le, cond, List, [], ◌∷◌, ◌++◌, length, map, filter, flat_map, unwrap_or}
use Rattle.std.specs.List.{range_with_len}
use Rattle.std.proofs.Common.{ap, sym, ◌∙◌, subst, arith, inl, inr}
use Rattle.std.proofs.lemmas.List.FromFn.{get_or-map-range_with_len, length-map-range_with_len}
use Rattle.std.proofs.lemmas.Bool.{cases_lt}
use Rattle.std.proofs.lemmas.Int.{ints}
use Rattle.std.proofs.lemmas.List.{append-nil}
use Rattle.std.proofs.lemmas.List.Concat.{flat_map-append}
use Rattle.std.proofs.lemmas.List.Elements.{filter-append}
use Rattle.std.proofs.lemmas.Option.{slice_get_past, unwrap_or-slice_get}
use Rattle.fd_words.specs.Lists.{list_at}
use Rattle.chaos_dist.specs.Counting.{up_to}
use Rattle.chaos_dist.specs.Homes.{natural}
use Rattle.chaos_dist.specs.Owners.{elements_on, owner_in}
use Rattle.fd_program.specs.Checks.{IsChecked, IsAligned, layout_extent}
use Rattle.fd_program.specs.Layouts.{owners_at, store_at}
use Rattle.fd_program.specs.Places.{decomposition_of, owner_for, part_of, parts_of, value_on}
use Rattle.fd_program.specs.Stores.{array_at, element, is_within, no_array}
use Rattle.fd_program.specs.declared.array.ArrayFacts.{ArrayFacts}
use Rattle.fd_program.specs.declared.checked.Checked.{Checked}
use Rattle.plan_run.specs.Held.{elements_held}
use Rattle.plan_run.specs.Phases.{print_row, print_rows}
use Rattle.plan_run.specs.Picks.{pick_with}
use Rattle.chaos_print.specs.InRun.{RowsAreHeld}
use Rattle.chaos_print.specs.Printing.{is_row, number_if, own_row, row_of, rows_owned, rows_held}

-- ---- over any lists of rows

rows_of_map : (a : ArrayFacts) (f : ℕ → ℤ) (es : List ℕ) → rows_owned a (map pos es) (map f es) ≡ flat_map (λ e. own_row a (pos e) (f e)) es
rows_of_map a f [] = refl
rows_of_map a f (e ∷ es) = ap (λ (l : List ℤ). own_row a (pos e) (f e) ++ l) (rows_of_map a f es)

none_among : (G : ℕ → List ℤ) (P : ℕ → Bool) (low k : ℕ) → ((e : ℕ) → low ≤ e → e < low + k → G e ≡ [])
    → flat_map G (filter P (range_with_len low k)) ≡ []
none_among G P low zero h = refl
none_among G P low (suc k) h =
    let rest : flat_map G (filter P (range_with_len (low + 1) k)) ≡ [] =
    none_among G P (low + 1) k (λ e l m. h e (omega arith) (omega arith)) in
    pick_with (λ es. flat_map G es ≡ []) (P low) (low ∷ filter P (range_with_len (low + 1) k)) (filter P (range_with_len (low + 1) k))
    (λ t. ap (λ (l : List ℤ). l ++ flat_map G (filter P (range_with_len (low + 1) k))) (h low (omega arith) (omega arith)) ∙ rest)
    (λ t. rest)

both : (G H : ℕ → List ℤ) (b : Bool) (x y : ℕ) (fs hs : List ℕ) → G x ≡ H y → flat_map G fs ≡ flat_map H hs
    → flat_map G (cond b (x ∷ fs) fs) ≡ flat_map H (cond b (y ∷ hs) hs)
both G H true x y fs hs first rest = ap (λ (l : List ℤ). l ++ flat_map G fs) first ∙ ap (λ (l : List ℤ). H y ++ l) rest
both G H false x y fs hs first rest = rest

shifted : (G H : ℕ → List ℤ) (P Q : ℕ → Bool) (o low k : ℕ) → ((g : ℕ) → low ≤ g → g < low + k → P (g + o) ≡ Q g)
    → ((g : ℕ) → low ≤ g → g < low + k → G (g + o) ≡ H g)
    → flat_map G (filter P (range_with_len (low + o) k)) ≡ flat_map H (filter Q (range_with_len low k))
shifted G H P Q o low zero test row = refl
shifted G H P Q o low (suc k) test row =
    let e : low + o + 1 ≡ low + 1 + o = omega arith in
    let fs = filter P (range_with_len (low + o + 1) k) in
    let rest : flat_map G fs ≡ flat_map H (filter Q (range_with_len (low + 1) k)) =
    ap (λ a. flat_map G (filter P (range_with_len a k))) e
    ∙ shifted G H P Q o (low + 1) k (λ g l m. test g (omega arith) (omega arith)) (λ g l m. row g (omega arith) (omega arith)) in
    ap (λ b. flat_map G (cond b ((low + o) ∷ fs) fs)) (test low (omega arith) (omega arith))
    ∙ both G H (Q low) (low + o) low fs (filter Q (range_with_len (low + 1) k)) (row low (omega arith) (omega arith)) rest

range_parts : (a m n : ℕ) → range_with_len a (m + n) ≡ range_with_len a m ++ range_with_len (a + m) n
range_parts a zero n = ap (range_with_len a) (let e : 0 + n ≡ n = omega arith in e)
    ∙ ap (λ b. range_with_len b n) (let e : a ≡ a + 0 = omega arith in e)
range_parts a (suc m) n =
    ap (range_with_len a) (let e : suc m + n ≡ suc (m + n) = omega arith in e)
    ∙ ap (λ (l : List ℕ). a ∷ l) (range_parts (a + 1) m n ∙ ap (λ b. range_with_len (a + 1) m ++ range_with_len b n)
    (let e : a + 1 + m ≡ a + suc m = omega arith in e))

two_parts : (G : ℕ → List ℤ) (P : ℕ → Bool) (xs ys : List ℕ) → flat_map G (filter P (xs ++ ys)) ≡ flat_map G (filter P xs)
    ++ flat_map G (filter P ys)
two_parts G P xs ys = ap (flat_map G) (filter-append P xs ys) ∙ flat_map-append G (filter P xs) (filter P ys)

-- the array's elements 1 to its extent stand behind o others, and before `rest` others
rows_shift : (G H : ℕ → List ℤ) (P Q : ℕ → Bool) (o extent rest : ℕ) → ((e : ℕ) → e ≤ o → G e ≡ []) → ((e : ℕ) → o + extent < e → G e ≡ [])
    → ((g : ℕ) → 1 ≤ g → g ≤ extent → P (g + o) ≡ Q g) → ((g : ℕ) → 1 ≤ g → g ≤ extent → G (g + o) ≡ H g)
    → flat_map G (filter P (up_to (o + (extent + rest)))) ≡ flat_map H (filter Q (up_to extent))
rows_shift G H P Q o extent rest low high test row =
    let rows = λ (l : List ℕ). flat_map G (filter P l) in
    let before = range_with_len 1 o in
    let middle = range_with_len (1 + o) extent in
    let after = range_with_len (1 + o + extent) rest in
    let cut : up_to (o + (extent + rest)) ≡ before ++ (middle ++ after) = range_parts 1 o (extent + rest)
    ∙ ap (λ (l : List ℕ). before ++ l) (range_parts (1 + o) extent rest) in
    ap rows cut ∙ two_parts G P before (middle ++ after)
    ∙ ap (λ (l : List ℤ). l ++ rows (middle ++ after)) (none_among G P 1 o (λ e l m. low e (omega arith)))
    ∙ two_parts G P middle after
    ∙ ap (λ (l : List ℤ). rows middle ++ l) (none_among G P (1 + o + extent) rest (λ e l m. high e (omega arith)))
    ∙ append-nil (rows middle)
    ∙ shifted G H P Q o 1 extent (λ g l m. test g l (omega arith)) (λ g l m. row g l (omega arith))

-- ---- tests of numbers

le_true : (x y : ℤ) → x ≤ℤ y → int_le x y ≡ true
le_true x y h = by (int_le x y) refl
  where
    by : (b : Bool) → int_le x y ≡ b → int_le x y ≡ true
    by true e = e
    by false e = absurd (omega (arith, ints))

le_false : (x y : ℤ) → y <ℤ x → int_le x y ≡ false
le_false x y h = by (int_le x y) refl
  where
    by : (b : Bool) → int_le x y ≡ b → int_le x y ≡ false
    by true e = absurd (omega (arith, ints))
    by false e = e

row_low : (extent : ℕ) (z : ℤ) → z ≤ℤ pos 0 → is_row extent z ≡ false
row_low extent z h =
    let less : z <ℤ pos 1 = omega (arith, ints) in
    ap (λ b. b && int_le z (pos extent) && int_le z (pos 9223372036854775807)) (le_false (pos 1) z less)

and_false : (a b : Bool) → (a && false && b) ≡ false
and_false true b = refl
and_false false b = refl

row_high : (extent : ℕ) (z : ℤ) → pos extent <ℤ z → is_row extent z ≡ false
row_high extent z h =
    ap (λ b. int_le (pos 1) z && b && int_le z (pos 9223372036854775807)) (le_false z (pos extent) h)
    ∙ and_false (int_le (pos 1) z) (int_le z (pos 9223372036854775807))

row_in : (extent : ℕ) (z : ℤ) → pos 1 ≤ℤ z → z ≤ℤ pos extent → z ≤ℤ pos 9223372036854775807 → is_row extent z ≡ true
row_in extent z low high most =
    ap (λ b. b && int_le z (pos extent) && int_le z (pos 9223372036854775807)) (le_true (pos 1) z low)
    ∙ ap (λ b. b && int_le z (pos 9223372036854775807)) (le_true z (pos extent) high)
    ∙ le_true z (pos 9223372036854775807) most

within : (extent : ℕ) (z : ℤ) → pos 1 ≤ℤ z → z ≤ℤ pos extent → (int_le (pos 1) z && int_le z (pos extent)) ≡ true
within extent z low high = ap (λ b. b && int_le z (pos extent)) (le_true (pos 1) z low) ∙ le_true z (pos extent) high

-- ---- lists by arrays and decompositions

-- the elements of a decomposition on a node
elements_for : (owners : List (List ℕ)) (p d : ℕ) → list_at (elements_held owners p) d ≡ map pos (elements_on (list_at owners d) p)
elements_for [] p d = refl
elements_for (o ∷ owners) p zero = refl
elements_for (o ∷ owners) p (suc d) = elements_for owners p d

parts_for : (arrays : List ArrayFacts) (owners : List (List ℕ)) (store : List (List ℤ)) (p a : ℕ) → a < length arrays
    → list_at (parts_of arrays owners store p) a ≡ part_of arrays owners store p a
parts_for arrays owners store p a less =
    unwrap_or-slice_get (parts_of arrays owners store p) a []
    ∙ get_or-map-range_with_len (part_of arrays owners store p) 0 (length arrays) a a [] less (omega arith)

natural_is : (z : ℤ) → pos 0 ≤ℤ z → z ≡ pos (natural z)
natural_is (pos n) h = refl
natural_is (negsuc n) h = absurd (omega (arith, ints))

-- ---- an array

-- of an array that is there
rows_in : (c : Checked) (owners : List (List ℕ)) (store : List (List ℤ)) (p a : ℕ) → a < length c.arrays
    → IsAligned c.layouts (array_at c.arrays a)
    → length (list_at owners (decomposition_of c.arrays a)) ≡ layout_extent c.layouts (decomposition_of c.arrays a)
    → rows_held c.arrays (elements_held owners p) (parts_of c.arrays owners store p) a ≡ print_rows c owners store a p
rows_in c all store p a less h size =
    let facts = array_at c.arrays a in
    let owners = list_at all facts.decomposition in
    let o = natural facts.offset in
    let off : facts.offset ≡ pos o = natural_is facts.offset h.first in
    let within_layout : o + facts.extent ≤ layout_extent c.layouts facts.decomposition = omega (arith, ints, off, h.last) in
    let rest = layout_extent c.layouts facts.decomposition - (o + facts.extent) in
    let whole : length owners ≡ o + (facts.extent + rest) = omega (arith, size, within_layout) in
    let G = λ (e : ℕ). own_row facts (pos e) (value_on c.arrays store a e) in
    let H = print_row store a in
    let P = λ (e : ℕ). owner_in owners e == p in
    let Q = λ (g : ℕ). owner_for c.arrays all a (pos g) == p in
    let row_by = λ (v : ℤ) (b : Bool) (z : ℤ). row_of (number_if b z) v in
    let low : (e : ℕ) → e ≤ o → G e ≡ [] = λ e l.
    ap (λ b. row_by (value_on c.arrays store a e) b (pos e -ℤ facts.offset))
    (row_low facts.extent (pos e -ℤ facts.offset) (let k : (pos e -ℤ facts.offset) ≤ℤ pos 0 = omega (arith, ints, off, l) in k)) in
    let high : (e : ℕ) → o + facts.extent < e → G e ≡ [] = λ e l.
    ap (λ b. row_by (value_on c.arrays store a e) b (pos e -ℤ facts.offset))
    (row_high facts.extent (pos e -ℤ facts.offset) (let k : pos facts.extent <ℤ (pos e -ℤ facts.offset) = omega (arith, ints, off, l) in
    k)) in
    let test : (g : ℕ) → 1 ≤ g → g ≤ facts.extent → P (g + o) ≡ Q g = λ g l m.
    let at : pos (g + o) ≡ (pos g +ℤ facts.offset) = omega (arith, ints, off) in
    ap (λ z. owner_in owners (natural z) == p) at in
    let row : (g : ℕ) → 1 ≤ g → g ≤ facts.extent → G (g + o) ≡ H g = λ g l m.
    let here : (pos (g + o) -ℤ facts.offset) ≡ pos g = omega (arith, ints, off) in
    ap (λ b. row_by (value_on c.arrays store a (g + o)) b (pos (g + o) -ℤ facts.offset))
    (ap (is_row facts.extent) here
    ∙ row_in facts.extent (pos g) (let k : pos 1 ≤ℤ pos g = omega (arith, ints, l) in k) (let k : pos g ≤ℤ pos facts.extent = omega
    (arith, ints, m) in k)
    (let k : pos g ≤ℤ pos 9223372036854775807 = omega (arith, ints, m, h.extent.most) in k))
    ∙ ap (λ z. z ∷ value_on c.arrays store a (g + o) ∷ []) here
    ∙ ap (λ z. pos g ∷ cond (is_within c.arrays a z) (element store a z) (pos 0) ∷ []) here
    ∙ ap (λ b. pos g ∷ cond b (element store a (pos g)) (pos 0) ∷ [])
    (within facts.extent (pos g) (let k : pos 1 ≤ℤ pos g = omega (arith, ints, l) in k) (let k : pos g ≤ℤ pos facts.extent = omega
    (arith, ints, m) in k)) in
    ap (λ es. rows_owned facts es (list_at (parts_of c.arrays all store p) a)) (elements_for all p facts.decomposition)
    ∙ ap (rows_owned facts (map pos (elements_on owners p))) (parts_for c.arrays all store p a less)
    ∙ rows_of_map facts (value_on c.arrays store a) (elements_on owners p)
    ∙ ap (λ n. flat_map G (filter P (up_to n))) whole
    ∙ rows_shift G H P Q o facts.extent rest low high test row

rows_without : (facts : ArrayFacts) (es : List ℤ) → rows_owned facts es [] ≡ []
rows_without facts [] = refl
rows_without facts (e ∷ es) = refl

-- the rows that a node finds
own_rows : (c : Checked) (owners : List (List ℕ)) (store : List (List ℤ)) (p a : ℕ) → IsChecked c
    → ((d : ℕ) → d < length c.layouts → length (list_at owners d) ≡ layout_extent c.layouts d)
    → rows_held c.arrays (elements_held owners p) (parts_of c.arrays owners store p) a ≡ print_rows c owners store a p
own_rows c owners store p a h sizes = elim (cases_lt a (length c.arrays)) [
  | inl less ↦
      let aligned : IsAligned c.layouts (array_at c.arrays a) = subst (IsAligned c.layouts) (sym (unwrap_or-slice_get c.arrays a no_array))
      (h.arrays a no_array less) in
      rows_in c owners store p a less aligned (sizes (decomposition_of c.arrays a) aligned.decomposition)
  | inr past ↦
      let none : array_at c.arrays a ≡ no_array = ap (λ o. unwrap_or o no_array) (slice_get_past c.arrays a past) in
      let short : length (parts_of c.arrays owners store p) ≤ a =
      subst (λ n. n ≤ a) (sym (length-map-range_with_len (part_of c.arrays owners store p) 0 (length c.arrays))) past in
      let part : list_at (parts_of c.arrays owners store p) a ≡ [] =
      ap (λ o. unwrap_or o []) (slice_get_past (parts_of c.arrays owners store p) a short) in
      let elements = list_at (elements_held owners p) (decomposition_of c.arrays a) in
      ap (rows_owned (array_at c.arrays a) elements) part ∙ rows_without (array_at c.arrays a) elements
      ∙ sym (ap (λ (facts : ArrayFacts). flat_map (print_row store a) (filter (λ g. owner_for c.arrays owners a (pos g) == p)
      (up_to facts.extent))) none)
]

pub rows_are_held : RowsAreHeld
rows_are_held s past p array v h sizes stands =
    ap (λ es. rows_held s.checked.arrays es v.parts array) stands.elements
    ∙ ap (λ parts. rows_held s.checked.arrays (elements_held (owners_at s past) p) parts array) stands.parts
    ∙ own_rows s.checked (owners_at s past) (store_at s past) p array h sizes
