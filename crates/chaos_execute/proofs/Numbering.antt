-- Values joined by the numbers of their places.
use Rattle.std.proofs.Common.{◌≡◌, ◌≢◌, ℕ, zero, suc, ◌<◌, ◌≤◌, ◌⊎◌, ℤ, pos, Bool, true, false, cond, List, [], ◌∷◌, ◌++◌, length}
use Rattle.std.proofs.Common.{length-drop, take, drop, get_or, set, ◌+◌, ◌*◌, ◌/◌}
use Rattle.std.proofs.Common.{Option, Some, None, refl, ap, sym, subst, ◌∙◌, arith, inl, inr}
use Rattle.std.specs.Prelude.{nat_lt, slice_get, fold}
use Rattle.std.proofs.lemmas.List.{get_or_default, length_push}
use Rattle.std.proofs.lemmas.Option.{unwrap_or-slice_get}
use Rattle.std.specs.Ordering.{int_eq}
use Rattle.std.proofs.lemmas.Bool.Decides.{eqb_tells, Decides-ltb}
use Rattle.fd_words.specs.declared.combine.Combine.{Combine}
use Rattle.chaos_move.specs.Moves.{changed, number_at}
use Rattle.chaos_execute.specs.Numbered.{places_at, rows_at, no_number, counted, IsTable, IsNumbered, IsGrown, IsNewIn}
use Rattle.chaos_execute.specs.Pending.{joined_at, put_slot, rows_of}
use Rattle.chaos_execute.proofs.Booleans.{int_true, int_false, less_true, pos_same}
use Rattle.chaos_execute.proofs.Here.{two_left}

-- ---- a number below a count

pub counted_some : (count number : ℕ) (o : Option ℕ) → counted count o ≡ Some number → (o ≡ Some number) × (number < count)
counted_some count number None e = cc
counted_some count number (Some n) e = by (nat_lt n count) refl e
  where
    by : (b : Bool) → nat_lt n count ≡ b → cond b (Some n) None ≡ Some number → (Some n ≡ Some number) × (number < count)
    by true t f =
        let same : n ≡ number = cc in
        let below : n < count = (Decides-ltb n count).0 t in
        (ap Some same, subst (λ m. m < count) same below)
    by false t f = cc

pub counted_none : (count : ℕ) (o : Option ℕ) (number : ℕ) → counted count o ≡ None → o ≡ Some number → number < count → ⊥
counted_none count None number e is below = cc
counted_none count (Some n) number e is below =
    let same : n ≡ number = cc in
    let small : n < count = subst (λ m. m < count) (sym same) below in
    let found : Some n ≡ None = sym (ap (λ b. cond b (Some n) None) (less_true n count small)) ∙ e in
    cc

-- ---- places of a list

got_set : (xs : List ℕ) (i y : ℕ) → i < length xs → slice_get (set xs i y) i ≡ Some y
got_set [] i y h = absurd (omega arith)
got_set (x ∷ xs) zero y h = refl
got_set (x ∷ xs) (suc i) y h = got_set xs i y (omega arith)

got_other : (xs : List ℕ) (i j y : ℕ) → j ≢ i → slice_get (set xs i y) j ≡ slice_get xs j
got_other [] i j y h = refl
got_other (x ∷ xs) zero zero y h = absurd (h refl)
got_other (x ∷ xs) zero (suc j) y h = refl
got_other (x ∷ xs) (suc i) zero y h = refl
got_other (x ∷ xs) (suc i) (suc j) y h = got_other xs i j y (λ e. h (ap suc e))

got_front : {A : Type 0} (xs : List A) (x y : A) (i : ℕ) → slice_get xs i ≡ Some y → slice_get (xs ++ x ∷ []) i ≡ Some y
got_front [] x y i e = cc
got_front (z ∷ xs) x y zero e = e
got_front (z ∷ xs) x y (suc i) e = got_front xs x y i e

got_end : {A : Type 0} (xs : List A) (x : A) → slice_get (xs ++ x ∷ []) (length xs) ≡ Some x
got_end [] x = refl
got_end (z ∷ xs) x = got_end xs x

got_pushed : {A : Type 0} (xs : List A) (x y : A) (i : ℕ) → slice_get (xs ++ x ∷ []) i ≡ Some y
    → (slice_get xs i ≡ Some y) ⊎ ((i ≡ length xs) × (x ≡ y))
got_pushed [] x y zero e = let same : x ≡ y = cc in inr (refl, same)
got_pushed [] x y (suc i) e = cc
got_pushed (z ∷ xs) x y zero e = inl e
got_pushed (z ∷ xs) x y (suc i) e =
    elim (got_pushed xs x y i e) [
      | inl front ↦ inl front
      | inr last ↦ inr (ap suc last.0, last.1)
    ]

-- ---- a table

pub as_it_is : (table : List ℕ) → IsGrown table table
as_it_is table = record { keeps = λ place number e. e; adds_none = λ place number e. inr e }

pub grown_more : (table grown : List ℕ) → IsGrown table grown → IsGrown table (grown ++ no_number ∷ [])
grown_more table grown g = record {
  keeps = λ place number e. got_front grown no_number number place (g.keeps place number e);
  adds_none = λ place number e. elim (got_pushed grown no_number number place e) [
    | inl front ↦ g.adds_none place number front
    | inr last ↦ inl (sym last.1)
  ];
}

pub grown_table : (table grown : List ℕ) (places : List ℤ) → IsTable table places → IsGrown table grown → IsTable grown places
grown_table table grown places t g = record {
  found = λ number place e. g.keeps place number (t.found number place e);
  has = λ place number e. elim (g.adds_none place number e) [ inl none ↦ inl none | inr was ↦ t.has place number was ];
}

-- one place more
pub table_added : (table : List ℕ) (places : List ℤ) (place : ℕ) → IsTable table places → place < length table → IsNewIn places place
    → IsTable (set table place (length places)) (places ++ pos place ∷ [])
table_added table places place t long new = record {
  found = λ number p e. elim (got_pushed places (pos place) (pos p) number e) [
    | inl front ↦
        got_other table place p (length places) (λ same. new number (front ∙ ap (λ q. Some (pos q)) same)) ∙ t.found number p front
    | inr last ↦
        let same : place ≡ p = pos_same place p last.1 in
        subst (λ q. slice_get (set table place (length places)) q ≡ Some number) same
        (got_set table place (length places) long ∙ ap Some (sym last.0))
  ];
  has = λ p number e. elim (eqb_tells p place) [
    | inl same ↦
        let is : Some (length places) ≡ Some number =
        sym (got_set table place (length places) long) ∙ ap (slice_get (set table place (length places))) (sym same.1) ∙ e in
        let at : length places ≡ number = cc in
        inr (ap (slice_get (places ++ pos place ∷ [])) (sym at) ∙ got_end places (pos place) ∙ ap (λ q. Some (pos q)) (sym same.1))
    | inr other ↦ elim (t.has p number (sym (got_other table place p (length places) other.1) ∙ e)) [
      | inl none ↦ inl none
      | inr front ↦ inr (got_front places (pos place) (pos p) number front)
    ]
  ];
}

-- ---- rows

-- either each place has a value, or the last has none
places_are : (rows : List ℤ) → (length rows ≡ 2 * length (places_at rows)) ⊎ (length rows ≡ 2 * length (places_at rows) + 1)
places_are [] = inl refl
places_are (p ∷ []) = inr refl
places_are (p ∷ v ∷ rows) = elim (places_are rows) [ inl even ↦ inl (omega (arith, even)) | inr odd ↦ inr (omega (arith, odd)) ]

pub places_half : (rows : List ℤ) (half : ℕ) → half ≡ length rows / 2 → half ≡ length (places_at rows)
places_half rows half h = elim (places_are rows) [ inl even ↦ omega (arith, even, h) | inr odd ↦ omega (arith, odd, h) ]

pub place_within : (rows : List ℤ) (number : ℕ) → number < length (places_at rows) → 2 * number + 1 < length rows
place_within rows number h = elim (places_are rows) [ inl even ↦ omega (arith, even, h) | inr odd ↦ omega (arith, odd, h) ]

-- another value for the one place with this number
changed_one : (operator : Option Combine) (rows : List ℤ) (number at : ℕ) (place value : ℤ) → at ≡ 2 * number + 1
    → slice_get (places_at rows) number ≡ Some place → ((other : ℕ) → slice_get (places_at rows) other ≡ Some place → other ≡ number)
    → rows_at (set rows at (changed operator (number_at rows at) value)) ≡ joined_at operator (rows_at rows) place value
changed_one operator [] number at place value e is only = cc
changed_one operator (p ∷ []) number at place value e is only = cc
changed_one operator (p ∷ v ∷ rows) zero zero place value e is only = absurd (omega arith)
changed_one operator (p ∷ v ∷ rows) zero (suc zero) place value e is only =
    let same : p ≡ place = cc in
    sym (ap (λ b. cond b ((p, changed operator v value) ∷ rows_at rows) ((p, v) ∷ joined_at operator (rows_at rows) place value))
    (int_true place p (sym same)))
changed_one operator (p ∷ v ∷ rows) zero (suc (suc at)) place value e is only = absurd (omega arith)
changed_one operator (p ∷ v ∷ rows) (suc number) zero place value e is only = absurd (omega arith)
changed_one operator (p ∷ v ∷ rows) (suc number) (suc zero) place value e is only = absurd (omega arith)
changed_one operator (p ∷ v ∷ rows) (suc number) (suc (suc at)) place value e is only =
    let rest = changed_one operator rows number at place value (omega arith) is
    (λ other f. let s : suc other ≡ suc number = only (suc other) f in omega arith) in
    let differs : int_eq place p ≡ false =
    int_false place p (λ same. let no : 0 ≡ suc number = only 0 (ap Some (sym same)) in absurd (omega arith)) in
    ap (λ more. (p, v) ∷ more) rest
    ∙ sym (ap (λ b. cond b ((p, changed operator v value) ∷ rows_at rows) ((p, v) ∷ joined_at operator (rows_at rows) place value)) differs)

-- another value leaves the places as they are
places_kept : (rows : List ℤ) (number at : ℕ) (value : ℤ) → at ≡ 2 * number + 1 → places_at (set rows at value) ≡ places_at rows
places_kept [] number at value e = refl
places_kept (p ∷ []) number zero value e = absurd (omega arith)
places_kept (p ∷ []) number (suc at) value e = refl
places_kept (p ∷ v ∷ rows) number zero value e = absurd (omega arith)
places_kept (p ∷ v ∷ rows) number (suc zero) value e = refl
places_kept (p ∷ v ∷ rows) zero (suc (suc at)) value e = absurd (omega arith)
places_kept (p ∷ v ∷ rows) (suc number) (suc (suc at)) value e = ap (λ more. p ∷ more) (places_kept rows number at value (omega arith))

-- the first value of a place
added_one : (operator : Option Combine) (rows : List ℤ) (place value : ℤ) → length rows ≡ 2 * length (places_at rows)
    → ((number : ℕ) → slice_get (places_at rows) number ≡ Some place → ⊥)
    → rows_at (rows ++ place ∷ value ∷ []) ≡ joined_at operator (rows_at rows) place value
added_one operator [] place value even new = refl
added_one operator (p ∷ []) place value even new = absurd (omega (arith, even))
added_one operator (p ∷ v ∷ rows) place value even new =
    let rest = added_one operator rows place value (omega (arith, even)) (λ number. new (suc number)) in
    let differs : int_eq place p ≡ false = int_false place p (λ same. new 0 (ap Some (sym same))) in
    ap (λ more. (p, v) ∷ more) rest
    ∙ sym (ap (λ b. cond b ((p, changed operator v value) ∷ rows_at rows) ((p, v) ∷ joined_at operator (rows_at rows) place value)) differs)

places_more : (rows : List ℤ) (place value : ℤ) → length rows ≡ 2 * length (places_at rows)
    → places_at (rows ++ place ∷ value ∷ []) ≡ places_at rows ++ place ∷ []
places_more [] place value even = refl
places_more (p ∷ []) place value even = absurd (omega (arith, even))
places_more (p ∷ v ∷ rows) place value even = ap (λ more. p ∷ more) (places_more rows place value (omega (arith, even)))

-- a place without a value is no row
places_odd : (rows : List ℤ) (place : ℤ) → length rows ≡ 2 * length (places_at rows) → places_at (rows ++ place ∷ []) ≡ places_at rows
places_odd [] place even = refl
places_odd (p ∷ []) place even = absurd (omega (arith, even))
places_odd (p ∷ v ∷ rows) place even = ap (λ more. p ∷ more) (places_odd rows place (omega (arith, even)))

-- ---- whole rows

record IsWholeOf (rows whole : List ℤ) : Type 0 where
  rows_are : rows_at whole ≡ rows_at rows
  places_are_those : places_at whole ≡ places_at rows
  even : length whole ≡ 2 * length (places_at whole)

whole_by : (rows : List ℤ) (count : ℕ) → count ≡ 2 * length (places_at rows) → IsWholeOf rows (take count rows)
whole_by [] zero e = record { rows_are = refl; places_are_those = refl; even = refl }
whole_by [] (suc count) e = record { rows_are = refl; places_are_those = refl; even = refl }
whole_by (p ∷ []) zero e = record { rows_are = refl; places_are_those = refl; even = refl }
whole_by (p ∷ []) (suc count) e = absurd (omega (arith, e))
whole_by (p ∷ v ∷ rows) zero e = absurd (omega (arith, e))
whole_by (p ∷ v ∷ rows) (suc zero) e = absurd (omega (arith, e))
whole_by (p ∷ v ∷ rows) (suc (suc count)) e =
    let rest = whole_by rows count (omega (arith, e)) in
    let even : length (take count rows) ≡ 2 * length (places_at (take count rows)) = rest.even in
    record {
      rows_are = ap (λ more. (p, v) ∷ more) rest.rows_are;
      places_are_those = ap (λ more. p ∷ more) rest.places_are_those;
      even = omega (arith, even);
    }

numbers_even : (rows : List ℤ) → length rows ≡ 2 * length (places_at rows) → rows_of (rows_at rows) ≡ rows
numbers_even [] even = refl
numbers_even (p ∷ []) even = absurd (omega (arith, even))
numbers_even (p ∷ v ∷ rows) even = ap (λ more. p ∷ v ∷ more) (numbers_even rows (omega (arith, even)))

pub numbers_whole : (rows after : List ℤ) (half : ℕ) → half ≡ length rows / 2 → after ≡ take (2 * half) rows → after
    ≡ rows_of (rows_at rows)
numbers_whole rows after half h e =
    let count : half ≡ length (places_at rows) = places_half rows half h in
    let whole = whole_by rows (2 * half) (omega (arith, count)) in
    e ∙ sym (numbers_even (take (2 * half) rows) whole.even) ∙ ap rows_of whole.rows_are

-- ---- what the table finds

pub row_changed : (operator : Option Combine) (table : List ℕ) (rows : List ℤ) (place number : ℕ) (value : ℤ)
    → IsNumbered table rows → counted (length (places_at rows)) (slice_get table place) ≡ Some number
    → rows_at (set rows (2 * number + 1) (changed operator (number_at rows (2 * number + 1)) value))
    ≡ joined_at operator (rows_at rows) (pos place) value
row_changed operator table rows place number value n e =
    let is = counted_some (length (places_at rows)) number (slice_get table place) e in
    let few : length (places_at rows) ≤ no_number = n.few in
    let below : number < length (places_at rows) = is.1 in
    let at : slice_get (places_at rows) number ≡ Some (pos place) = elim (n.known.has place number is.0) [
      | inl none ↦ absurd (omega arith)
      | inr found ↦ found
    ] in
    changed_one operator rows number (2 * number + 1) (pos place) value refl at
    (λ other f. let same : Some other ≡ Some number = sym (n.known.found other place f) ∙ is.0 in cc)

within : {A : Type 0} (xs : List A) (i : ℕ) (x : A) → slice_get xs i ≡ Some x → i < length xs
within [] i x e = cc
within (y ∷ xs) zero x e = omega arith
within (y ∷ xs) (suc i) x e = let rest : i < length xs = within xs i x e in omega arith

pub is_new : (table : List ℕ) (rows : List ℤ) (place : ℕ) → IsNumbered table rows
    → counted (length (places_at rows)) (slice_get table place) ≡ None → IsNewIn (places_at rows) place
is_new table rows place n e number f =
    counted_none (length (places_at rows)) (slice_get table place) number e (n.known.found number place f)
    (within (places_at rows) number (pos place) f)

pub number_below : (rows : List ℤ) (table : List ℕ) (place number : ℕ) → counted (length (places_at rows)) (slice_get table place)
    ≡ Some number
    → number < length (places_at rows)
number_below rows table place number e = (counted_some (length (places_at rows)) number (slice_get table place) e).1

-- the number at a place that a list has
pub number_there : (xs : List ℤ) (i : ℕ) (x : ℤ) → i < length xs → x ≡ get_or xs i x → x ≡ number_at xs i
number_there xs i x h e = e ∙ get_or_default xs i x (pos 0) h ∙ sym (unwrap_or-slice_get xs i (pos 0))

-- ---- a place more, step by step

-- other values, or none behind the last place
same_places : (table : List ℕ) (rows after : List ℤ) → IsNumbered table rows → places_at after ≡ places_at rows → IsNumbered table after
same_places table rows after n same = record {
  known = subst (IsTable table) (sym same) n.known;
  few = subst (λ (places : List ℤ). length places ≤ no_number) (sym same) n.few;
}

pub changed_numbered : (table : List ℕ) (rows after : List ℤ) (number : ℕ) (value : ℤ) → IsNumbered table rows
    → after ≡ set rows (2 * number + 1) value → IsNumbered table after
changed_numbered table rows after number value n e =
    same_places table rows after n (ap places_at e ∙ places_kept rows number (2 * number + 1) value refl)

pub grown_numbered : (table grown : List ℕ) (rows : List ℤ) → IsNumbered table rows → IsGrown table grown → IsNumbered grown rows
grown_numbered table grown rows n g = record { known = grown_table table grown (places_at rows) n.known g; few = n.few }

module _ (rows : List ℤ) (half : ℕ) (h : half ≡ length rows / 2) where
  whole_rows : IsWholeOf rows (take (2 * half) rows)
  whole_rows = let count : half ≡ length (places_at rows) = places_half rows half h in whole_by rows (2 * half) (omega (arith, count))

  pub taken_numbered : (table : List ℕ) (after : List ℤ) → IsNumbered table rows → after ≡ take (2 * half) rows → IsNumbered table after
  taken_numbered table after n e = same_places table rows after n (ap places_at e ∙ whole_rows.places_are_those)

  -- the place stands and its value found no room
  pub odd_numbered : (table : List ℕ) (after : List ℤ) (place : ℤ) → IsNumbered table rows → after ≡ take (2 * half) rows ++ place ∷ []
      → IsNumbered table after
  odd_numbered table after place n e =
      same_places table rows after n (ap places_at e ∙ places_odd (take (2 * half) rows) place whole_rows.even
      ∙ whole_rows.places_are_those)

  pub added_numbered : (table : List ℕ) (after : List ℤ) (place : ℕ) (value : ℤ) → IsNumbered table rows → IsNewIn (places_at rows) place
      → place < length table → half < no_number → after ≡ take (2 * half) rows ++ pos place ∷ value ∷ []
      → IsNumbered (set table place half) after
  added_numbered table after place value n new long few e =
      let count : half ≡ length (places_at rows) = places_half rows half h in
      let places : places_at after ≡ places_at rows ++ pos place ∷ [] =
      ap places_at e ∙ places_more (take (2 * half) rows) (pos place) value whole_rows.even
      ∙ ap (λ ps. ps ++ pos place ∷ []) whole_rows.places_are_those in
      let longer : length (places_at after) ≡ length (places_at rows) + 1 = ap length places ∙ length_push (places_at rows) (pos place) in
      record {
        known = subst (λ k. IsTable (set table place k) (places_at after)) (sym count)
            (subst (IsTable (set table place (length (places_at rows)))) (sym places)
            (table_added table (places_at rows) place n.known long new));
        few = omega (arith, longer, count, few);
      }

  pub row_added : (operator : Option Combine) (after : List ℤ) (place : ℕ) (value : ℤ) → IsNewIn (places_at rows) place
      → after ≡ take (2 * half) rows ++ pos place ∷ value ∷ [] → rows_at after ≡ joined_at operator (rows_at rows) (pos place) value
  row_added operator after place value new e =
      ap rows_at e
      ∙ added_one operator (take (2 * half) rows) (pos place) value whole_rows.even
      (λ number f. new number (ap (λ ps. slice_get ps number) (sym whole_rows.places_are_those) ∙ f))
      ∙ ap (λ rs. joined_at operator rs (pos place) value) whole_rows.rows_are

-- ---- one row after another

slots_end : (rows : List ℤ) (numbers : List ℤ) → length rows < 2 → fold put_slot numbers (rows_at rows) ≡ numbers
slots_end [] numbers h = refl
slots_end (p ∷ []) numbers h = refl
slots_end (p ∷ v ∷ rows) numbers h = absurd (omega arith)

pub slots_over : (rows : List ℤ) (half : ℕ) (numbers start : List ℤ) → half ≡ length rows / 2
    → fold put_slot numbers (rows_at (drop (2 * half) rows)) ≡ start → numbers ≡ start
slots_over rows half numbers start h invariant =
    let left = length-drop (2 * half) rows in
    sym (slots_end (drop (2 * half) rows) numbers (omega (arith, left, h))) ∙ invariant

pub slots_more : (rows : List ℤ) (at : ℕ) (d e : ℤ) (before after start : List ℤ) → 2 * at + 1 < length rows
    → after ≡ put_slot before (get_or rows (2 * at) d, get_or rows (2 * at + 1) e)
    → fold put_slot before (rows_at (drop (2 * at) rows)) ≡ start
    → fold put_slot after (rows_at (drop (2 * (at + 1)) rows)) ≡ start
slots_more rows at d e before after start h put invariant =
    ap (λ n. fold put_slot n (rows_at (drop (2 * (at + 1)) rows))) put
    ∙ ap (λ l. fold put_slot before (rows_at l)) (sym (two_left rows at d e h))
    ∙ invariant
