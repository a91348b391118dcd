-- What the tests of letters and items tell.
use Rattle.std.proofs.Common.{◌≡◌, ◌≢◌, ℕ, zero, suc, ◌+◌, ◌*◌, ◌^◌, ◌<◌, ◌≤◌, ℤ, Bool, true, false, ◌&&◌, ◌==◌, List, [], ◌∷◌, length}
use Rattle.std.proofs.Common.{drop, get_or, refl, ap, sym, ◌∙◌, arith}
use Rattle.std.specs.Prelude.{nat_lt, All}
use Rattle.std.specs.List.{AllByRecursion, list_all}
use Rattle.std.proofs.lemmas.Bool.{eqb-true}
use Rattle.std.proofs.lemmas.Bool.Decides.{Decides-ltb}
use Rattle.std.proofs.lemmas.List.Elements.{All-from_recursion, recursion_from_All}
use Rattle.fd_program.specs.LoopCases.{both_parts}
use Rattle.chaos_sched.specs.declared.item.Item.{Item}
use Rattle.chaos_execute.proofs.Booleans.{both_true, number_true}
use Rattle.chaos_execute.proofs.Zipped.{first_left, same_length}
use Rattle.chaos_execute.specs.Letters.{HasRows}
use Rattle.chaos_execute.specs.Ready.{AreSmall}
use Rattle.chaos_executing.specs.Rows.{are_small, have_rows}

-- ---- a test of each element

each_from : {A : Type 0} (p : A → Bool) (P : A → Type 0) → ((x : A) → p x ≡ true → P x) → (xs : List A) → list_all p xs ≡ true
    → AllByRecursion P xs
each_from p P f [] e = tt
each_from p P f (x ∷ xs) e = let both = both_parts (p x) (list_all p xs) e in (f x both.0, each_from p P f xs both.1)

into_each : {A : Type 0} (p : A → Bool) (P : A → Type 0) → ((x : A) → P x → p x ≡ true) → (xs : List A) → AllByRecursion P xs
    → list_all p xs ≡ true
into_each p P f [] h = refl
into_each p P f (x ∷ xs) h = both_true (p x) (list_all p xs) (f x h.0) (into_each p P f xs h.1)

abbrev Small : Item → Type 0
Small i = i.element < 2 ^ 63

abbrev is_small : Item → Bool
is_small i = nat_lt i.element (2 ^ 63)

small_item : (i : Item) → is_small i ≡ true → Small i
small_item i e = (Decides-ltb i.element (2 ^ 63)).0 e

item_small : (i : Item) → Small i → is_small i ≡ true
item_small i h = (Decides-ltb i.element (2 ^ 63)).1 h

pub small_tells : (lists : List (List Item)) → are_small lists ≡ true → AreSmall lists
small_tells lists e =
    All-from_recursion (All Small) lists
    (each_from (list_all is_small) (All Small) (λ items f. All-from_recursion Small items (each_from is_small Small small_item items f))
    lists e)

pub tells_small : (lists : List (List Item)) → AreSmall lists → are_small lists ≡ true
tells_small lists h =
    into_each (list_all is_small) (All Small) (λ items g. into_each is_small Small item_small items (recursion_from_All Small items g))
    lists (recursion_from_All (All Small) lists h)

-- ---- rows

pub rows_tell : (taken : List (List ℤ)) (lists : List (List Item)) → have_rows taken lists ≡ true → HasRows taken lists
rows_tell [] [] e = tt
rows_tell [] (items ∷ lists) e = absurd (let no : ⊥ = cc in no)
rows_tell (rows ∷ taken) [] e = absurd (let no : ⊥ = cc in no)
rows_tell (rows ∷ taken) (items ∷ lists) e =
    let both = both_parts (length rows == 3 * length items) (have_rows taken lists) e in
    (eqb-true (length rows) (3 * length items) both.0, rows_tell taken lists both.1)

pub tell_rows : (taken : List (List ℤ)) (lists : List (List Item)) → HasRows taken lists → have_rows taken lists ≡ true
tell_rows [] [] h = refl
tell_rows [] (items ∷ lists) h = absurd h
tell_rows (rows ∷ taken) [] h = absurd h
tell_rows (rows ∷ taken) (items ∷ lists) h =
    both_true (length rows == 3 * length items) (have_rows taken lists) (number_true (length rows) (3 * length items) h.0)
    (tell_rows taken lists h.1)

-- the test goes on behind the first
pub rows_step : (taken : List (List ℤ)) (lists : List (List Item)) (at : ℕ) (d : List ℤ) (e : List Item) → at < length taken
    → at < length lists
    → have_rows (drop at taken) (drop at lists) ≡ ((length (get_or taken at d) == 3 * length (get_or lists at e))
    && have_rows (drop (at + 1) taken) (drop (at + 1) lists))
rows_step taken lists at d e h g =
    ap (λ l. have_rows l (drop at lists)) (first_left taken at d h) ∙ ap (λ l. have_rows (get_or taken at d ∷ drop (at + 1) taken) l)
    (first_left lists at e g)

pub rows_are_many : (taken : List (List ℤ)) (lists : List (List Item)) → have_rows taken lists ≡ true → length taken ≡ length lists
rows_are_many taken lists e = sym (same_length taken lists (rows_tell taken lists e))

is_false : (b : Bool) → (b ≡ true → ⊥) → b ≡ false
is_false true h = absurd (h refl)
is_false false h = refl

pub rows_differ : (taken : List (List ℤ)) (lists : List (List Item)) → length taken ≢ length lists → have_rows taken lists ≡ false
rows_differ taken lists h = is_false (have_rows taken lists) (λ e. h (rows_are_many taken lists e))

pub rows_end : (taken : List (List ℤ)) (lists : List (List Item)) (at : ℕ) → length taken ≤ at → length lists ≤ at
    → have_rows (drop at taken) (drop at lists) ≡ true
rows_end taken lists at h g = ap (λ l. have_rows l (drop at lists)) (none_left taken at h) ∙ ap (have_rows []) (none_left lists at g)
  where
    none_left : {A : Type 0} (xs : List A) (at : ℕ) → length xs ≤ at → drop at xs ≡ []
    none_left [] zero h = refl
    none_left [] (suc at) h = refl
    none_left (x ∷ xs) zero h = absurd (omega arith)
    none_left (x ∷ xs) (suc at) h = none_left xs at (omega arith)
