-- The lists that a move leaves: elements, parts, tables, what is kept of the FORALLs, and records.
use Rattle.std.specs.Prelude.{◌≡◌, ◌≢◌, refl, ℕ, zero, suc, ◌+◌, ◌==◌, ℤ, pos, Bool, true, false, if◌then◌else◌, cond, List, [], ◌∷◌}
use Rattle.std.specs.Prelude.{length, map, filter, drop, slice_get, slice_set, unwrap_or, Option, Some, None}
use Rattle.std.specs.FinMap as fin
use Rattle.std.specs.List.{AllZip, enumerate_from, range_with_len}
use Rattle.std.specs.Option.{option_map}
use Rattle.std.specs.Ordering.{nat_cmp}
use Rattle.std.proofs.Common.{ap, sym, ◌∙◌, arith}
use Rattle.std.proofs.lemmas.Bool.Decides.{nat_tests}
use Rattle.fd_words.specs.Lists.{list_at}
use Rattle.chaos_begin.specs.Begins.{latest_kept}
use Rattle.chaos_dist.specs.Owners.{elements_on}
use Rattle.chaos_hash.specs.Stamps.{Stamps}
use Rattle.plan_tables.specs.Tables.{dropped_in, entry_at, no_table, table_at}
use Rattle.fd_program.specs.Layouts.{Scene, owners_at}
use Rattle.fd_program.specs.Places.{decomposition_of, part_of, parts_of, value_on}
use Rattle.fd_program.specs.Stores.{no_array}
use Rattle.fd_program.specs.declared.array.ArrayFacts.{ArrayFacts}
use Rattle.fd_program.specs.declared.checked.Checked.{Checked}
use Rattle.fd_program.specs.declared.loop_record.LoopRecord.{LoopRecord}
use Rattle.fd_program.specs.declared.trace.Step.{Step}
use Rattle.chaos_holdings.specs.Keeping.{prepared_by, prepared_in}
use Rattle.chaos_holdings.specs.Parts.{parts_with}
use Rattle.plan_run.specs.Held.{elements_held}
use Rattle.plan_run.specs.Phases.{arrays_in}
use Rattle.plan_run.specs.StandLaws.{IsDropped}
use Rattle.plan_run.specs.TableLaws.{is_named_in, left_of_move, without_inspection}
use Rattle.plan_run.specs.declared.kept.Kept.{Kept}
use Rattle.chaos_sched.specs.declared.prepared.Prepared.{Prepared}

-- ---- one of a list is replaced

pub length_set : {A : Type 0} (xs : List A) (k : ℕ) (y : A) → length (slice_set xs k y) ≡ length xs
length_set [] zero y = refl
length_set [] (suc k) y = refl
length_set (x ∷ xs) zero y = refl
length_set (x ∷ xs) (suc k) y = ap suc (length_set xs k y)

get_other : {A : Type 0} (xs : List A) (k j : ℕ) (y : A) → k ≢ j → slice_get (slice_set xs k y) j ≡ slice_get xs j
get_other [] zero j y other = refl
get_other [] (suc k) j y other = refl
get_other (x ∷ xs) zero zero y other = absurd (other refl)
get_other (x ∷ xs) zero (suc j) y other = refl
get_other (x ∷ xs) (suc k) zero y other = refl
get_other (x ∷ xs) (suc k) (suc j) y other = get_other xs k j y (λ e. other (ap suc e))

-- ---- elements

same_lists : (xs ys : List (List ℕ)) → length xs ≡ length ys → ((e : ℕ) → list_at ys e ≡ list_at xs e) → xs ≡ ys
same_lists [] [] size same = refl
same_lists [] (y ∷ ys) size same = absurd (omega (arith, size))
same_lists (x ∷ xs) [] size same = absurd (omega (arith, size))
same_lists (x ∷ xs) (y ∷ ys) size same =
    let first : x ≡ y = sym (same 0) in
    let rest : xs ≡ ys = same_lists xs ys (omega (arith, size)) (λ e. same (suc e)) in
    ap (λ (z : List ℕ). z ∷ xs) first ∙ ap (λ (l : List (List ℕ)). y ∷ l) rest

zero_suc : (k : ℕ) → suc k ≡ 0 → ⊥
zero_suc k e = omega (arith, e)

suc_same : (k e : ℕ) → suc k ≡ suc e → k ≡ e
suc_same k e h = omega (arith, h)

-- where the owners of one decomposition are new
lists_set : (f : List ℕ → List ℤ) (xs ys : List (List ℕ)) (d : ℕ) → length xs ≡ length ys → ((e : ℕ) → d ≢ e → list_at ys e ≡ list_at xs e)
    → slice_set (map f xs) d (f (list_at ys d)) ≡ map f ys
lists_set f [] [] zero size others = refl
lists_set f [] [] (suc d) size others = refl
lists_set f [] (y ∷ ys) d size others = absurd (omega (arith, size))
lists_set f (x ∷ xs) [] d size others = absurd (omega (arith, size))
lists_set f (x ∷ xs) (y ∷ ys) zero size others =
    ap (λ (l : List (List ℕ)). f y ∷ map f l) (same_lists xs ys (omega (arith, size)) (λ e. others (suc e) (λ h. zero_suc e (sym h))))
lists_set f (x ∷ xs) (y ∷ ys) (suc d) size others =
    let first : x ≡ y = sym (others 0 (λ h. zero_suc d h)) in
    ap (λ (z : List ℕ). f z ∷ slice_set (map f xs) d (f (list_at ys d))) first
    ∙ ap (λ (l : List (List ℤ)). f y ∷ l) (lists_set f xs ys d (omega (arith, size))
    (λ e other. others (suc e) (λ h. other (suc_same d e h))))

length_map : {A B : Type 0} (f : A → B) (xs : List A) → length (map f xs) ≡ length xs
length_map f [] = refl
length_map f (x ∷ xs) = ap suc (length_map f xs)

pub elements_moved : (s : Scene) (past after : List Step) (d p : ℕ)
    → ((e : ℕ) → d ≢ e → list_at (owners_at s after) e ≡ list_at (owners_at s past) e)
    → slice_set (elements_held (owners_at s past) p) d (map pos (elements_on (list_at (owners_at s after) d) p))
    ≡ elements_held (owners_at s after) p
elements_moved s past after d p others =
    lists_set (λ o. map pos (elements_on o p)) (owners_at s past) (owners_at s after) d
    (length_map _ (enumerate_from 0 s.checked.layouts) ∙ sym (length_map _ (enumerate_from 0 s.checked.layouts))) others

-- ---- parts

parts_from : (d : ℕ) (f g : ℕ → List ℤ) (q : ℕ → Bool) (arrays : List ArrayFacts) (k : ℕ)
    → ((j : ℕ) (a : ArrayFacts) → slice_get arrays j ≡ Some a → (a.decomposition == d) ≡ q (k + j)) → ((n : ℕ) → q n ≡ false → f n ≡ g n)
    → parts_with arrays d (map f (range_with_len k (length arrays))) (map g (filter q (range_with_len k (length arrays))))
    ≡ map g (range_with_len k (length arrays))
parts_from d f g q [] k here same = refl
parts_from d f g q (a ∷ arrays) k here same =
    let at : k + 0 ≡ k = omega arith in
    by (a.decomposition == d) (q k) (here 0 a refl ∙ ap q at) (λ e. same k e)
    (parts_from d f g q arrays (k + 1) (λ j x e. here (suc j) x e ∙ ap q (next k j)) same)
  where
    next : (k j : ℕ) → k + suc j ≡ k + 1 + j
    next k j = omega arith

    rest : List ℕ
    rest = range_with_len (k + 1) (length arrays)

    by : (b c : Bool) → b ≡ c → (c ≡ false → f k ≡ g k) → parts_with arrays d (map f rest) (map g (filter q rest)) ≡ map g rest
        → (if b then list_at (map g (cond c (k ∷ filter q rest) (filter q rest))) 0 ∷ parts_with arrays d (map f rest)
        (drop 1 (map g (cond c (k ∷ filter q rest) (filter q rest))))
        else f k ∷ parts_with arrays d (map f rest) (map g (cond c (k ∷ filter q rest) (filter q rest))))
        ≡ g k ∷ map g rest
    by true true e same more = ap (λ (l : List (List ℤ)). g k ∷ l) more
    by true false e same more = cc
    by false true e same more = cc
    by false false e same more =
        ap (λ (x : List ℤ). x ∷ parts_with arrays d (map f rest) (map g (filter q rest))) (same refl)
        ∙ ap (λ (l : List (List ℤ)). g k ∷ l) more

not_same : (e d : ℕ) → (e == d) ≡ false → d ≢ e
not_same e d h = grind (arith, nat_tests)

pub parts_moved : (c : Checked) (owners after : List (List ℕ)) (store : List (List ℤ)) (d p : ℕ)
    → ((e : ℕ) → d ≢ e → list_at after e ≡ list_at owners e)
    → parts_with c.arrays d (parts_of c.arrays owners store p) (map (part_of c.arrays after store p) (arrays_in c d))
    ≡ parts_of c.arrays after store p
parts_moved c owners after store d p others =
    parts_from d (part_of c.arrays owners store p) (part_of c.arrays after store p) (λ array. decomposition_of c.arrays array == d)
    c.arrays 0 here
    (λ n e. ap (λ o. map (value_on c.arrays store n) (elements_on o p))
    (sym (others (decomposition_of c.arrays n) (not_same (decomposition_of c.arrays n) d e))))
  where
    here : (j : ℕ) (a : ArrayFacts) → slice_get c.arrays j ≡ Some a → (a.decomposition == d) ≡ (decomposition_of c.arrays (0 + j) == d)
    here j a e =
        let at : 0 + j ≡ j = omega arith in
        ap (λ (o : Option ArrayFacts). (unwrap_or o no_array).decomposition == d) (sym e) ∙ ap (λ n. decomposition_of c.arrays n == d)
        (sym at)

-- ---- tables

abbrev emptied : Stamps → Stamps
emptied t = record { held = fin.empty; peak = t.peak }

none_held : (o : Option Stamps) (e : ℕ) → o ≡ None → fin.get (unwrap_or o no_table).held e ≡ None
none_held o e h = ap (λ (o : Option Stamps). fin.get (unwrap_or o no_table).held e) h ∙ fin.get-empty nat_cmp e

dropped_entry : (tables : List Stamps) (t : Stamps) (d e : ℕ) → entry_at (slice_set tables d (emptied t)) d e ≡ None
dropped_entry [] t zero e = fin.get-empty nat_cmp e
dropped_entry [] t (suc d) e = fin.get-empty nat_cmp e
dropped_entry (x ∷ tables) t zero e = fin.get-empty nat_cmp e
dropped_entry (x ∷ tables) t (suc d) e = dropped_entry tables t d e

pub is_dropped : (tables : List Stamps) (d : ℕ) → IsDropped d tables (dropped_in tables d)
is_dropped tables d = record {
  own = λ e. dropped_entry tables (table_at tables d) d e;
  others = λ other e differ. ap (λ (o : Option Stamps). fin.get (unwrap_or o no_table).held e)
      (get_other tables d other (emptied (table_at tables d)) differ);
}

-- ---- what is kept

abbrev left_from : Checked → ℕ → ℕ → List (Option Kept) → List (Option Kept)
left_from c d a kept = map (λ (k, x). left_of_move c k d x) (enumerate_from a kept)

pub keeps_given_up : (c : Checked) (d : ℕ) (P Q : ℕ → Option Kept → Type 0)
    → ((k : ℕ) (x : Option Kept) → P k x → Q k (left_of_move c k d x)) → (a n : ℕ) (kept : List (Option Kept))
    → AllZip P (range_with_len a n) kept → AllZip Q (range_with_len a n) (left_from c d a kept)
keeps_given_up c d P Q f a zero [] h = tt
keeps_given_up c d P Q f a zero (x ∷ kept) h = absurd h
keeps_given_up c d P Q f a (suc n) [] h = absurd h
keeps_given_up c d P Q f a (suc n) (x ∷ kept) h = (f a x h.0, keeps_given_up c d P Q f (a + 1) n kept h.1)

same_latest : (b : Bool) (x : Option Kept) → latest_kept x ≡ latest_kept (if b then option_map without_inspection x else x)
same_latest true None = refl
same_latest true (Some x) = refl
same_latest false x = refl

pub latest_stay : (c : Checked) (d a : ℕ) (kept : List (Option Kept)) → map latest_kept kept ≡ map latest_kept (left_from c d a kept)
latest_stay c d a [] = refl
latest_stay c d a (x ∷ kept) =
    ap (λ (y : Option LoopRecord). y ∷ map latest_kept kept) (same_latest (is_named_in c a d) x)
    ∙ ap (λ (l : List (Option LoopRecord)). latest_kept (left_of_move c a d x) ∷ l) (latest_stay c d (a + 1) kept)

left_prepared : (b : Bool) (x : Option Kept) (y : Prepared) → prepared_by (if b then option_map without_inspection x else x) ≡ Some y
    → prepared_by x ≡ Some y
left_prepared true None y e = cc
left_prepared true (Some x) y e = cc
left_prepared false x y e = e

pub inspections_stay : (c : Checked) (d a : ℕ) (kept : List (Option Kept)) (k : ℕ) (y : Prepared) → prepared_in (left_from c d a kept) k
    ≡ Some y → prepared_in kept k ≡ Some y
inspections_stay c d a [] k y e = e
inspections_stay c d a (x ∷ kept) zero y e = left_prepared (is_named_in c a d) x y e
inspections_stay c d a (x ∷ kept) (suc k) y e = inspections_stay c d (a + 1) kept k y e
