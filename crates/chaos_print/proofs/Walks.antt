-- Lists gone through from the front.
use Rattle.std.specs.Prelude.{◌≡◌, refl, ℕ, zero, suc, ◌+◌, ◌*◌, ◌/◌, ◌≤◌, ◌<◌, min, ℤ, pos, List, [], ◌∷◌, ◌++◌, length, map, drop}
use Rattle.std.specs.Prelude.{slice_set}
use Rattle.std.proofs.Common.{ap, sym, ◌∙◌, arith, get_or}
use Rattle.std.proofs.lemmas.List.{append_assoc, append-nil, drop_all, drop_more, length-drop}
use Rattle.std.proofs.lemmas.Option.{unwrap_or-slice_get}
use Rattle.chaos_letter.specs.declared.letter.Letter.{Letter}
use Rattle.fd_program.specs.Stores.{number_at, place_of}
use Rattle.fd_program.specs.declared.array.ArrayFacts.{ArrayFacts}
use Rattle.chaos_print.specs.Printing.{own_row, rows_owned, filled_by_rows, filled_all}

drop_next : (xs : List ℤ) (k : ℕ) → k < length xs → drop k xs ≡ number_at xs k ∷ drop (k + 1) xs
drop_next xs k h = drop_more xs k (pos 0) h ∙ ap (λ n. n ∷ drop (k + 1) xs) (sym (unwrap_or-slice_get xs k (pos 0)))

-- one row more
pub rows_kept : (a : ArrayFacts) (es vs rows new total : List ℤ) (k : ℕ) (e v : ℤ) → k < length es → k < length vs → e ≡ number_at es k
    → v ≡ number_at vs k
    → rows ++ rows_owned a (drop k es) (drop k vs) ≡ total → new ≡ rows ++ own_row a e v
    → new ++ rows_owned a (drop (k + 1) es) (drop (k + 1) vs) ≡ total
rows_kept a es vs rows new total k e v in_es in_vs e_is v_is before more =
    let rest = rows_owned a (drop (k + 1) es) (drop (k + 1) vs) in
    let here : rows_owned a (drop k es) (drop k vs) ≡ own_row a (number_at es k) (number_at vs k) ++ rest =
    ap (λ l. rows_owned a l (drop k vs)) (drop_next es k in_es) ∙ ap (λ l. rows_owned a (number_at es k ∷ drop (k + 1) es) l)
    (drop_next vs k in_vs) in
    let row : own_row a e v ≡ own_row a (number_at es k) (number_at vs k) = ap (λ z. own_row a z v) e_is
    ∙ ap (λ z. own_row a (number_at es k) z) v_is in
    ap (λ (l : List ℤ). l ++ rest) (more ∙ ap (λ (l : List ℤ). rows ++ l) row)
    ∙ append_assoc rows (own_row a (number_at es k) (number_at vs k)) rest
    ∙ ap (λ (l : List ℤ). rows ++ l) (sym here) ∙ before

rows_nil : (a : ArrayFacts) (es : List ℤ) → rows_owned a es [] ≡ []
rows_nil a [] = refl
rows_nil a (e ∷ es) = refl

rows_over : (a : ArrayFacts) (es vs : List ℤ) (k : ℕ) → min (length es) (length vs) ≤ k → rows_owned a (drop k es) (drop k vs) ≡ []
rows_over a [] vs zero h = refl
rows_over a [] vs (suc k) h = refl
rows_over a (e ∷ es) [] zero h = refl
rows_over a (e ∷ es) [] (suc k) h = rows_nil a (drop k es)
rows_over a (e ∷ es) (v ∷ vs) zero h = absurd (none (length es) (length vs) h)
  where
    none : (m n : ℕ) → min (suc m) (suc n) ≤ 0 → ⊥
    none m n h = omega arith
rows_over a (e ∷ es) (v ∷ vs) (suc k) h = rows_over a es vs k (less (length es) (length vs) k h)
  where
    less : (m n k : ℕ) → min (suc m) (suc n) ≤ suc k → min m n ≤ k
    less m n k h = omega arith

-- no row more
pub rows_ended : (a : ArrayFacts) (es vs rows total : List ℤ) (k : ℕ) → min (length es) (length vs) ≤ k
    → rows ++ rows_owned a (drop k es) (drop k vs) ≡ total → rows ≡ total
rows_ended a es vs rows total k over all =
    sym (append-nil rows) ∙ ap (λ (l : List ℤ). rows ++ l) (sym (rows_over a es vs k over)) ∙ all

-- one row more is put in
pub fill_kept : (values new rows total : List ℤ) (k p : ℕ) (z v : ℤ) → k < length rows / 2 → z ≡ number_at rows (2 * k)
    → v ≡ number_at rows (2 * k + 1) → p ≡ place_of z
    → filled_by_rows values (drop (2 * k) rows) ≡ total → new ≡ slice_set values p v → filled_by_rows new (drop (2 * (k + 1)) rows) ≡ total
fill_kept values new rows total k p z v less z_is v_is p_is before set =
    let first : drop (2 * k) rows ≡ number_at rows (2 * k) ∷ drop (2 * k + 1) rows = drop_next rows (2 * k) (omega (arith, less)) in
    let second : drop (2 * k + 1) rows ≡ number_at rows (2 * k + 1) ∷ drop (2 * k + 1 + 1) rows =
    drop_next rows (2 * k + 1) (omega (arith, less)) in
    let rest = drop (2 * (k + 1)) rows in
    let behind : drop (2 * k + 1 + 1) rows ≡ rest = ap (λ n. drop n rows) (let e : 2 * k + 1 + 1 ≡ 2 * (k + 1) = omega arith in e) in
    let both : drop (2 * k) rows ≡ z ∷ v ∷ rest =
    first ∙ ap (λ (l : List ℤ). number_at rows (2 * k) ∷ l) (second ∙ ap (λ (l : List ℤ). number_at rows (2 * k + 1) ∷ l) behind)
    ∙ ap (λ (x : ℤ). x ∷ number_at rows (2 * k + 1) ∷ rest) (sym z_is) ∙ ap (λ (x : ℤ). z ∷ x ∷ rest) (sym v_is) in
    ap (λ (l : List ℤ). filled_by_rows l rest) (set ∙ ap (λ n. slice_set values n v) p_is) ∙ ap (filled_by_rows values) (sym both) ∙ before

filled_short : (values xs : List ℤ) → length xs < 2 → filled_by_rows values xs ≡ values
filled_short values [] h = refl
filled_short values (z ∷ []) h = refl
filled_short values (z ∷ v ∷ rows) h = absurd (more (length rows) h)
  where
    more : (n : ℕ) → suc (suc n) < 2 → ⊥
    more n h = omega arith

-- all rows are put in
pub fill_ended : (values rows total : List ℤ) (k : ℕ) → length rows / 2 ≤ k → filled_by_rows values (drop (2 * k) rows) ≡ total → values
    ≡ total
fill_ended values rows total k over all =
    sym (filled_short values (drop (2 * k) rows) (omega (arith, over, length-drop (2 * k) rows))) ∙ all

drop_letter : (xs : List Letter) (k : ℕ) (x : Letter) → k < length xs → x ≡ get_or xs k x → drop k xs ≡ x ∷ drop (k + 1) xs
drop_letter xs k x h e = drop_more xs k x h ∙ ap (λ (z : Letter). z ∷ drop (k + 1) xs) (sym e)

abbrev pub numbers_of : List Letter → List (List ℤ)
numbers_of letters = map (λ (x : Letter). x.numbers) letters

-- one letter more
pub letters_kept : (values new numbers total : List ℤ) (letters : List Letter) (k : ℕ) (x : Letter) → k < length letters
    → x ≡ get_or letters k x → numbers ≡ x.numbers
    → filled_all values (numbers_of (drop k letters)) ≡ total → new ≡ filled_by_rows values numbers
    → filled_all new (numbers_of (drop (k + 1) letters)) ≡ total
letters_kept values new numbers total letters k x less here same before fill =
    ap (λ (l : List ℤ). filled_all l (numbers_of (drop (k + 1) letters))) (fill ∙ ap (filled_by_rows values) same)
    ∙ ap (λ l. filled_all values (numbers_of l)) (sym (drop_letter letters k x less here)) ∙ before

pub letters_ended : (values total : List ℤ) (letters : List Letter) (k : ℕ) → length letters ≤ k
    → filled_all values (numbers_of (drop k letters)) ≡ total → values ≡ total
letters_ended values total letters k over all = ap (λ l. filled_all values (numbers_of l)) (sym (drop_all k letters over)) ∙ all
