-- The answers to the asks, joined.
use Rattle.std.proofs.Common.{◌≡◌, refl, ℕ, zero, suc, ◌+◌, ◌*◌, ◌-◌, ◌≤◌, ◌<◌, Bool, true, false, ◌==◌, cond, List, [], ◌∷◌, ◌++◌, length}
use Rattle.std.proofs.Common.{take, map, filter, count_by, get_or, ap, sym, subst, ◌∙◌, arith, add-zero}
use Rattle.std.specs.Prelude.{ℤ, pos, Option, Some, None, All, slice_get, unwrap_or, sum_by, nat_lt, flat_map}
use Rattle.std.specs.List.{range_with_len}
use Rattle.std.specs.Int.{w64, cast_signed}
use Rattle.std.proofs.lemmas.Bool.Decides.{nat_tests}
use Rattle.std.proofs.lemmas.Int.{to_z_pos}
use Rattle.std.proofs.lemmas.Option.{slice_get-get_or}
use Rattle.std.proofs.lemmas.List.{ext_get_or, get_or-map, length-map}
use Rattle.std.proofs.lemmas.List.FromFn.{get_or-map-range_with_len, length-map-range_with_len}
use Rattle.std.proofs.lemmas.List.Sums.{sum_by-cons}
use Rattle.fd_words.specs.Lists.{list_at}
use Rattle.fd_words.specs.declared.place.Place.{Place}
use Rattle.chaos_dist.specs.Counting.{below}
use Rattle.chaos_dist.specs.OwnersLaws.{get_range}
use Rattle.chaos_table.specs.declared.pages.Pages.{Pages}
use Rattle.chaos_deref.specs.Asking.{page_for, asks_for, nowhere, place_looked_up, numbers_of, answers_to, owner_read, local_read}
use Rattle.chaos_deref.specs.Asking.{place_read}
use Rattle.chaos_deref.specs.Asking.{joined_at, joined}
use Rattle.chaos_deref.specs.Laws.{IsSent, all_answers}

-- the list at a page of a family of lists
list_family : {B : Type 0} (f : ℕ → List B) (n p : ℕ) → p < n → list_at (map f (below n)) p ≡ f p
list_family f n p low =
    let at : 0 + p ≡ p = omega arith in
    ap (λ o. unwrap_or o []) (get_range f 0 p n low) ∙ ap f at

-- ---- an item stands among those that pass behind those before it

not_there : {P : Type 0} (v : ℤ) → None ≡ Some v → P
not_there v e = cc

same_item : (x v : ℤ) → Some x ≡ Some v → x ≡ v
same_item x v e = ap (λ o. unwrap_or o x) e

ranked : (t : ℤ → Bool) (xs : List ℤ) (i : ℕ) (v : ℤ) → slice_get xs i ≡ Some v → t v ≡ true
    → slice_get (filter t xs) (count_by t (take i xs)) ≡ Some v
ranked t [] i v at passes = not_there v at
ranked t (x ∷ xs) zero v at passes =
    let test : t x ≡ true = ap t (same_item x v at) ∙ passes in
    ap (λ b. slice_get (cond b (x ∷ filter t xs) (filter t xs)) 0) test ∙ at
ranked t (x ∷ xs) (suc i) v at passes =
    ap (slice_get (filter t (x ∷ xs))) (sum_by-cons (λ y. cond (t y) 1 0) x (take i xs))
    ∙ by (t x) (ranked t xs i v at passes)
  where
    one : (n : ℕ) → 1 + n ≡ suc n
    one n = omega arith

    none : (n : ℕ) → 0 + n ≡ n
    none n = omega arith

    by : (b : Bool) → slice_get (filter t xs) (count_by t (take i xs)) ≡ Some v
        → slice_get (cond b (x ∷ filter t xs) (filter t xs)) (cond b 1 0 + count_by t (take i xs)) ≡ Some v
    by true later = ap (slice_get (x ∷ filter t xs)) (one (count_by t (take i xs))) ∙ later
    by false later = ap (slice_get (filter t xs)) (none (count_by t (take i xs))) ∙ later

-- ---- an answer is read as it was given

abbrev read_at : List ℤ → ℕ → ℕ → Place
read_at answers j k = record { owner = owner_read (slice_get answers j); local = local_read (slice_get answers k) }

small_owner : (n : ℕ) → n < 4294967296 → owner_read (Some (pos n)) ≡ n
small_owner n h = let on : nat_lt n 4294967296 ≡ true = grind (arith, nat_tests) in ap (λ b. cond b n 0) on

sent_local : (n : ℕ) → n < 9223372036854775808 → cast_signed w64 n ≡ pos n
sent_local n h = to_z_pos w64 n h

read_first : (place : Place) (rest : List ℤ) → IsSent place → read_at (numbers_of place ++ rest) 0 1 ≡ place
read_first place rest sent =
    let made : ℕ → ℕ → Place = λ o n. record { owner = o; local = n } in
    ap (λ o. made o (local_read (Some (cast_signed w64 place.local)))) (small_owner place.owner sent.0)
    ∙ ap (λ z. made place.owner (local_read (Some z))) (sent_local place.local sent.1)

read_answer : (page : Pages) (xs : List ℤ) (r j k : ℕ) (v : ℤ) → j ≡ 2 * r → k ≡ 2 * r + 1 → slice_get xs r ≡ Some v
    → IsSent (place_looked_up page v)
    → read_at (answers_to page xs) j k ≡ place_looked_up page v
read_answer page [] r j k v first second at sent = not_there v at
read_answer page (x ∷ xs) zero j k v first second at sent =
    let e : j ≡ 0 = omega arith in
    let f : k ≡ 1 = omega arith in
    let same : x ≡ v = same_item x v at in
    ap (λ n. read_at (answers_to page (x ∷ xs)) n k) e ∙ ap (read_at (answers_to page (x ∷ xs)) 0) f
    ∙ ap (λ y. read_at (answers_to page (y ∷ xs)) 0 1) same
    ∙ read_first (place_looked_up page v) (answers_to page xs) sent
read_answer page (x ∷ xs) (suc r) j k v first second at sent =
    let e : j ≡ suc (suc (2 * r)) = omega arith in
    let f : k ≡ suc (suc (2 * r + 1)) = omega arith in
    ap (λ n. read_at (answers_to page (x ∷ xs)) n k) e ∙ ap (read_at (answers_to page (x ∷ xs)) (suc (suc (2 * r)))) f
    ∙ read_answer page xs r (2 * r) (2 * r + 1) v refl refl at sent

-- ---- all of it

same_number : (m : ℕ) → (m == m) ≡ true
same_number m = grind (arith, nat_tests)

pub asking-gives_places : (extent nodes : ℕ) (pages : ℕ → Pages) (wanted : List ℤ) → All (λ v. page_for extent nodes v < nodes) wanted
    → All (λ v. IsSent (place_looked_up (pages (page_for extent nodes v)) v)) wanted
    → joined extent nodes wanted (all_answers extent nodes pages wanted)
    ≡ map (λ v. place_looked_up (pages (page_for extent nodes v)) v) wanted
asking-gives_places extent nodes pages wanted low sent =
    let answers = all_answers extent nodes pages wanted in
    let place = λ (v : ℤ). place_looked_up (pages (page_for extent nodes v)) v in
    let long : length (joined extent nodes wanted answers) ≡ length wanted =
    length-map-range_with_len (joined_at extent nodes wanted answers) 0 (length wanted) in
    let short : length (map place wanted) ≡ length wanted = length-map wanted place in
    ext_get_or nowhere (joined extent nodes wanted answers) (map place wanted) (long ∙ sym short)
    (λ i under.
    let here : i < length wanted = subst (λ k. i < k) long under in
    let at : 0 + i ≡ i = omega arith in
    get_or-map-range_with_len (joined_at extent nodes wanted answers) 0 (length wanted) i i nowhere here at
    ∙ one extent nodes pages wanted i (get_or wanted i (pos 0)) (slice_get-get_or wanted i (pos 0) here) refl (low i (pos 0) here)
    (sent i (pos 0) here)
    ∙ sym (get_or-map place wanted i (pos 0) nowhere here))
  where
    one : (extent nodes : ℕ) (pages : ℕ → Pages) (wanted : List ℤ) (i : ℕ) (v : ℤ) → slice_get wanted i ≡ Some v
        → get_or wanted i (pos 0) ≡ v
        → page_for extent nodes v < nodes → IsSent (place_looked_up (pages (page_for extent nodes v)) v)
        → joined_at extent nodes wanted (all_answers extent nodes pages wanted) i ≡ place_looked_up (pages (page_for extent nodes v)) v
    one extent nodes pages wanted i v at is low sent =
        let p = page_for extent nodes v in
        let test = λ (y : ℤ). page_for extent nodes y == p in
        let rank = count_by test (take i wanted) in
        ap (λ y. place_read (list_at (all_answers extent nodes pages wanted) (page_for extent nodes y))
        (count_by (λ x. page_for extent nodes x == page_for extent nodes y) (take i wanted))) is
        ∙ ap (λ l. place_read l rank) (list_family (λ q. answers_to (pages q) (list_at (asks_for extent nodes wanted) q)) nodes p low)
        ∙ ap (λ l. place_read (answers_to (pages p) l) rank) (list_family (λ q. filter (λ y. page_for extent nodes y == q) wanted) nodes p
        low)
        ∙ read_answer (pages p) (filter test wanted) rank (2 * rank) (2 * rank + 1) v refl refl
        (ranked test wanted i v at (same_number p)) sent
