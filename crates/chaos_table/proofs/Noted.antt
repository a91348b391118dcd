-- Pairs noted one after another, and what a list of owners is after them.
use Rattle.std.proofs.Common.{◌≡◌, refl, ℕ, zero, suc, ◌+◌, ◌*◌, ◌-◌, ◌/◌, ◌≤◌, ◌<◌, Bool, true, false, cond, List, [], ◌∷◌, ◌++◌, length}
use Rattle.std.proofs.Common.{drop, map, ap, sym, subst, ◌∙◌, arith, get_or}
use Rattle.std.specs.Prelude.{ℤ, pos, negsuc, Option, Some, None, slice_set, replicate, unwrap_or, nat_lt, nat_le, ◌==◌, All}
use Rattle.std.specs.List.{range_with_len, AllByRecursion}
use Rattle.std.proofs.lemmas.Bool.Decides.{nat_tests}
use Rattle.std.proofs.lemmas.List.Elements.{All-from_recursion}
use Rattle.std.proofs.lemmas.List.{drop_more}
use Rattle.chaos_table.specs.Pages.{pairs_in, all_pairs, node_named, is_element, after_pair, last_owner, owner_by}
use Rattle.chaos_table.specs.Noting.{place_named, set_at, noted, noted_all}

pub noted_all-append : (first nodes : ℕ) (ps qs : List (ℤ × ℤ)) (owners : List ℕ) → noted_all first nodes (ps ++ qs) owners
    ≡ noted_all first nodes qs (noted_all first nodes ps owners)
noted_all-append first nodes [] qs owners = refl
noted_all-append first nodes (p ∷ ps) qs owners = noted_all-append first nodes ps qs (noted first nodes p owners)

drop_none : {A : Type 0} (n : ℕ) → drop {A = A} n [] ≡ []
drop_none zero = refl
drop_none (suc n) = refl

-- two numbers on from an even place
pub two_more : (d : ℤ) (list : List ℤ) (i j k m : ℕ) → j ≡ 2 * i → k ≡ 2 * i + 1 → m ≡ 2 * (i + 1) → i < length list / 2
    → pairs_in (drop j list) ≡ (get_or list j d, get_or list k d) ∷ pairs_in (drop m list)
two_more d [] i j k m at next after h = absurd (omega arith)
two_more d (x ∷ []) i j k m at next after h = absurd (omega arith)
two_more d (x ∷ y ∷ rest) zero j k m at next after h =
    let e : j ≡ 0 = omega arith in
    let f : k ≡ 1 = omega arith in
    let g : m ≡ 2 = omega arith in
    rw (e, f, g) refl
two_more d (x ∷ y ∷ rest) (suc i) j k m at next after h =
    let e : j ≡ suc (suc (2 * i)) = omega arith in
    let f : k ≡ suc (suc (2 * i + 1)) = omega arith in
    let g : m ≡ suc (suc (2 * (i + 1))) = omega arith in
    rw (e, f, g) (two_more d rest i (2 * i) (2 * i + 1) (2 * (i + 1)) refl refl refl (less i (length rest) h))
  where
    less : (i n : ℕ) → suc i < suc (suc n) / 2 → i < n / 2
    less i n h = omega arith

-- behind the last two numbers there is no pair
pub none_left : (list : List ℤ) (i j : ℕ) → j ≡ 2 * i → length list / 2 ≤ i → pairs_in (drop j list) ≡ []
none_left [] i j at h = ap pairs_in (drop_none j)
none_left (x ∷ []) i zero at h = refl
none_left (x ∷ []) i (suc j) at h = ap pairs_in (drop_none j)
none_left (x ∷ y ∷ rest) zero j at h = absurd (omega arith)
none_left (x ∷ y ∷ rest) (suc i) j at h =
    let e : j ≡ suc (suc (2 * i)) = omega arith in
    rw e (none_left rest i (2 * i) refl (less i (length rest) h))
  where
    less : (i n : ℕ) → suc (suc n) / 2 ≤ suc i → n / 2 ≤ i
    less i n h = omega arith

pub pair_step : (first nodes : ℕ) (list : List ℤ) (i : ℕ) (owners new all : List ℕ) → i < length list / 2
    → new ≡ noted first nodes (get_or list (2 * i) (pos 0), get_or list (2 * i + 1) (pos 0)) owners
    → noted_all first nodes (pairs_in (drop (2 * i) list)) owners ≡ all → noted_all first nodes (pairs_in (drop (2 * (i + 1)) list)) new
    ≡ all
pair_step first nodes list i owners new all h is before =
    ap (noted_all first nodes (pairs_in (drop (2 * (i + 1)) list))) is
    ∙ ap (λ ps. noted_all first nodes ps owners) (sym (two_more (pos 0) list i (2 * i) (2 * i + 1) (2 * (i + 1)) refl refl refl h))
    ∙ before

pub list_step : (first nodes : ℕ) (lists : List (List ℤ)) (i : ℕ) (item : List ℤ) (owners new all : List ℕ) → i < length lists
    → item ≡ get_or lists i item
    → new ≡ noted_all first nodes (pairs_in item) owners
    → noted_all first nodes (all_pairs (drop i lists)) owners ≡ all → noted_all first nodes (all_pairs (drop (i + 1) lists)) new ≡ all
list_step first nodes lists i item owners new all h at is before =
    ap (noted_all first nodes (all_pairs (drop (i + 1) lists))) is
    ∙ sym (noted_all-append first nodes (pairs_in item) (all_pairs (drop (i + 1) lists)) owners)
    ∙ ap (λ l. noted_all first nodes (all_pairs l) owners) (sym (drop_more lists i item h ∙ ap (λ y. y ∷ drop (i + 1) lists) (sym at)))
    ∙ before

-- ---- the list after each pair, as a function of the element

same_number : (m : ℕ) → (m == m) ≡ true
same_number m = grind (arith, nat_tests)

below_it : (k g : ℕ) → k < g → (k == g) ≡ false
below_it k g h = grind (arith, nat_tests)

above_it : (k g : ℕ) → g < k → (k == g) ≡ false
above_it k g h = grind (arith, nat_tests)

abbrev with_one : (ℕ → ℕ) → ℕ → ℕ → ℕ → ℕ
with_one f k v g = cond (k == g) v (f g)

untouched : (f : ℕ → ℕ) (k v a n : ℕ) → k < a → map (with_one f k v) (range_with_len a n) ≡ map f (range_with_len a n)
untouched f k v a zero below = refl
untouched f k v a (suc n) below =
    let later : k < a + 1 = omega arith in
    ap (λ b. cond b v (f a) ∷ map (with_one f k v) (range_with_len (a + 1) n)) (below_it k a below)
    ∙ ap (λ l. f a ∷ l) (untouched f k v (a + 1) n later)

set_family : (f : ℕ → ℕ) (v a j n : ℕ) → slice_set (map f (range_with_len a n)) j v ≡ map (with_one f (a + j) v) (range_with_len a n)
set_family f v a j zero = refl
set_family f v a zero (suc n) =
    let here : a + 0 ≡ a = omega arith in
    let later : a + 0 < a + 1 = omega arith in
    sym (ap (λ b. cond b v (f a) ∷ map (with_one f (a + 0) v) (range_with_len (a + 1) n)) (ap (λ k. k == a) here ∙ same_number a)
    ∙ ap (λ l. v ∷ l) (untouched f (a + 0) v (a + 1) n later))
set_family f v a (suc j) (suc n) =
    let there : a + suc j ≡ a + 1 + j = omega arith in
    let above : a < a + suc j = omega arith in
    ap (λ l. f a ∷ l) (set_family f v (a + 1) j n)
    ∙ ap (λ k. f a ∷ map (with_one f k v) (range_with_len (a + 1) n)) (sym there)
    ∙ ap (λ b. cond b v (f a) ∷ map (with_one f (a + suc j) v) (range_with_len (a + 1) n)) (sym (above_it (a + suc j) a above))

family-same : (f g : ℕ → ℕ) (a n : ℕ) → ((h : ℕ) → f h ≡ g h) → map f (range_with_len a n) ≡ map g (range_with_len a n)
family-same f g a zero same = refl
family-same f g a (suc n) same =
    ap (λ y. y ∷ map f (range_with_len (a + 1) n)) (same a) ∙ ap (λ l. g a ∷ l) (family-same f g (a + 1) n same)

unchanged : (b : Bool) (v : ℕ) → v ≡ cond b v v
unchanged true v = refl
unchanged false v = refl

set_named : (f : ℕ → ℕ) (first size e v : ℕ) (b : Bool) → nat_le first e ≡ b
    → set_at (cond b (Some (e - first)) None) (Some v) (map f (range_with_len first size)) ≡ map (with_one f e v)
    (range_with_len first size)
set_named f first size e v true on =
    let low : first ≤ e = grind (arith, nat_tests, on) in
    let at : first + (e - first) ≡ e = omega arith in
    set_family f v first (e - first) size ∙ ap (λ k. map (with_one f k v) (range_with_len first size)) at
set_named f first size e v false off =
    let low : e < first = grind (arith, nat_tests, off) in
    sym (untouched f e v first size low)

set_none : (at : Option ℕ) (owners : List ℕ) → set_at at None owners ≡ owners
set_none None owners = refl
set_none (Some at) owners = refl

noted_at : (f : ℕ → ℕ) (first size e : ℕ) (owner : Option ℕ)
    → set_at (place_named first (pos e)) owner (map f (range_with_len first size))
    ≡ map (λ g. cond (e == g) (unwrap_or owner (f g)) (f g)) (range_with_len first size)
noted_at f first size e None =
    set_none (place_named first (pos e)) (map f (range_with_len first size))
    ∙ family-same f (λ g. cond (e == g) (f g) (f g)) first size (λ g. unchanged (e == g) (f g))
noted_at f first size e (Some v) = set_named f first size e v (nat_le first e) refl

noted-family : (f : ℕ → ℕ) (first size nodes : ℕ) (pair : ℤ × ℤ)
    → noted first nodes pair (map f (range_with_len first size)) ≡ map (λ g. after_pair nodes g (f g) pair) (range_with_len first size)
noted-family f first size nodes (pos e, owner) = noted_at f first size e (node_named nodes owner)
noted-family f first size nodes (negsuc e, owner) = refl

pub noted_all-family : (f : ℕ → ℕ) (first size nodes : ℕ) (pairs : List (ℤ × ℤ))
    → noted_all first nodes pairs (map f (range_with_len first size)) ≡ map (λ g. last_owner nodes g (f g) pairs)
    (range_with_len first size)
noted_all-family f first size nodes [] = refl
noted_all-family f first size nodes (p ∷ ps) =
    ap (noted_all first nodes ps) (noted-family f first size nodes p) ∙ noted_all-family (λ g. after_pair nodes g (f g) p) first size
    nodes ps

zeros : (z a n : ℕ) → replicate n z ≡ map (λ g. z) (range_with_len a n)
zeros z a zero = refl
zeros z a (suc n) = ap (λ l. z ∷ l) (zeros z (a + 1) n)

-- from zeros on: the last owner of each element
pub noted-zeros : (first size nodes : ℕ) (pairs : List (ℤ × ℤ)) → noted_all first nodes pairs (replicate size 0)
    ≡ map (owner_by nodes pairs) (range_with_len first size)
noted-zeros first size nodes pairs = ap (noted_all first nodes pairs) (zeros 0 first size)
    ∙ noted_all-family (λ g. 0) first size nodes pairs

-- ---- owners are nodes

named_below : (nodes o before : ℕ) (b : Bool) → nat_lt o nodes ≡ b → before < nodes → unwrap_or (cond b (Some o) None) before < nodes
named_below nodes o before true is low = grind (arith, nat_tests, is)
named_below nodes o before false is low = low

pair_below : (nodes before : ℕ) (owner : ℤ) → before < nodes → unwrap_or (node_named nodes owner) before < nodes
pair_below nodes before (pos o) low = named_below nodes o before (nat_lt o nodes) refl low
pair_below nodes before (negsuc o) low = low

either_below : (b : Bool) (nodes x y : ℕ) → x < nodes → y < nodes → cond b x y < nodes
either_below true nodes x y h k = h
either_below false nodes x y h k = k

pub last_owner-below : (nodes g before : ℕ) (pairs : List (ℤ × ℤ)) → before < nodes → last_owner nodes g before pairs < nodes
last_owner-below nodes g before [] low = low
last_owner-below nodes g before (p ∷ ps) low =
    last_owner-below nodes g (after_pair nodes g before p) ps
    (either_below (is_element p.0 g) nodes (unwrap_or (node_named nodes p.1) before) before (pair_below nodes before p.1 low) low)

all_of : (P : ℕ → Type 0) (f : ℕ → ℕ) (a n : ℕ) → ((g : ℕ) → P (f g)) → AllByRecursion P (map f (range_with_len a n))
all_of P f a zero all = tt
all_of P f a (suc n) all = (all a, all_of P f (a + 1) n all)

pub owners-below : (nodes first size : ℕ) (pairs : List (ℤ × ℤ)) → 1 ≤ nodes
    → All (λ o. o < nodes) (map (owner_by nodes pairs) (range_with_len first size))
owners-below nodes first size pairs some =
    All-from_recursion (λ o. o < nodes) (map (owner_by nodes pairs) (range_with_len first size))
    (all_of (λ o. o < nodes) (owner_by nodes pairs) first size (λ g. last_owner-below nodes g 0 pairs (omega arith)))
