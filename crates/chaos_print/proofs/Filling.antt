-- The rows of all nodes, put at their places, are the whole array.
use Rattle.std.specs.Prelude.{◌≡◌, ◌≢◌, refl, ℕ, zero, suc, ◌+◌, ◌-◌, ◌≤◌, ◌<◌, ℤ, pos, Bool, true, false, ◌==◌, if◌then◌else◌, List, []}
use Rattle.std.specs.Prelude.{◌∷◌, length, map, filter, flat_map, slice_set}
use Rattle.std.specs.List.{range_with_len}
use Rattle.std.proofs.Common.{ap, sym, ◌∙◌, subst, arith, get_or, inl, inr}
use Rattle.std.proofs.lemmas.Bool.{cases_eq}
use Rattle.std.proofs.lemmas.Bool.Decides.{nat_tests}
use Rattle.fd_words.specs.Lists.{list_at}
use Rattle.chaos_dist.specs.Counting.{below}
use Rattle.fd_program.specs.Places.{owner_for}
use Rattle.fd_program.specs.Stores.{array_at, element, number_at}
use Rattle.fd_program.specs.declared.checked.Checked.{Checked}
use Rattle.plan_run.specs.Phases.{is_sent, print_rows}
use Rattle.plan_run.specs.Picks.{pick_with}
use Rattle.plan_run.specs.declared.stage.Stage.{Stage}
use Rattle.plan_run.specs.declared.stage.Stage.TheVariants as stage
use Rattle.chaos_print.specs.InRun.{IsPrintStage}
use Rattle.chaos_print.specs.Printing.{filled_by_rows, filled_all}

abbrev pub row : (ℕ → ℤ) → ℕ → List ℤ
row x g = pos g ∷ x g ∷ []

abbrev pub rows_where : (ℕ → ℤ) → (ℕ → Bool) → ℕ → ℕ → List ℤ
rows_where x P low k = flat_map (row x) (filter P (range_with_len low k))

len_set : (xs : List ℤ) (i : ℕ) (v : ℤ) → length (slice_set xs i v) ≡ length xs
len_set [] i v = refl
len_set (x ∷ xs) zero v = refl
len_set (x ∷ xs) (suc i) v = ap suc (len_set xs i v)

set_same : (xs : List ℤ) (i : ℕ) (v : ℤ) → i < length xs → get_or (slice_set xs i v) i (pos 0) ≡ v
set_same [] i v l = absurd (omega arith)
set_same (x ∷ xs) zero v l = refl
set_same (x ∷ xs) (suc i) v l = set_same xs i v (less i (length xs) l)
  where
    less : (i n : ℕ) → suc i < suc n → i < n
    less i n h = omega arith

set_other : (xs : List ℤ) (i j : ℕ) (v : ℤ) → i ≢ j → get_or (slice_set xs i v) j (pos 0) ≡ get_or xs j (pos 0)
set_other [] i j v n = refl
set_other (x ∷ xs) zero zero v n = absurd (n refl)
set_other (x ∷ xs) zero (suc j) v n = refl
set_other (x ∷ xs) (suc i) zero v n = refl
set_other (x ∷ xs) (suc i) (suc j) v n = set_other xs i j v (λ z. n (ap suc z))

filled_len : (x : ℕ → ℤ) (P : ℕ → Bool) (low k : ℕ) (vs : List ℤ) → length (filled_by_rows vs (rows_where x P low k)) ≡ length vs
filled_len x P low zero vs = refl
filled_len x P low (suc k) vs =
    pick_with (λ gs. length (filled_by_rows vs (flat_map (row x) gs)) ≡ length vs) (P low) (low ∷ filter P (range_with_len (low + 1) k))
    (filter P (range_with_len (low + 1) k))
    (λ e. filled_len x P (low + 1) k (slice_set vs (low - 1) (x low)) ∙ len_set vs (low - 1) (x low))
    (λ e. filled_len x P (low + 1) k vs)

-- what is right stays right
filled_keeps : (x : ℕ → ℤ) (P : ℕ → Bool) (low k i : ℕ) (vs : List ℤ) → 0 < low → i < length vs → get_or vs i (pos 0) ≡ x (i + 1)
    → get_or (filled_by_rows vs (rows_where x P low k)) i (pos 0) ≡ x (i + 1)
filled_keeps x P low zero i vs l m e = e
filled_keeps x P low (suc k) i vs l m e =
    pick_with (λ gs. get_or (filled_by_rows vs (flat_map (row x) gs)) i (pos 0) ≡ x (i + 1))
    (P low) (low ∷ filter P (range_with_len (low + 1) k))
    (filter P (range_with_len (low + 1) k))
    (λ t. filled_keeps x P (low + 1) k i (slice_set vs (low - 1) (x low)) (omega arith) (omega (arith, len_set vs (low - 1) (x low)))
    (elim (cases_eq (low - 1) i) [
      | inl a ↦ ap (λ (z : ℕ). get_or (slice_set vs (low - 1) (x low)) z (pos 0)) (sym a) ∙ set_same vs (low - 1) (x low) (omega arith)
          ∙ ap x (let z : low ≡ i + 1 = omega arith in z)
      | inr a ↦ set_other vs (low - 1) i (x low) a ∙ e
    ]))
    (λ t. filled_keeps x P (low + 1) k i vs (omega arith) m e)

no_bool : true ≡ false → ⊥
no_bool z = cc

-- what passes is set
filled_sets : (x : ℕ → ℤ) (P : ℕ → Bool) (low k i : ℕ) (vs : List ℤ) → 0 < low → i < length vs → low ≤ i + 1 → i + 1 < low + k
    → P (i + 1) ≡ true → get_or (filled_by_rows vs (rows_where x P low k)) i (pos 0) ≡ x (i + 1)
filled_sets x P low zero i vs l m a b e = absurd (omega arith)
filled_sets x P low (suc k) i vs l m a b e =
    pick_with (λ gs. get_or (filled_by_rows vs (flat_map (row x) gs)) i (pos 0) ≡ x (i + 1))
    (P low) (low ∷ filter P (range_with_len (low + 1) k))
    (filter P (range_with_len (low + 1) k))
    (λ t. elim (cases_eq low (i + 1)) [
      | inl h ↦ filled_keeps x P (low + 1) k i (slice_set vs (low - 1) (x low)) (omega arith) (omega (arith, len_set vs (low - 1) (x low)))
          (ap (λ (z : ℕ). get_or (slice_set vs (low - 1) (x low)) z (pos 0)) (let z : i ≡ low - 1 = omega arith in z)
          ∙ set_same vs (low - 1) (x low) (omega arith) ∙ ap x h)
      | inr h ↦ filled_sets x P (low + 1) k i (slice_set vs (low - 1) (x low)) (omega arith) (omega (arith, len_set vs (low - 1) (x low)))
          (omega (arith, h)) (omega arith) e
    ])
    (λ f. elim (cases_eq low (i + 1)) [
      | inl h ↦ absurd (no_bool (sym e ∙ ap P (sym h) ∙ f))
      | inr h ↦ filled_sets x P (low + 1) k i vs (omega arith) m (omega (arith, h)) (omega arith) e
    ])

abbrev pub rows_on : (ℕ → ℤ) → (ℕ → ℕ) → ℕ → ℕ → List ℤ
rows_on x owner n q = rows_where x (λ g. owner g == q) 1 n

all_len : (x : ℕ → ℤ) (owner : ℕ → ℕ) (n : ℕ) (qs : List ℕ) (vs : List ℤ) → length (filled_all vs (map (rows_on x owner n) qs)) ≡ length vs
all_len x owner n [] vs = refl
all_len x owner n (q ∷ qs) vs = all_len x owner n qs (filled_by_rows vs (rows_on x owner n q)) ∙ filled_len x (λ g. owner g == q) 1 n vs

all_keeps : (x : ℕ → ℤ) (owner : ℕ → ℕ) (n : ℕ) (qs : List ℕ) (i : ℕ) (vs : List ℤ) → i < length vs → get_or vs i (pos 0) ≡ x (i + 1)
    → get_or (filled_all vs (map (rows_on x owner n) qs)) i (pos 0) ≡ x (i + 1)
all_keeps x owner n [] i vs l e = e
all_keeps x owner n (q ∷ qs) i vs l e =
    all_keeps x owner n qs i (filled_by_rows vs (rows_on x owner n q)) (omega (arith, l, filled_len x (λ g. owner g == q) 1 n vs))
    (filled_keeps x (λ g. owner g == q) 1 n i vs (omega arith) l e)

is_eq : (a b : ℕ) → a ≡ b → (a == b) ≡ true
is_eq a b e = grind (arith, nat_tests)

-- where the owner is among them, its element is set
all_sets : (x : ℕ → ℤ) (owner : ℕ → ℕ) (n low k i : ℕ) (vs : List ℤ) → length vs ≡ n → i < n → low ≤ owner (i + 1) → owner (i + 1) < low + k
    → get_or (filled_all vs (map (rows_on x owner n) (range_with_len low k))) i (pos 0) ≡ x (i + 1)
all_sets x owner n low zero i vs l m a b = absurd (omega arith)
all_sets x owner n low (suc k) i vs l m a b = elim (cases_eq (owner (i + 1)) low) [
  | inl e ↦ all_keeps x owner n (range_with_len (low + 1) k) i (filled_by_rows vs (rows_on x owner n low))
      (omega (arith, l, m, filled_len x (λ g. owner g == low) 1 n vs))
      (filled_sets x (λ g. owner g == low) 1 n i vs (omega arith) (omega arith) (omega arith) (omega arith) (is_eq (owner (i + 1)) low e))
  | inr e ↦ all_sets x owner n (low + 1) k i (filled_by_rows vs (rows_on x owner n low)) (filled_len x (λ g. owner g == low) 1 n vs ∙ l) m
      (omega (arith, e)) (omega arith)
]

list_same : (xs ys : List ℤ) → length xs ≡ length ys → ((i : ℕ) → i < length xs → get_or xs i (pos 0) ≡ get_or ys i (pos 0)) → xs ≡ ys
list_same [] [] l h = refl
list_same [] (y ∷ ys) l h = absurd (omega (arith, l))
list_same (x ∷ xs) [] l h = absurd (omega (arith, l))
list_same (x ∷ xs) (y ∷ ys) l h =
    ap (λ (z : ℤ). z ∷ xs) (h 0 (omega arith))
    ∙ ap (λ (z : List ℤ). y ∷ z) (list_same xs ys (let z : length xs ≡ length ys = omega (arith, l) in z)
    (λ i m. h (suc i) (omega arith)))

-- all nodes' rows make up the list
filled_whole : (x : ℕ → ℤ) (owner : ℕ → ℕ) (nodes : ℕ) (list vs : List ℤ) → length vs ≡ length list → ((g : ℕ) → owner g < nodes)
    → ((i : ℕ) → x (i + 1) ≡ get_or list i (pos 0))
    → filled_all vs (map (rows_on x owner (length list)) (range_with_len 0 nodes)) ≡ list
filled_whole x owner nodes list vs l o e =
    list_same _ list (all_len x owner (length list) (range_with_len 0 nodes) vs ∙ l)
    (λ i m. all_sets x owner (length list) 0 nodes i vs l (omega (arith, all_len x owner (length list) (range_with_len 0 nodes) vs, l))
    (omega arith) (let z : owner (i + 1) < 0 + nodes = omega (arith, o (i + 1)) in z) ∙ e i)

-- ---- a printed array

abbrev pub value_at : List (List ℤ) → ℕ → ℕ → ℤ
value_at store a g = element store a (pos g)

abbrev pub owner_at : Checked → List (List ℕ) → ℕ → ℕ → ℕ
owner_at c owners a g = owner_for c.arrays owners a (pos g)

number_is : (xs : List ℤ) (i : ℕ) → number_at xs i ≡ get_or xs i (pos 0)
number_is [] i = refl
number_is (x ∷ xs) zero = refl
number_is (x ∷ xs) (suc i) = number_is xs i

less_one : (i : ℕ) → i + 1 - 1 ≡ i
less_one i = omega arith

-- all nodes' rows, in the order of the nodes, make up the array
pub collected : (c : Checked) (owners : List (List ℕ)) (store : List (List ℤ)) (a nodes : ℕ) (vs : List ℤ)
    → length (list_at store a) ≡ (array_at c.arrays a).extent → length vs ≡ (array_at c.arrays a).extent
    → ((g : ℕ) → owner_at c owners a g < nodes)
    → filled_all vs (map (print_rows c owners store a) (below nodes)) ≡ list_at store a
collected c owners store a nodes vs l m o =
    subst (λ (n : ℕ). filled_all vs (map (rows_on (value_at store a) (owner_at c owners a) n) (below nodes)) ≡ list_at store a) l
    (filled_whole (value_at store a) (owner_at c owners a) nodes (list_at store a) vs (m ∙ sym l) o
    (λ i. ap (number_at (list_at store a)) (less_one i) ∙ number_is (list_at store a) i))

-- node 0 takes from all others
passes : (P : ℕ → Bool) (low k : ℕ) → ((q : ℕ) → low ≤ q → P q ≡ true) → filter P (range_with_len low k) ≡ range_with_len low k
passes P low zero h = refl
passes P low (suc k) h =
    ap (λ (b : Bool). if b then low ∷ filter P (range_with_len (low + 1) k) else filter P (range_with_len (low + 1) k))
    (h low (omega arith))
    ∙ ap (λ (z : List ℕ). low ∷ z) (passes P (low + 1) k (λ q l. h q (omega arith)))

sent_from : (st : Stage) → IsPrintStage st → (q : ℕ) → 1 ≤ q → is_sent st q 0 ≡ true
sent_from stage.Print h q l = grind (arith, nat_tests)
sent_from (stage.Output j) h q l = grind (arith, nat_tests)
sent_from _ h q l = absurd h

sent_self : (st : Stage) → IsPrintStage st → is_sent st 0 0 ≡ false
sent_self stage.Print h = refl
sent_self (stage.Output j) h = refl
sent_self _ h = absurd h

takers_by : (P : ℕ → Bool) (n : ℕ) → 0 < n → P 0 ≡ false → ((q : ℕ) → 1 ≤ q → P q ≡ true) → 0 ∷ filter P (below n) ≡ below n
takers_by P zero some self h = absurd (omega arith)
takers_by P (suc k) some self h =
    ap (λ (b : Bool). 0 ∷ (if b then 0 ∷ filter P (range_with_len 1 k) else filter P (range_with_len 1 k))) self
    ∙ ap (λ (z : List ℕ). 0 ∷ z) (passes P 1 k h)

pub takers : (st : Stage) (n : ℕ) → IsPrintStage st → 0 < n → 0 ∷ filter (λ q. is_sent st q 0) (below n) ≡ below n
takers st n h some = takers_by (λ q. is_sent st q 0) n some (sent_self st h) (sent_from st h)
