-- Lists that have a value for each number from a to a + n.
use Rattle.std.specs.Prelude.{◌≡◌, refl, ℕ, zero, suc, ◌+◌, ◌<◌, ◌≤◌, Bool, true, false, ◌==◌, if◌then◌else◌, ◌∷◌, map, filter, replicate}
use Rattle.std.specs.Prelude.{slice_get, slice_set, Some}
use Rattle.std.specs.List.{range_with_len}
use Rattle.std.proofs.Common.{ap, sym, ◌∙◌, arith}
use Rattle.std.proofs.lemmas.Bool.Decides.{nat_tests}
use Rattle.chaos_dist.specs.Counting.{below}

pub same_map : {B : Type 0} (f g : ℕ → B) (a n : ℕ) → ((d : ℕ) → a ≤ d → d < a + n → f d ≡ g d)
    → map f (range_with_len a n) ≡ map g (range_with_len a n)
same_map f g a zero same = refl
same_map f g a (suc n) same =
    let first : f a ≡ g a = same a (omega arith) (omega arith) in
    let rest = same_map f g (a + 1) n (λ d low high. same d (omega (arith, low)) (omega (arith, high))) in
    cc

pub same_map_filter : {B : Type 0} (p : ℕ → Bool) (f g : ℕ → B) (a n : ℕ) → ((d : ℕ) → a ≤ d → d < a + n → f d ≡ g d)
    → map f (filter p (range_with_len a n)) ≡ map g (filter p (range_with_len a n))
same_map_filter p f g a zero same = refl
same_map_filter p f g a (suc n) same =
    by (p a) (same a (omega arith) (omega arith))
    (same_map_filter p f g (a + 1) n (λ d low high. same d (omega (arith, low)) (omega (arith, high))))
  where
    by : (b : Bool) → f a ≡ g a → map f (filter p (range_with_len (a + 1) n)) ≡ map g (filter p (range_with_len (a + 1) n))
        → map f (if b then a ∷ filter p (range_with_len (a + 1) n) else filter p (range_with_len (a + 1) n))
        ≡ map g (if b then a ∷ filter p (range_with_len (a + 1) n) else filter p (range_with_len (a + 1) n))
    by true first rest = cc
    by false first rest = rest

pub same_filter : (p q : ℕ → Bool) (a n : ℕ) → ((d : ℕ) → a ≤ d → d < a + n → p d ≡ q d)
    → filter p (range_with_len a n) ≡ filter q (range_with_len a n)
same_filter p q a zero same = refl
same_filter p q a (suc n) same =
    let first : p a ≡ q a = same a (omega arith) (omega arith) in
    let rest = same_filter p q (a + 1) n (λ d low high. same d (omega (arith, low)) (omega (arith, high))) in
    ap (λ b. if b then a ∷ filter p (range_with_len (a + 1) n) else filter p (range_with_len (a + 1) n)) first
    ∙ ap (λ l. if q a then a ∷ l else l) rest

pub get_map : {B : Type 0} (f : ℕ → B) (a n k : ℕ) → k < n → slice_get (map f (range_with_len a n)) k ≡ Some (f (a + k))
get_map f a zero k less = absurd (omega (arith, less))
get_map f a (suc n) zero less = let at : a ≡ a + zero = omega arith in ap (λ d. Some (f d)) at
get_map f a (suc n) (suc k) less =
    let at : a + 1 + k ≡ a + suc k = omega arith in
    get_map f (a + 1) n k (omega (arith, less)) ∙ ap (λ d. Some (f d)) at

is_equal : (k : ℕ) (d : ℕ) → k ≡ d → (k == d) ≡ true
is_equal k d e = grind (arith, nat_tests)

is_less : (k : ℕ) (d : ℕ) → k < d → (k == d) ≡ false
is_less k d e = grind (arith, nat_tests)

is_more : (k : ℕ) (d : ℕ) → d < k → (k == d) ≡ false
is_more k d e = grind (arith, nat_tests)

pub set_map : {B : Type 0} (f : ℕ → B) (v : B) (a n k : ℕ)
    → slice_set (map f (range_with_len a n)) k v ≡ map (λ d. if a + k == d then v else f d) (range_with_len a n)
set_map f v a zero k = refl
set_map f v a (suc n) zero =
    let first : (a + zero == a) ≡ true = is_equal (a + zero) a (omega arith) in
    let rest = same_map f (λ d. if a + zero == d then v else f d) (a + 1) n (λ d low high.
    ap (λ b. if b then v else f d) (sym (is_less (a + zero) d (omega (arith, low))))) in
    ap (λ b. (if b then v else f a) ∷ map f (range_with_len (a + 1) n)) (sym first)
    ∙ ap (λ l. (if a + zero == a then v else f a) ∷ l) rest
set_map f v a (suc n) (suc k) =
    let at : a + 1 + k ≡ a + suc k = omega arith in
    let first : (a + suc k == a) ≡ false = is_more (a + suc k) a (omega arith) in
    let rest = set_map f v (a + 1) n k ∙ ap (λ m. map (λ d. if m == d then v else f d) (range_with_len (a + 1) n)) at in
    ap (λ b. (if b then v else f a) ∷ slice_set (map f (range_with_len (a + 1) n)) k v) (sym first)
    ∙ ap (λ l. (if a + suc k == a then v else f a) ∷ l) rest

pub set_below : {B : Type 0} (f : ℕ → B) (v : B) (n k : ℕ) → slice_set (map f (below n)) k v ≡ map (λ d. if k == d then v else f d)
    (below n)
set_below f v n k =
    let at : 0 + k ≡ k = omega arith in
    set_map f v 0 n k ∙ ap (λ m. map (λ d. if m == d then v else f d) (below n)) at

pub get_below : {B : Type 0} (f : ℕ → B) (n k : ℕ) → k < n → slice_get (map f (below n)) k ≡ Some (f k)
get_below f n k less =
    let at : 0 + k ≡ k = omega arith in
    get_map f 0 n k less ∙ ap (λ d. Some (f d)) at

pub replicate_map : {B : Type 0} (v : B) (a n : ℕ) → replicate n v ≡ map (λ d. v) (range_with_len a n)
replicate_map v a zero = refl
replicate_map v a (suc n) = ap (λ l. v ∷ l) (replicate_map v (a + 1) n)
