-- The order of keys is that of coordinate and number, and no two elements have a key in common.
use Rattle.std.specs.Prelude.{◌≡◌, ℕ, zero, suc, ◌+◌, ◌-◌, ◌*◌, ◌^◌, ◌≤◌, ◌<◌, ◌==◌, ◌&&◌, ◌||◌, ℤ, pos, negsuc, ◌+ℤ◌, Bool, true, false}
use Rattle.std.specs.Prelude.{cond, List, filter, count_by, nat_lt, int_lt, unsigned_abs, FitsSigned}
use Rattle.std.specs.Int.{w64}
use Rattle.std.specs.Ordering.{int_eq}
use Rattle.std.proofs.Common.{ap, sym, ◌∙◌, arith, refl, inl, inr}
use Rattle.std.proofs.lemmas.Bool.{cases_lt}
use Rattle.std.proofs.lemmas.Bool.Decides.{nat_tests}
use Rattle.std.proofs.lemmas.Int.{ints}
use Rattle.chaos_dist.specs.Counting.{up_to, count_up_to, kth_up_to, count_by-up_to}
use Rattle.chaos_cut.specs.Bisection.{coordinate, is_before}
use Rattle.list_laws.specs.Counts.{count_by-filter}
use Rattle.chaos_cut.specs.Keys.{key_of, key_in}

-- ---- the order

pairs_order : (s t a b : ℕ) → a < 2 ^ 20 → b < 2 ^ 20 → nat_lt (s * 2 ^ 20 + a) (t * 2 ^ 20 + b) ≡ (nat_lt s t || ((s == t) && nat_lt a b))
pairs_order s t a b la lb = grind (arith, nat_tests, la, lb)

shift_lt : (x y : ℤ) → FitsSigned w64 x → FitsSigned w64 y
    → int_lt x y ≡ nat_lt (unsigned_abs (x +ℤ pos (2 ^ 63))) (unsigned_abs (y +ℤ pos (2 ^ 63)))
shift_lt (pos a) (pos b) h g = grind (arith, nat_tests, h, g)
shift_lt (pos a) (negsuc b) h g = grind (arith, ints, nat_tests, h, g)
shift_lt (negsuc a) (pos b) h g = grind (arith, ints, nat_tests, h, g)
shift_lt (negsuc a) (negsuc b) h g = grind (arith, ints, nat_tests, h, g)

shift_eq : (x y : ℤ) → FitsSigned w64 x → FitsSigned w64 y
    → int_eq x y ≡ (unsigned_abs (x +ℤ pos (2 ^ 63)) == unsigned_abs (y +ℤ pos (2 ^ 63)))
shift_eq (pos a) (pos b) h g = grind (arith, nat_tests, h, g)
shift_eq (pos a) (negsuc b) h g = grind (arith, ints, nat_tests, h, g)
shift_eq (negsuc a) (pos b) h g = grind (arith, ints, nat_tests, h, g)
shift_eq (negsuc a) (negsuc b) h g = grind (arith, ints, nat_tests, h, g)

same_numbers : (a b : ℕ) → 1 ≤ a → 1 ≤ b → nat_lt (a - 1) (b - 1) ≡ nat_lt a b
same_numbers a b one also = grind (arith, nat_tests)

-- one of 2^20 elements
abbrev pub IsElement : ℕ → Type 0
IsElement g = (1 ≤ g) × (g ≤ 2 ^ 20)

-- the order by coordinate, then by number, is the order of keys
abbrev pub OrderIsKeys : Type 0
OrderIsKeys =
    (axis : List ℤ) (g h : ℕ) → FitsSigned w64 (coordinate axis g) → FitsSigned w64 (coordinate axis h) → IsElement g → IsElement h
    → is_before axis g h ≡ nat_lt (key_in axis h) (key_in axis g)

pub order_is_keys : OrderIsKeys
order_is_keys axis g h short also is_g is_h =
    let x = coordinate axis h in
    let y = coordinate axis g in
    let s = unsigned_abs (x +ℤ pos (2 ^ 63)) in
    let t = unsigned_abs (y +ℤ pos (2 ^ 63)) in
    ap (λ b. b || (int_eq x y && nat_lt h g)) (shift_lt x y also short)
    ∙ ap (λ b. nat_lt s t || (b && nat_lt h g)) (shift_eq x y also short)
    ∙ ap (λ b. nat_lt s t || ((s == t) && b)) (sym (same_numbers h g is_h.0 is_g.0))
    ∙ sym (pairs_order s t (h - 1) (g - 1) (omega (arith, is_h.0, is_h.1)) (omega (arith, is_g.0, is_g.1)))

pub key_under : (x : ℤ) (g : ℕ) → FitsSigned w64 x → g ≤ 2 ^ 20 → nat_lt (key_of x g) (2 ^ 84) ≡ true
key_under (pos a) g h within = grind (arith, nat_tests, h, within)
key_under (negsuc a) g h within = grind (arith, ints, nat_tests, h, within)

-- ---- no key stands twice

once_if : (p : ℕ → Bool) (n : ℕ) (b : Bool) → p (suc n) ≡ b
    → ((g h : ℕ) → 1 ≤ g → g ≤ suc n → 1 ≤ h → h ≤ suc n → p g ≡ true → p h ≡ true → g ≡ h)
    → count_up_to p n ≤ 1 → count_up_to p n + cond b 1 0 ≤ 1
once_if p n false e one less = omega (arith, less)
once_if p n true e one less =
    elim (cases_lt 0 (count_up_to p n)) [
      | inl some ↦
          let k = kth_up_to p n 0 some in
          let same : k.0 ≡ suc n = one k.0 (suc n) k.1.from_one (omega (arith, k.1.within)) (omega arith) (omega arith) k.1.passes e in
          absurd (omega (arith, same, k.1.within))
      | inr none ↦ omega (arith, none)
    ]

once : (p : ℕ → Bool) (n : ℕ) → ((g h : ℕ) → 1 ≤ g → g ≤ n → 1 ≤ h → h ≤ n → p g ≡ true → p h ≡ true → g ≡ h) → count_up_to p n ≤ 1
once p zero one = omega arith
once p (suc n) one =
    once_if p n (p (suc n)) refl one (once p n (λ g h lg mg lh mh. one g h lg (omega (arith, mg)) lh (omega (arith, mh))))

key_tells : (s t g h v : ℕ) → 1 ≤ g → g ≤ 2 ^ 20 → 1 ≤ h → h ≤ 2 ^ 20 → s * 2 ^ 20 + (g - 1) ≡ v → t * 2 ^ 20 + (h - 1) ≡ v → g ≡ h
key_tells s t g h v a b c d e f = omega (arith, a, b, c, d, e, f)

tells : (k : Bool) (a v : ℕ) → (k && (a == v)) ≡ true → a ≡ v
tells true a v e = grind (arith, nat_tests)
tells false a v e = absurd (no e)
  where
    no : false ≡ true → ⊥
    no z = cc

-- of up to 2^20 elements, or some of them, one at most has a key
abbrev pub NoKeyTwice : Type 0
NoKeyTwice =
    (axis : List ℤ) (keep : ℕ → Bool) (count v : ℕ) → count ≤ 2 ^ 20 → count_by (λ g. key_in axis g == v) (filter keep (up_to count)) ≤ 1

pub no_key_twice : NoKeyTwice
no_key_twice axis keep count v few =
    let p = λ (g : ℕ). keep g && (key_in axis g == v) in
    let shifted = λ (g : ℕ). unsigned_abs (coordinate axis g +ℤ pos (2 ^ 63)) in
    let at_most : count_up_to p count ≤ 1 = once p count (λ g h lg mg lh mh e f.
    key_tells (shifted g) (shifted h) g h v lg (omega (arith, mg, few)) lh (omega (arith, mh, few))
    (tells (keep g) (key_in axis g) v e) (tells (keep h) (key_in axis h) v f)) in
    omega (arith, count_by-filter keep (λ g. key_in axis g == v) (up_to count), count_by-up_to p count, at_most)
