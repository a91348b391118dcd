-- What is found bit by bit: a number below which fewer than c are, and with it c or more.
use Rattle.std.specs.Prelude.{◌≡◌, ℕ, zero, suc, ◌+◌, ◌-◌, ◌^◌, ◌≤◌, ◌<◌, ◌==◌, true, false, List, length, filter, count_by, nat_lt, nat_le}
use Rattle.std.specs.List.{AllByRecursion}
use Rattle.std.proofs.Common.{ap, sym, ◌∙◌, subst, arith, inl, inr}
use Rattle.std.proofs.lemmas.Bool.{cond_both, ltb-true, ltb-false, cases_lt}
use Rattle.std.proofs.lemmas.Bool.Decides.{nat_tests}
use Rattle.std.proofs.lemmas.List.Sums.{length-filter}
use Rattle.std.proofs.lemmas.Nat.{pow-add}
use Rattle.list_laws.specs.Counts.{count_by-grows, count_by-none, count_by-all, count_by-next, count_by-same}
use Rattle.chaos_cut.specs.Keys.{next_found, found_after}

-- fewer than c are below v, and c or more are below v + 1
pub record IsFound (count : ℕ → ℕ) (c v : ℕ) : Type 0 where
  pub under : count v < c
  pub over : c ≤ count (v + 1)

doubled : (n : ℕ) → 2 ^ (n + 1) ≡ 2 ^ n + 2 ^ n
doubled n = pow-add 2 n 1 ∙ omega arith

between : (f : ℕ → ℕ) (c v power : ℕ) → f v < c → c ≤ f (v + (power + power))
    → (f (next_found f c power v) < c) × (c ≤ f (next_found f c power v + power))
between f c v power low high =
    cond_both (nat_lt (f (v + power)) c) (v + power) v (λ z. (f z < c) × (c ≤ f (z + power)))
    (λ e. (ltb-true _ _ e, subst (λ z. c ≤ f z) (let same : v + (power + power) ≡ v + power + power = omega arith in same) high))
    (λ e. (low, ltb-false _ _ e))

found_between : (f : ℕ → ℕ) (c bits k : ℕ) → k ≤ bits → f 0 < c → c ≤ f (2 ^ bits)
    → (f (found_after f c bits k) < c) × (c ≤ f (found_after f c bits k + 2 ^ (bits - k)))
found_between f c bits zero within low high =
    let all : bits - 0 ≡ bits = omega arith in
    let same : 2 ^ bits ≡ 0 + 2 ^ (bits - 0) = ap (λ k. 2 ^ k) (sym all) ∙ omega arith in
    (low, subst (λ z. c ≤ f z) same high)
found_between f c bits (suc k) within low high =
    let before = found_between f c bits k (omega (arith, within)) low high in
    let one : bits - k ≡ bits - suc k + 1 = omega (arith, within) in
    let power : 2 ^ (bits - k) ≡ 2 ^ (bits - suc k) + 2 ^ (bits - suc k) = ap (λ j. 2 ^ j) one ∙ doubled (bits - suc k) in
    between f c (found_after f c bits k) (2 ^ (bits - suc k)) before.0 (subst (λ z. c ≤ f (found_after f c bits k + z)) power before.1)

pub found_is : (f : ℕ → ℕ) (c bits : ℕ) → f 0 < c → c ≤ f (2 ^ bits) → IsFound f c (found_after f c bits bits)
found_is f c bits low high =
    let at_end = found_between f c bits bits (omega arith) low high in
    let none : bits - bits ≡ 0 = omega arith in
    record {
      under = at_end.0;
      over = subst (λ z. c ≤ f (found_after f c bits bits + z)) (ap (λ j. 2 ^ j) none) at_end.1;
    }

-- where f only grows, it is below c exactly up to the number found
growing_divides : (f : ℕ → ℕ) (c v : ℕ) → ((a b : ℕ) → a ≤ b → f a ≤ f b) → IsFound f c v → (w : ℕ) → nat_lt (f w) c ≡ nat_le w v
growing_divides f c v grows is w =
    elim (cases_lt v w) [
      | inl above ↦
          let more : f (v + 1) ≤ f w = grows (v + 1) w (omega (arith, above)) in
          grind (arith, nat_tests, is.over, more, above)
      | inr under ↦
          let less : f w ≤ f v = grows w v under in
          grind (arith, nat_tests, is.under, less, under)
    ]

-- ---- among keys

below_more : (k a b : ℕ) → a ≤ b → nat_lt k a ≡ true → nat_lt k b ≡ true
below_more k a b h e = grind (arith, nat_tests)

none_below : (k : ℕ) → nat_lt k 0 ≡ false
none_below k = grind (arith, nat_tests)

one_higher : (k v : ℕ) → nat_le k v ≡ nat_lt k (v + 1)
one_higher k v = grind (arith, nat_tests)

-- how many items have a key below v
abbrev pub items_below : {A : Type 0} → (A → ℕ) → List A → ℕ → ℕ
items_below key xs v = count_by (λ x. nat_lt (key x) v) xs

-- the keys of all items have so many bits
abbrev pub HaveBits : {A : Type 0} → (A → ℕ) → ℕ → List A → Type 0
HaveBits key bits xs = AllByRecursion (λ x. nat_lt (key x) (2 ^ bits) ≡ true) xs

module _ {A : Type 0} (key : A → ℕ) (xs : List A) (c : ℕ) where
  grows : (a b : ℕ) → a ≤ b → items_below key xs a ≤ items_below key xs b
  grows a b h = count_by-grows (λ x. nat_lt (key x) a) (λ x. nat_lt (key x) b) xs (λ x e. below_more (key x) a b h e)

  pub key_is_found : (bits : ℕ) → 1 ≤ c → c ≤ length xs → HaveBits key bits xs
      → IsFound (items_below key xs) c (found_after (items_below key xs) c bits bits)
  key_is_found bits some enough short =
      let none : items_below key xs 0 ≡ 0 = count_by-none (λ x. nat_lt (key x) 0) xs (λ x. none_below (key x)) in
      let all : items_below key xs (2 ^ bits) ≡ length xs = count_by-all (λ x. nat_lt (key x) (2 ^ bits)) xs short in
      found_is (items_below key xs) c bits (omega (arith, none, some)) (omega (arith, all, enough))

  pub key_divides : (v : ℕ) → IsFound (items_below key xs) c v → (x : A) → nat_lt (items_below key xs (key x)) c ≡ nat_le (key x) v
  key_divides v is x = growing_divides (items_below key xs) c v grows is (key x)

  pub first_are_c : (v : ℕ) → IsFound (items_below key xs) c v → count_by (λ x. key x == v) xs ≤ 1
      → length (filter (λ x. nat_lt (items_below key xs (key x)) c) xs) ≡ c
  first_are_c v is once =
      length-filter (λ x. nat_lt (items_below key xs (key x)) c) xs
      ∙ count_by-same (λ x. nat_lt (items_below key xs (key x)) c) (λ x. nat_lt (key x) (v + 1)) xs
      (λ x. key_divides v is x ∙ one_higher (key x) v)
      ∙ omega (arith, is.under, is.over, count_by-next key v xs, once)

-- ---- what the law function says

-- an item has fewer than c before it exactly where its key is at most the number that is found bit by bit
abbrev pub FoundDivides : Type 0
FoundDivides =
    (key : ℕ → ℕ) (xs : List ℕ) (c bits : ℕ) → 1 ≤ c → c ≤ length xs → HaveBits key bits xs
    → (x : ℕ) → nat_lt (items_below key xs (key x)) c ≡ nat_le (key x) (found_after (items_below key xs) c bits bits)

pub found_divides : FoundDivides
found_divides key xs c bits some enough short x =
    key_divides key xs c (found_after (items_below key xs) c bits bits) (key_is_found key xs c bits some enough short) x

-- such items are c, where no two have a key in common
abbrev pub FirstAreAsMany : Type 0
FirstAreAsMany =
    (key : ℕ → ℕ) (xs : List ℕ) (c bits : ℕ) → 1 ≤ c → c ≤ length xs → HaveBits key bits xs
    → ((v : ℕ) → count_by (λ x. key x == v) xs ≤ 1) → length (filter (λ x. nat_lt (items_below key xs (key x)) c) xs) ≡ c

pub first_are_as_many : FirstAreAsMany
first_are_as_many key xs c bits some enough short once =
    let v = found_after (items_below key xs) c bits bits in
    first_are_c key xs c v (key_is_found key xs c bits some enough short) (once v)
