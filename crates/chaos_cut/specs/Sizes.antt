-- The sizes of halves and of parts.
use Rattle.std.specs.Prelude.{◌≡◌, ℕ, zero, suc, ◌+◌, ◌-◌, ◌*◌, ◌/◌, ◌%◌, ◌≤◌, ◌<◌, cond, if◌then◌else◌, min, nat_lt}
use Rattle.std.proofs.Common.{ap, sym, ◌∙◌, arith, inl, inr}
use Rattle.std.proofs.lemmas.Bool.{cases_lt}
use Rattle.std.proofs.lemmas.Bool.Decides.{nat_tests}
use Rattle.std.proofs.lemmas.Nat.{div-mul-add, mod-mul-add, mod_below}
use Rattle.std.proofs.Math.Nat.{div-add-mod}
use Rattle.chaos_cut.specs.Bisection.{first_size}

-- so many of m elements are for part i of p: the first m mod p parts get one more than the others
abbrev pub share_of : ℕ → ℕ → ℕ → ℕ
share_of m p i = m / p + (if nat_lt i (m % p) then 1 else 0)

-- ---- the parts of the halves

-- what is q times h and r more, r below h, shared among h
shared : (q h r i : ℕ) → r < h → share_of (q * h + r) h i ≡ q + (if nat_lt i r then 1 else 0)
shared q h r i low =
    ap (λ k. k + cond (nat_lt i ((q * h + r) % h)) 1 0) (div-mul-add q h r low)
    ∙ ap (λ k. q + cond (nat_lt i k) 1 0) (mod-mul-add q h r low)

module _ (q p r h : ℕ) (some : 1 ≤ h) (fewer : h < p) (rest : r < p) where
  -- of q * p + r elements so many go to the first h parts
  abbrev gone : ℕ
  gone = h * q + min h r

  low_first : r < h → (i : ℕ) → i < h → share_of gone h i ≡ q + (if nat_lt i r then 1 else 0)
  low_first less i within =
      let same : gone ≡ q * h + r = omega arith in
      ap (λ m. share_of m h i) same ∙ shared q h r i less

  high_first : h ≤ r → (i : ℕ) → i < h → share_of gone h i ≡ q + (if nat_lt i r then 1 else 0)
  high_first more i within =
      let same : gone ≡ (q + 1) * h + 0 = omega arith in
      ap (λ m. share_of m h i) same ∙ shared (q + 1) h 0 i some ∙ grind (arith, nat_tests, within, more)

  first_shares : (i : ℕ) → i < h → share_of gone h i ≡ q + (if nat_lt i r then 1 else 0)
  first_shares i within = elim (cases_lt r h) [ inl less ↦ low_first less i within | inr more ↦ high_first more i within ]

  abbrev stays : ℕ
  stays = q * p + r - gone

  rest_of_product : q * p ≡ h * q + (p - h) * q
  rest_of_product = let split : p ≡ h + (p - h) = omega (arith, fewer) in ap (λ k. q * k) split ∙ omega arith

  low_second : r < h → (i : ℕ) → i < p - h → share_of stays (p - h) i ≡ q + (if nat_lt (h + i) r then 1 else 0)
  low_second less i within =
      let same : stays ≡ q * (p - h) + 0 = omega (arith, rest_of_product, less) in
      ap (λ m. share_of m (p - h) i) same ∙ shared q (p - h) 0 i (omega (arith, fewer)) ∙ grind (arith, nat_tests, less)

  high_second : h ≤ r → (i : ℕ) → i < p - h → share_of stays (p - h) i ≡ q + (if nat_lt (h + i) r then 1 else 0)
  high_second more i within =
      let same : stays ≡ q * (p - h) + (r - h) = omega (arith, rest_of_product, more) in
      ap (λ m. share_of m (p - h) i) same ∙ shared q (p - h) (r - h) i (omega (arith, fewer, rest, more)) ∙ grind (arith, nat_tests, more)

  second_shares : (i : ℕ) → i < p - h → share_of stays (p - h) i ≡ q + (if nat_lt (h + i) r then 1 else 0)
  second_shares i within = elim (cases_lt r h) [ inl less ↦ low_second less i within | inr more ↦ high_second more i within ]

-- each part of the first half has the share that it has of all
abbrev pub FirstHalfShares : Type 0
FirstHalfShares = (m p i : ℕ) → 2 ≤ p → i < p / 2 → share_of (first_size m p) (p / 2) i ≡ share_of m p i

pub first_half_shares : FirstHalfShares
first_half_shares m p i two within =
    first_shares (m / p) p (m % p) (p / 2) (omega (arith, two)) (omega (arith, two)) (mod_below m p (omega (arith, two))) i within

-- and so has each part of the second half
abbrev pub SecondHalfShares : Type 0
SecondHalfShares = (m p i : ℕ) → 2 ≤ p → i < p - p / 2 → share_of (m - first_size m p) (p - p / 2) i ≡ share_of m p (p / 2 + i)

pub second_half_shares : SecondHalfShares
second_half_shares m p i two within =
    let turned : m / p * p ≡ p * (m / p) = omega arith in
    let all : m ≡ m / p * p + m % p = omega (arith, turned, div-add-mod m p) in
    ap (λ k. share_of (k - first_size m p) (p - p / 2) i) all
    ∙ second_shares (m / p) p (m % p) (p / 2) (omega (arith, two)) (omega (arith, two)) (mod_below m p (omega (arith, two))) i within

-- ---- each half has as many elements or more as it has parts

-- m elements cut for p parts
pub record IsFair (m p : ℕ) : Type 0 where
  pub some : 1 ≤ first_size m p
  pub first : p / 2 ≤ first_size m p
  pub within : first_size m p ≤ m
  pub second : p - p / 2 ≤ m - first_size m p

at_least : (h q : ℕ) → 1 ≤ q → h ≤ h * q
at_least h zero some = absurd (omega arith)
at_least h (suc q) some = omega arith

fair_by : (m p h q r : ℕ) → 1 ≤ h → h < p → 1 ≤ q → r < p → m ≡ p * q + r
    → (h ≤ h * q + min h r) × (h * q + min h r ≤ m) × (p - h ≤ m - (h * q + min h r))
fair_by m p h q r some less one low e =
    let split : p ≡ h + (p - h) = omega (arith, less) in
    let product : p * q ≡ h * q + (p - h) * q = ap (λ k. k * q) split ∙ omega arith in
    let a = at_least h q one in
    let b = at_least (p - h) q one in
    (omega (arith, a), omega (arith, e, product), omega (arith, e, product, b))

one_each : (m p : ℕ) → 1 ≤ p → p ≤ m → 1 ≤ m / p
one_each m p some enough = elim (cases_lt 0 (m / p)) [
  | inl more ↦ omega (arith, more)
  | inr none ↦
      let low : m % p < p = mod_below m p (omega (arith, some)) in
      let zero : m / p ≡ 0 = omega (arith, none) in
      let nothing : p * (m / p) ≡ 0 = ap (λ k. p * k) zero ∙ omega arith in
      absurd (omega (arith, div-add-mod m p, low, enough, nothing))
]

abbrev pub CutsAreFair : Type 0
CutsAreFair = (m p : ℕ) → 2 ≤ p → p ≤ m → IsFair m p

pub cuts_are_fair : CutsAreFair
cuts_are_fair m p two enough =
    let some : 1 ≤ p = omega (arith, two) in
    let by = fair_by m p (p / 2) (m / p) (m % p) (omega (arith, two)) (omega (arith, two)) (one_each m p some enough)
    (mod_below m p (omega (arith, two))) (sym (div-add-mod m p)) in
    record { some = omega (arith, two, by.0); first = by.0; within = by.1; second = by.2 }
