-- The part of an element doesn't depend on the depth, where it is enough; so it is that of the cut's two equations.
use Rattle.std.specs.Prelude.{◌≡◌, ℕ, zero, suc, ◌+◌, ◌-◌, ◌/◌, ◌^◌, ◌≤◌, ◌<◌, Bool, true, false, cond, if◌then◌else◌, nat_le}
use Rattle.std.proofs.Common.{ap, sym, ◌∙◌, subst, arith, refl, inl, inr}
use Rattle.std.proofs.lemmas.Bool.{cases_lt}
use Rattle.std.proofs.lemmas.Bool.Decides.{nat_tests}
use Rattle.std.proofs.lemmas.Nat.{pow-add}
use Rattle.chaos_cut.specs.Bisection.{Axes, Region, goes_first, first_half, second_half, part_in, part_of, levels_of}

-- ---- levels

-- so many levels are enough
abbrev pub LevelsAreEnough : Type 0
LevelsAreEnough = (parts : ℕ) → 1 ≤ parts → parts ≤ 64 → parts ≤ 2 ^ levels_of parts

pub levels_are_enough : LevelsAreEnough
levels_are_enough parts some most = grind (arith, nat_tests)

-- and one less isn't
abbrev pub LevelsAreLeast : Type 0
LevelsAreLeast = (parts : ℕ) → 2 ≤ parts → parts ≤ 64 → 2 ^ (levels_of parts - 1) < parts

pub levels_are_least : LevelsAreLeast
levels_are_least parts two most = grind (arith, nat_tests)

-- ---- depth

pub twice : (d : ℕ) → 2 ^ suc d ≡ 2 ^ d + 2 ^ d
twice d = let e : suc d ≡ d + 1 = omega arith in ap (λ k. 2 ^ k) e ∙ pow-add 2 d 1 ∙ omega arith

module _ (axes : Axes) where
  -- the part of an element by the half that it goes to
  abbrev in_halves : ℕ → Region → ℕ → ℕ
  in_halves d region g =
      cond (goes_first axes region g) (part_in axes d (first_half axes region) g) (part_in axes d (second_half axes region) g)

  pub single : (d : ℕ) (region : Region) (g : ℕ) → nat_le region.parts 1 ≡ true → part_in axes d region g ≡ region.first
  single zero region g e = refl
  single (suc d) region g e = ap (λ b. cond b region.first (in_halves d region g)) e

  pub goes_on : (d : ℕ) (region : Region) (g : ℕ) → nat_le region.parts 1 ≡ false
      → part_in axes (suc d) region g ≡ in_halves d region g
  goes_on d region g e = ap (λ b. cond b region.first (in_halves d region g)) e

  half_small : (p d : ℕ) → p ≤ 2 ^ suc d → (p / 2 ≤ 2 ^ d) × (p - p / 2 ≤ 2 ^ d)
  half_small p d small = (omega (arith, small, twice d), omega (arith, small, twice d))

  -- one cut more changes nothing
  one_deeper : (d : ℕ) (region : Region) (g : ℕ) → region.parts ≤ 2 ^ d → part_in axes (suc d) region g ≡ part_in axes d region g
  one_deeper zero region g small = single 1 region g (one region.parts small)
    where
      one : (p : ℕ) → p ≤ 1 → nat_le p 1 ≡ true
      one p h = grind (arith, nat_tests)
  one_deeper (suc d) region g small = by (nat_le region.parts 1) refl
      (one_deeper d (first_half axes region) g (half_small region.parts d small).0)
      (one_deeper d (second_half axes region) g (half_small region.parts d small).1)
    where
      by : (b : Bool) → nat_le region.parts 1 ≡ b
          → part_in axes (suc d) (first_half axes region) g ≡ part_in axes d (first_half axes region) g
          → part_in axes (suc d) (second_half axes region) g ≡ part_in axes d (second_half axes region) g
          → part_in axes (suc (suc d)) region g ≡ part_in axes (suc d) region g
      by true e first second = single (suc (suc d)) region g e ∙ sym (single (suc d) region g e)
      by false e first second =
          goes_on (suc d) region g e
          ∙ ap (λ z. cond (goes_first axes region g) z (part_in axes (suc d) (second_half axes region) g)) first
          ∙ ap (λ z. cond (goes_first axes region g) (part_in axes d (first_half axes region) g) z) second
          ∙ sym (goes_on d region g e)

  grown : (k d : ℕ) → 2 ^ d ≤ 2 ^ (k + d)
  grown zero d = let e : 0 + d ≡ d = omega arith in subst (λ n. 2 ^ d ≤ 2 ^ n) (sym e) (omega arith)
  grown (suc k) d =
      let e : suc k + d ≡ suc (k + d) = omega arith in
      subst (λ n. 2 ^ d ≤ 2 ^ n) (sym e) (omega (arith, grown k d, twice (k + d)))

  deeper : (k d : ℕ) (region : Region) (g : ℕ) → region.parts ≤ 2 ^ d → part_in axes (k + d) region g ≡ part_in axes d region g
  deeper zero d region g small = let e : 0 + d ≡ d = omega arith in ap (λ n. part_in axes n region g) e
  deeper (suc k) d region g small =
      let e : suc k + d ≡ suc (k + d) = omega arith in
      ap (λ n. part_in axes n region g) e
      ∙ one_deeper (k + d) region g (omega (arith, small, grown k d))
      ∙ deeper k d region g small

  pub same_part : (d e : ℕ) (region : Region) (g : ℕ) → region.parts ≤ 2 ^ d → region.parts ≤ 2 ^ e
      → part_in axes d region g ≡ part_in axes e region g
  same_part d e region g small also =
      elim (cases_lt d e) [
        | inl less ↦
            let sum : e - d + d ≡ e = omega (arith, less) in
            sym (deeper (e - d) d region g small) ∙ ap (λ n. part_in axes n region g) sum
        | inr more ↦
            let sum : d - e + e ≡ d = omega (arith, more) in
            ap (λ n. part_in axes n region g) (sym sum) ∙ deeper (d - e) e region g also
      ]

-- ---- what the law function says

-- every depth that is enough gives the same part
abbrev pub DepthIsFree : Type 0
DepthIsFree =
    (axes : Axes) (region : Region) (depth g : ℕ) → 1 ≤ region.parts → region.parts ≤ 64 → region.parts ≤ 2 ^ depth
    → part_in axes depth region g ≡ part_of axes region g

pub depth_is_free : DepthIsFree
depth_is_free axes region depth g some most small =
    same_part axes depth (levels_of region.parts) region g small (levels_are_enough region.parts some most)

-- with one part all elements get it
abbrev pub OnePartIsFirst : Type 0
OnePartIsFirst = (axes : Axes) (region : Region) (g : ℕ) → region.parts ≤ 1 → part_of axes region g ≡ region.first

pub one_part_is_first : OnePartIsFirst
one_part_is_first axes region g one = single axes (levels_of region.parts) region g (tested region.parts one)
  where
    tested : (p : ℕ) → p ≤ 1 → nat_le p 1 ≡ true
    tested p h = grind (arith, nat_tests)

-- otherwise an element gets the part that it has in its half
abbrev pub HalvesHaveParts : Type 0
HalvesHaveParts =
    (axes : Axes) (region : Region) (g : ℕ) → 2 ≤ region.parts → region.parts ≤ 64
    → part_of axes region g
    ≡ (if goes_first axes region g then part_of axes (first_half axes region) g else part_of axes (second_half axes region) g)

some_level : (parts levels : ℕ) → 2 ≤ parts → parts ≤ 2 ^ levels → (d : ℕ) × (levels ≡ suc d)
some_level parts zero two small = absurd (omega (arith, two, small))
some_level parts (suc d) two small = (d, refl)

pub halves_have_parts : HalvesHaveParts
halves_have_parts axes region g two most =
    let p = region.parts in
    let enough = levels_are_enough p (omega (arith, two)) most in
    let level = some_level p (levels_of p) two enough in
    let d = level.0 in
    let small = half_small axes p d (subst (λ n. p ≤ 2 ^ n) level.1 enough) in
    let first = first_half axes region in
    let second = second_half axes region in
    ap (λ n. part_in axes n region g) level.1
    ∙ goes_on axes d region g (more p two)
    ∙ ap (λ z. cond (goes_first axes region g) z (part_in axes d second g))
    (depth_is_free axes first d g (omega (arith, two)) (omega (arith, most)) small.0)
    ∙ ap (λ z. cond (goes_first axes region g) (part_of axes first g) z)
    (depth_is_free axes second d g (omega (arith, two)) (omega (arith, most)) small.1)
  where
    more : (p : ℕ) → 2 ≤ p → nat_le p 1 ≡ false
    more p h = grind (arith, nat_tests)
