-- What holds of the regions of each level.
use Rattle.std.specs.Prelude.{◌≡◌, ℕ, zero, suc, ◌+◌, ◌-◌, ◌^◌, ◌≤◌, ◌<◌, ◌==◌, ◌&&◌, Bool, true, false, not, cond, List, [], ◌∷◌, ◌++◌}
use Rattle.std.specs.Prelude.{length, filter, flat_map, nat_lt, nat_le, count_by, FitsSigned}
use Rattle.std.specs.Int.{w64}
use Rattle.std.specs.List.{range_with_len, AllByRecursion}
use Rattle.std.proofs.Common.{ap, sym, ◌∙◌, subst, arith, refl}
use Rattle.std.proofs.lemmas.Bool.{not-true}
use Rattle.std.proofs.lemmas.Bool.Decides.{nat_tests}
use Rattle.std.proofs.lemmas.List.Filters.{length-filter_both}
use Rattle.std.proofs.lemmas.Nat.{pow_pos}
use Rattle.chaos_dist.specs.Counting.{up_to}
use Rattle.chaos_cut.specs.Bisection.{Axes, Region, axis_at, coordinate, is_before, count_before, widest_axis, cut_axis, cut_size}
use Rattle.chaos_cut.specs.Bisection.{goes_first, first_half, second_half, halves, part_in, regions_at, whole}
use Rattle.list_laws.specs.Counts.{count_by-agree}
use Rattle.chaos_cut.specs.Depth.{single, goes_on, twice}
use Rattle.chaos_cut.specs.Keys.{key_in, keys_below, found_in}
use Rattle.chaos_cut.specs.KeyLaws.{IsElement, order_is_keys, key_under, no_key_twice}
use Rattle.chaos_cut.specs.Search.{HaveBits, key_is_found, key_divides, first_are_c}
use Rattle.chaos_cut.specs.Sizes.{cuts_are_fair}

-- ---- lists

filter_twice : {A : Type 0} (p q : A → Bool) (xs : List A) → filter p (filter q xs) ≡ filter (λ x. q x && p x) xs
filter_twice p q [] = refl
filter_twice {A} p q (x ∷ xs) = by (q x) (filter_twice p q xs)
  where
    both : List A
    both = filter (λ x. q x && p x) xs

    by : (b : Bool) → filter p (filter q xs) ≡ both → filter p (cond b (x ∷ filter q xs) (filter q xs)) ≡ cond (b && p x) (x ∷ both) both
    by true e = ap (λ l. cond (p x) (x ∷ l) l) e
    by false e = e

filter_agree : {A : Type 0} (p q : A → Bool) (xs : List A) → AllByRecursion (λ x. p x ≡ q x) xs → filter p xs ≡ filter q xs
filter_agree p q [] all = refl
filter_agree p q (x ∷ xs) all =
    ap (λ b. cond b (x ∷ filter p xs) (filter p xs)) all.0 ∙ ap (λ l. cond (q x) (x ∷ l) l) (filter_agree p q xs all.1)

all_map : {A : Type 0} (P Q : A → Type 0) (xs : List A) → ((x : A) → P x → Q x) → AllByRecursion P xs → AllByRecursion Q xs
all_map P Q [] f all = tt
all_map P Q (x ∷ xs) f all = (f x all.0, all_map P Q xs f all.1)

all_filter : {A : Type 0} (P Q : A → Type 0) (p : A → Bool) (xs : List A) → ((x : A) → p x ≡ true → P x → Q x)
    → AllByRecursion P xs → AllByRecursion Q (filter p xs)
all_filter P Q p [] f all = tt
all_filter {A} P Q p (x ∷ xs) f all = by (p x) refl (all_filter P Q p xs f all.1)
  where
    by : (b : Bool) → p x ≡ b → AllByRecursion Q (filter p xs) → AllByRecursion Q (cond b (x ∷ filter p xs) (filter p xs))
    by true e rest = (f x e all.0, rest)
    by false e rest = rest

pub all_append : {A : Type 0} (P : A → Type 0) (xs ys : List A) → AllByRecursion P xs → AllByRecursion P ys → AllByRecursion P (xs ++ ys)
all_append P [] ys a b = b
all_append P (x ∷ xs) ys a b = (a.0, all_append P xs ys a.1 b)

pub all_range : (a n : ℕ) → AllByRecursion (λ x. (a ≤ x) × (x < a + n)) (range_with_len a n)
all_range a zero = tt
all_range a (suc n) = (
  (omega arith, omega arith),
  all_map (λ x. (a + 1 ≤ x) × (x < a + 1 + n)) (λ x. (a ≤ x) × (x < a + suc n)) (range_with_len (a + 1) n)
      (λ x h. (omega (arith, h.0), omega (arith, h.1))) (all_range (a + 1) n),
)

pub length-range : (n a : ℕ) → length (range_with_len a n) ≡ n
length-range zero a = refl
length-range (suc n) a = ap suc (length-range n (a + 1))

keep_all : (n a : ℕ) → filter (λ g. true) (range_with_len a n) ≡ range_with_len a n
keep_all zero a = refl
keep_all (suc n) a = ap (λ l. a ∷ l) (keep_all n (a + 1))

all_refl : (f : ℕ → ℕ) (xs : List ℕ) → AllByRecursion (λ g. f g ≡ f g) xs
all_refl f [] = tt
all_refl f (x ∷ xs) = (refl, all_refl f xs)

-- ---- the elements of a region

-- coordinates are signed numbers of 64 bits
abbrev pub AreSigned : Axes → Type 0
AreSigned axes = (at g : ℕ) → FitsSigned w64 (coordinate (axis_at axes at) g)

-- some of the elements 1 to count, in their order
abbrev pub AreSome : ℕ → List ℕ → Type 0
AreSome count elements = (keep : ℕ → Bool) × (elements ≡ filter keep (up_to count))

-- an element's part is the one that its region gives it, and the region has parts left for all cuts to come
pub record IsSound (axes : Axes) (count : ℕ) (part : ℕ → ℕ) (depth : ℕ) (region : Region) : Type 0 where
  pub are : AreSome count region.elements
  pub some : 1 ≤ region.parts
  pub enough : region.parts ≤ length region.elements
  pub small : region.parts ≤ 2 ^ depth
  pub told : AllByRecursion (λ g. part_in axes depth region g ≡ part g) region.elements

pub second_length : (axes : Axes) (region : Region)
    → length (first_half axes region).elements + length (second_half axes region).elements ≡ length region.elements
second_length axes region =
    length-filter_both (goes_first axes region) (λ g. not (goes_first axes region g)) (λ x. refl) region.elements

halves_are_some : (axes : Axes) (count : ℕ) (region : Region) (p : ℕ → Bool) → AreSome count region.elements
    → AreSome count (filter p region.elements)
halves_are_some axes count region p some = ((λ g. some.0 g && p g), ap (filter p) some.1 ∙ filter_twice p some.0 (up_to count))

module _ (axes : Axes) (count : ℕ) (few : count ≤ 2 ^ 20) (signed : AreSigned axes) where
  are_elements : (elements : List ℕ) → AreSome count elements → AllByRecursion IsElement elements
  are_elements elements some =
      subst (λ l. AllByRecursion IsElement l) (sym some.1)
      (all_filter (λ x. (1 ≤ x) × (x < 1 + count)) IsElement some.0 (up_to count)
      (λ x e h. (h.0, omega (arith, h.1, few))) (all_range 1 count))

  -- the keys below an element's are those of the elements that stand before it
  before_counts : (region : Region) → AllByRecursion IsElement region.elements → (g : ℕ) → IsElement g
      → count_before (cut_axis axes region) region.elements g
      ≡ keys_below (cut_axis axes region) region.elements (key_in (cut_axis axes region) g)
  before_counts region all g e =
      let at = widest_axis axes region.elements in
      let axis = cut_axis axes region in
      count_by-agree (is_before axis g) (λ h. nat_lt (key_in axis h) (key_in axis g)) region.elements
      (all_map IsElement (λ h. is_before axis g h ≡ nat_lt (key_in axis h) (key_in axis g)) region.elements
      (λ h f. order_is_keys axis g h (signed at g) (signed at h) e f) all)

  have_bits : (region : Region) → AllByRecursion IsElement region.elements → HaveBits (key_in (cut_axis axes region)) 84 region.elements
  have_bits region all =
      let at = widest_axis axes region.elements in
      let axis = cut_axis axes region in
      all_map IsElement (λ g. nat_lt (key_in axis g) (2 ^ 84) ≡ true) region.elements
      (λ g e. key_under (coordinate axis g) g (signed at g) e.1) all

  module _ (region : Region) (some : AreSome count region.elements)
      (one : 1 ≤ cut_size region) (within : cut_size region ≤ length region.elements) where
    pub goes_by_key : (g : ℕ) → IsElement g → goes_first axes region g ≡ nat_le (key_in (cut_axis axes region) g) (found_in axes region 84)
    goes_by_key g e =
        let all = are_elements region.elements some in
        let key = key_in (cut_axis axes region) in
        let found = key_is_found key region.elements (cut_size region) 84 one within (have_bits region all) in
        ap (λ n. nat_lt n (cut_size region)) (before_counts region all g e)
        ∙ key_divides key region.elements (cut_size region) (found_in axes region 84) found g

    pub first_length : length (first_half axes region).elements ≡ cut_size region
    first_length =
        let all = are_elements region.elements some in
        let axis = cut_axis axes region in
        let c = cut_size region in
        let v = found_in axes region 84 in
        let found = key_is_found (key_in axis) region.elements c 84 one within (have_bits region all) in
        let once : count_by (λ g. key_in axis g == v) region.elements ≤ 1 =
        subst (λ l. count_by (λ g. key_in axis g == v) l ≤ 1) (sym some.1) (no_key_twice axis some.0 count v few) in
        let before = λ (g : ℕ). nat_lt (keys_below axis region.elements (key_in axis g)) c in
        ap length (filter_agree (goes_first axes region) before region.elements
        (all_map IsElement (λ g. goes_first axes region g ≡ before g) region.elements
        (λ g e. ap (λ n. nat_lt n c) (before_counts region all g e)) all))
        ∙ first_are_c (key_in axis) region.elements c v found once

  -- ---- level by level

  sound_halves : (part : ℕ → ℕ) (d : ℕ) (region : Region) → IsSound axes count part (suc d) region
      → AllByRecursion (IsSound axes count part d) (halves axes region)
  sound_halves part d region h = by (nat_le region.parts 1) refl
    where
      by : (b : Bool) → nat_le region.parts 1 ≡ b
          → AllByRecursion (IsSound axes count part d) (cond b (region ∷ []) (first_half axes region ∷ second_half axes region ∷ []))
      by true e = (
        record {
          are = h.are;
          some = h.some;
          enough = h.enough;
          small = (let one : region.parts ≤ 1 = grind (arith, nat_tests) in omega (arith, one, pow_pos d));
          told = all_map (λ g. part_in axes (suc d) region g ≡ part g) (λ g. part_in axes d region g ≡ part g) region.elements
              (λ g f. single axes d region g e ∙ sym (single axes (suc d) region g e) ∙ f) h.told;
        },
        tt,
      )
      by false e =
          let two : 2 ≤ region.parts = grind (arith, nat_tests) in
          let is = cuts_are_fair (length region.elements) region.parts two h.enough in
          let one = first_length region h.are is.some is.within in
          let both = second_length axes region in
          let first = first_half axes region in
          let second = second_half axes region in
          let cut = λ (b : Bool) (g : ℕ). cond b (part_in axes d first g) (part_in axes d second g) in
          let at = λ (b : Bool) (g : ℕ) (f : goes_first axes region g ≡ b). goes_on axes d region g e ∙ ap (λ k. cut k g) f in (
            record {
              are = halves_are_some axes count region (goes_first axes region) h.are;
              some = omega (arith, two);
              enough = omega (arith, one, is.first);
              small = omega (arith, h.small, twice d);
              told = all_filter (λ g. part_in axes (suc d) region g ≡ part g) (λ g. part_in axes d first g ≡ part g)
                  (goes_first axes region) region.elements (λ g f k. sym (at true g f) ∙ k) h.told;
            },
            (
              record {
                are = halves_are_some axes count region (λ g. not (goes_first axes region g)) h.are;
                some = omega (arith, two);
                enough = omega (arith, one, both, is.second, is.within);
                small = omega (arith, h.small, twice d);
                told = all_filter (λ g. part_in axes (suc d) region g ≡ part g) (λ g. part_in axes d second g ≡ part g)
                    (λ g. not (goes_first axes region g)) region.elements
                    (λ g f k. sym (at false g (not-true (goes_first axes region g) f)) ∙ k) h.told;
              },
              tt,
            ),
          )

  sound_next : (part : ℕ → ℕ) (d : ℕ) (regions : List Region) → AllByRecursion (IsSound axes count part (suc d)) regions
      → AllByRecursion (IsSound axes count part d) (flat_map (halves axes) regions)
  sound_next part d [] all = tt
  sound_next part d (region ∷ regions) all =
      all_append (IsSound axes count part d) (halves axes region) (flat_map (halves axes) regions)
      (sound_halves part d region all.0) (sound_next part d regions all.1)

  pub sound_at : (parts depth level : ℕ) → 1 ≤ parts → parts ≤ count → parts ≤ 2 ^ depth → level ≤ depth
      → AllByRecursion (IsSound axes count (part_in axes depth (whole parts count)) (depth - level)) (regions_at axes parts count level)
  sound_at parts depth zero some enough small within =
      let none : depth - 0 ≡ depth = omega arith in
      let part = part_in axes depth (whole parts count) in
      subst (λ d. AllByRecursion (IsSound axes count part d) (whole parts count ∷ [])) (sym none) (
        record {
          are = ((λ g. true), sym (keep_all count 1));
          some = some;
          enough = omega (arith, enough, length-range count 1);
          small = small;
          told = all_refl part (up_to count);
        },
        tt,
      )
  sound_at parts depth (suc level) some enough small within =
      let one : depth - level ≡ suc (depth - suc level) = omega (arith, within) in
      let part = part_in axes depth (whole parts count) in
      sound_next part (depth - suc level) (regions_at axes parts count level)
      (subst (λ d. AllByRecursion (IsSound axes count part d) (regions_at axes parts count level)) one
      (sound_at parts depth level some enough small (omega (arith, within))))

-- ---- what the law function says

-- at each level each region has some of the elements, in their order, as many or more as parts, and they have their parts from it
abbrev pub RegionsAreSound : Type 0
RegionsAreSound =
    (axes : Axes) (parts count depth level : ℕ) → AreSigned axes → count ≤ 2 ^ 20
    → 1 ≤ parts → parts ≤ count → parts ≤ 2 ^ depth → level ≤ depth
    → AllByRecursion (IsSound axes count (part_in axes depth (whole parts count)) (depth - level)) (regions_at axes parts count level)

pub regions_are_sound : RegionsAreSound
regions_are_sound axes parts count depth level signed few = sound_at axes count few signed parts depth level

-- an element goes to the first half exactly where its key is at most the key found after all 84 bits
abbrev pub KeysCut : Type 0
KeysCut =
    (axes : Axes) (count : ℕ) (region : Region) (g : ℕ) → AreSigned axes → count ≤ 2 ^ 20 → AreSome count region.elements → IsElement g
    → 2 ≤ region.parts → region.parts ≤ length region.elements
    → goes_first axes region g ≡ nat_le (key_in (cut_axis axes region) g) (found_in axes region 84)

pub keys_cut : KeysCut
keys_cut axes count region g signed few some is two enough =
    let fair = cuts_are_fair (length region.elements) region.parts two enough in
    goes_by_key axes count few signed region some fair.some fair.within g is

-- the halves have as many elements as they are to have
abbrev pub HalvesHaveSizes : Type 0
HalvesHaveSizes =
    (axes : Axes) (count : ℕ) (region : Region) → AreSigned axes → count ≤ 2 ^ 20 → AreSome count region.elements
    → 2 ≤ region.parts → region.parts ≤ length region.elements
    → (length (first_half axes region).elements ≡ cut_size region)
    × (length (second_half axes region).elements ≡ length region.elements - cut_size region)

pub halves_have_sizes : HalvesHaveSizes
halves_have_sizes axes count region signed few some two enough =
    let fair = cuts_are_fair (length region.elements) region.parts two enough in
    let one = first_length axes count few signed region some fair.some fair.within in
    (one, omega (arith, one, second_length axes region))
