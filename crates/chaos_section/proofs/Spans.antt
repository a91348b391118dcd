-- Those of the numbers of a span that pass, by their places among all that pass: the elements of a node from one to another, by
-- local address.
use Rattle.std.specs.Prelude.{◌≡◌, refl, ℕ, zero, suc, ◌+◌, ◌-◌, ◌≤◌, ◌<◌, ◌==◌, Bool, true, List, [], ◌∷◌, ◌++◌, length, map, filter}
use Rattle.std.specs.Prelude.{slice_get, unwrap_or}
use Rattle.std.specs.List.{range_with_len}
use Rattle.std.proofs.Common.{ap, sym, ◌∙◌, arith, inl, inr, length-append}
use Rattle.std.proofs.lemmas.Bool.{cases_lt}
use Rattle.std.proofs.lemmas.List.{map-append}
use Rattle.std.proofs.lemmas.List.Elements.{filter-append}
use Rattle.chaos_dist.specs.Counting.{count_up_to, up_to, length-filter-up_to, count_up_to-passes, count_up_to-grows}
use Rattle.chaos_dist.specs.Layout.{owner_of, count_on, length_of, element_of, width_of}
use Rattle.chaos_dist.specs.LayoutLaws.{count_on-grows, element_of-is, element_at-below, place-element_of}
use Rattle.list_laws.specs.Tests.{same_number}
use Rattle.chaos_dist.specs.declared.shape.Shape.{Shape}

-- ---- a middle part, by place

map_shifted : {B : Type 0} (f : ℕ → B) (a n : ℕ) → map f (range_with_len (suc a) n) ≡ map (λ k. f (suc k)) (range_with_len a n)
map_shifted f a zero = refl
map_shifted f a (suc n) =
    let up : suc a + 1 ≡ suc (a + 1) = omega arith in
    ap (λ k. f (suc a) ∷ map f (range_with_len k n)) up ∙ ap (λ l. f (suc a) ∷ l) (map_shifted f (a + 1) n)

abbrev pub at : List ℕ → ℕ → ℕ
at xs l = unwrap_or (slice_get xs l) 0

first_part : (ys zs : List ℕ) → map (at (ys ++ zs)) (range_with_len 0 (length ys)) ≡ ys
first_part [] zs = refl
first_part (y ∷ ys) zs =
    let one : 0 + 1 ≡ suc 0 = omega arith in
    ap (λ k. y ∷ map (at (y ∷ (ys ++ zs))) (range_with_len k (length ys))) one
    ∙ ap (λ l. y ∷ l) (map_shifted (at (y ∷ (ys ++ zs))) 0 (length ys) ∙ first_part ys zs)

slice_middle : (xs ys zs : List ℕ) → map (at (xs ++ (ys ++ zs))) (range_with_len (length xs) (length ys)) ≡ ys
slice_middle [] ys zs = first_part ys zs
slice_middle (x ∷ xs) ys zs = map_shifted (at (x ∷ (xs ++ (ys ++ zs)))) (length xs) (length ys) ∙ slice_middle xs ys zs

range_parts : (a m n : ℕ) → range_with_len a (m + n) ≡ range_with_len a m ++ range_with_len (a + m) n
range_parts a zero n =
    let none : zero + n ≡ n = omega arith in
    let here : a ≡ a + zero = omega arith in
    ap (range_with_len a) none ∙ ap (λ k. range_with_len k n) here
range_parts a (suc m) n =
    let next : suc m + n ≡ suc (m + n) = omega arith in
    let there : a + 1 + m ≡ a + suc m = omega arith in
    ap (range_with_len a) next ∙ ap (λ l. a ∷ l) (range_parts (a + 1) m n) ∙ ap (λ k. (a ∷ range_with_len (a + 1) m) ++ range_with_len k n)
    there

-- those of a + 1 to a + n among those of 1 to a + n + m
own_span : (p : ℕ → Bool) (a n m : ℕ)
    → map (at (filter p (range_with_len 1 (a + (n + m))))) (range_with_len (length (filter p (range_with_len 1 a)))
    (length (filter p (range_with_len (1 + a) n))))
    ≡ filter p (range_with_len (1 + a) n)
own_span p a n m =
    let parts : filter p (range_with_len 1 (a + (n + m)))
    ≡ filter p (range_with_len 1 a) ++ (filter p (range_with_len (1 + a) n) ++ filter p (range_with_len (1 + a + n) m)) =
    ap (filter p) (range_parts 1 a (n + m) ∙ ap (λ l. range_with_len 1 a ++ l) (range_parts (1 + a) n m))
    ∙ filter-append p (range_with_len 1 a) (range_with_len (1 + a) n ++ range_with_len (1 + a + n) m)
    ∙ ap (λ l. filter p (range_with_len 1 a) ++ l) (filter-append p (range_with_len (1 + a) n) (range_with_len (1 + a + n) m)) in
    ap (λ xs. map (at xs) (range_with_len (length (filter p (range_with_len 1 a))) (length (filter p (range_with_len (1 + a) n))))) parts
    ∙ slice_middle (filter p (range_with_len 1 a)) (filter p (range_with_len (1 + a) n)) (filter p (range_with_len (1 + a + n) m))

-- how many of a + 1 to a + n pass
length_part : (p : ℕ → Bool) (a n : ℕ) → length (filter p (range_with_len (1 + a) n)) ≡ count_up_to p (a + n) - count_up_to p a
length_part p a n =
    let parts : length (filter p (up_to (a + n))) ≡ length (filter p (up_to a)) + length (filter p (range_with_len (1 + a) n)) =
    ap (λ l. length (filter p l)) (range_parts 1 a n)
    ∙ ap length (filter-append p (range_with_len 1 a) (range_with_len (1 + a) n))
    ∙ length-append (filter p (range_with_len 1 a)) (filter p (range_with_len (1 + a) n)) in
    omega (arith, parts, length-filter-up_to p (a + n), length-filter-up_to p a)

-- the elements of a node from first to last are those at the local addresses from the number of its elements before first
pub elements_between : (shape : Shape) (e n me first last : ℕ) → 1 ≤ first → first ≤ last → last ≤ e
    → map (element_of shape e n me) (range_with_len (count_on shape e n me (first - 1)) (count_on shape e n me last
    - count_on shape e n me (first - 1)))
    ≡ filter (λ g. owner_of shape e n g == me) (range_with_len first (last + 1 - first))
elements_between shape e n me first last from_one order within =
    let p : ℕ → Bool = λ g. owner_of shape e n g == me in
    let a = first - 1 in
    let k = last + 1 - first in
    let m = e - last in
    let all : a + (k + m) ≡ e = omega arith in
    let there : a + k ≡ last = omega arith in
    let start : 1 + a ≡ first = omega arith in
    let count : length (filter p (range_with_len (1 + a) k)) ≡ count_on shape e n me last - count_on shape e n me a =
    length_part p a k ∙ ap (λ x. count_up_to p x - count_up_to p a) there in
    ap (λ x. map (at (filter p (up_to x))) (range_with_len (count_up_to p a) (count_up_to p last - count_up_to p a))) (sym all)
    ∙ ap (λ x. map (at (filter p (up_to (a + (k + m))))) (range_with_len x (count_up_to p last - count_up_to p a)))
    (sym (length-filter-up_to p a))
    ∙ ap (λ x. map (at (filter p (up_to (a + (k + m))))) (range_with_len (length (filter p (up_to a))) x)) (sym count)
    ∙ own_span p a k m
    ∙ ap (λ x. filter p (range_with_len x k)) start

-- and they are between these two
pub element_between : (shape : Shape) (e n me first last l g : ℕ) → 1 ≤ g → g ≤ e → owner_of shape e n g ≡ me
    → count_on shape e n me (g - 1) ≡ l → count_on shape e n me (first - 1) ≤ l → l < count_on shape e n me last
    → (first ≤ g) × (g ≤ last)
element_between shape e n me first last l g from_one within owner local low high =
    let p : ℕ → Bool = λ h. owner_of shape e n h == me in
    let passes : p g ≡ true = ap (λ o. o == me) owner ∙ same_number me in (
      elim (cases_lt g first) [
        | inl less ↦
            let far : count_up_to p (g - 1) < count_up_to p (first - 1) = count_up_to-passes p g (first - 1) from_one (omega arith) passes
            in
            absurd (omega (arith, far, local, low))
        | inr more ↦ more
      ],
      elim (cases_lt last g) [
        | inl less ↦
            let far : count_up_to p last ≤ count_up_to p (g - 1) = count_up_to-grows p last (g - 1) (omega arith) in
            absurd (omega (arith, far, local, high))
        | inr more ↦ more
      ],
    )

-- an element of a node, by its local address, is between those with so many before them
pub own_between : (shape : Shape) (e n me first last l : ℕ) → 1 ≤ n → 1 ≤ width_of shape e n → me < n → last ≤ e
    → count_on shape e n me (first - 1) ≤ l → l < count_on shape e n me last
    → (first ≤ element_of shape e n me l) × (element_of shape e n me l ≤ last)
own_between shape e n me first last l nodes width is_node within low high =
    let place : l < length_of shape e n me = omega (arith, high, count_on-grows shape e n me last e within) in
    let g = element_of shape e n me l in
    let is = element_of-is shape e n me l nodes width is_node place in
    let less = element_at-below shape e n me l nodes width is_node place in
    let there = place-element_of shape e n me l nodes width is_node place in
    let from_one : 1 ≤ g = omega (arith, is) in
    let inside : g ≤ e = omega (arith, is, less) in
    let local : count_on shape e n me (g - 1) ≡ l = ap (λ o. count_on shape e n o (g - 1)) (sym there.0) ∙ there.1 in
    element_between shape e n me first last l g from_one inside there.0 local low high

-- ---- one local address more

pub map-range-more : {B : Type 0} (f : ℕ → B) (from k next : ℕ) (xs ys : List B) (y : B) → from ≤ k → next ≡ k + 1
    → xs ≡ map f (range_with_len from (k - from)) → ys ≡ xs ++ y ∷ [] → y ≡ f k → ys ≡ map f (range_with_len from (next - from))
map-range-more f from k next xs ys y order en before pushed e =
    let size : next - from ≡ k - from + 1 = omega arith in
    let there : from + (k - from) ≡ k = omega arith in
    pushed
    ∙ ap (λ l. l ++ y ∷ []) before
    ∙ ap (λ z. map f (range_with_len from (k - from)) ++ z ∷ []) (e ∙ ap f (sym there))
    ∙ sym (ap (λ n. map f (range_with_len from n)) size
    ∙ ap (map f) (range_parts from (k - from) 1)
    ∙ map-append f (range_with_len from (k - from)) (range_with_len (from + (k - from)) 1))

map-map : {A B C : Type 0} (f : B → C) (g : A → B) (xs : List A) → map (λ x. f (g x)) xs ≡ map f (map g xs)
map-map f g [] = refl
map-map f g (x ∷ xs) = ap (λ l. f (g x) ∷ l) (map-map f g xs)

-- what is made of the elements of a node from first to last
pub made_between : {B : Type 0} (f : ℕ → B) (shape : Shape) (e n me first last from end here : ℕ) → 1 ≤ first → first ≤ last → last ≤ e
    → from ≡ count_on shape e n me (first - 1) → end ≡ count_on shape e n me last → here ≡ end
    → map (λ k. f (element_of shape e n me k)) (range_with_len from (here - from))
    ≡ map f (filter (λ g. owner_of shape e n g == me) (range_with_len first (last + 1 - first)))
made_between f shape e n me first last from end here from_one order within ef ee eh =
    ap (λ x. map (λ k. f (element_of shape e n me k)) (range_with_len from (x - from))) (eh ∙ ee)
    ∙ ap (λ x. map (λ k. f (element_of shape e n me k)) (range_with_len x (count_on shape e n me last - x))) ef
    ∙ map-map f (element_of shape e n me) (range_with_len (count_on shape e n me (first - 1)) (count_on shape e n me last
    - count_on shape e n me (first - 1)))
    ∙ ap (map f) (elements_between shape e n me first last from_one order within)
