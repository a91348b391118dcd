-- What follows for any layout from its list of owners, and what the list is under a regular shape.
use Rattle.std.specs.Prelude.{◌≡◌, refl, ℕ, zero, suc, ◌+◌, ◌-◌, ◌*◌, ◌≤◌, ◌<◌, Bool, true, ◌==◌, cond, List, [], ◌∷◌, ◌++◌, length, take}
use Rattle.std.specs.Prelude.{drop, map, slice_get, unwrap_or, Some, filter, sum_by, count_by}
use Rattle.std.specs.List.{range_with_len}
use Rattle.std.proofs.Common.{ap, sym, ◌∙◌, subst, arith, add-zero}
use Rattle.std.proofs.lemmas.Bool.Decides.{nat_tests}
use Rattle.std.proofs.lemmas.List.{take_all}
use Rattle.std.proofs.lemmas.List.FromFn.{length-map-range_with_len}
use Rattle.std.proofs.lemmas.List.Sums.{sum_by-cons, sum_by-append, sum_by_push}
use Rattle.chaos_dist.specs.Counting.{count_up_to, count_up_to-same, count_up_to-passes, count_up_to-only, up_to, below, below-last}
use Rattle.chaos_dist.specs.Counting.{length-filter-up_to, filter-up_to-same, slice_get-filter-up_to}
use Rattle.chaos_dist.specs.Layout.{owner_of, count_on, length_of, local_of, elements_of}
use Rattle.chaos_dist.specs.Owners.{regular_owners, owner_in, count_in, length_in, local_in, elements_on}
use Rattle.chaos_dist.specs.declared.shape.Shape.{Shape}

-- ---- a count over a list of owners is a count of elements

count_by_first : {A : Type 0} (q : A → Bool) (x : A) (xs : List A) → count_by q (x ∷ xs) ≡ cond (q x) 1 0 + count_by q xs
count_by_first q x xs = sum_by-cons (λ x. cond (q x) 1 0) x xs

count_up_to_first : (p : ℕ → Bool) (n : ℕ) → count_up_to p (suc n) ≡ cond (p 1) 1 0 + count_up_to (λ h. p (suc h)) n
count_up_to_first p zero = omega arith
count_up_to_first p (suc n) =
    ap (λ k. k + cond (p (suc (suc n))) 1 0) (count_up_to_first p n) ∙ omega arith

owner_in_later : (o : ℕ) (owners : List ℕ) (h : ℕ) → 1 ≤ h → owner_in (o ∷ owners) (suc h) ≡ owner_in owners h
owner_in_later o owners zero some = absurd (omega arith)
owner_in_later o owners (suc h) some =
    let back : suc (suc h) - 1 ≡ suc h = omega arith in
    let again : suc h - 1 ≡ h = omega arith in
    ap (λ k. unwrap_or (slice_get (o ∷ owners) k) 0) back ∙ ap (λ k. unwrap_or (slice_get owners k) 0) (sym again)

pub count_by-take-owners : (q : ℕ → Bool) (owners : List ℕ) (g : ℕ) → g ≤ length owners
    → count_by q (take g owners) ≡ count_up_to (λ h. q (owner_in owners h)) g
count_by-take-owners q owners zero within = refl
count_by-take-owners q [] (suc g) within = absurd (omega arith)
count_by-take-owners q (o ∷ owners) (suc g) within =
    count_by_first q o (take g owners)
    ∙ ap (λ k. cond (q o) 1 0 + k)
    (count_by-take-owners q owners g (less g (length owners) within)
    ∙ count_up_to-same (λ h. q (owner_in owners h)) (λ h. q (owner_in (o ∷ owners) (suc h))) g
    (λ h low high. ap q (sym (owner_in_later o owners h low))))
    ∙ sym (count_up_to_first (λ h. q (owner_in (o ∷ owners) h)) g)
  where
    less : (g n : ℕ) → suc g ≤ suc n → g ≤ n
    less g n h = omega arith

pub take_whole : {A : Type 0} (xs : List A) → take (length xs) xs ≡ xs
take_whole [] = refl
take_whole (x ∷ xs) = ap (λ l. x ∷ l) (take_whole xs)

pub length_in-is : (owners : List ℕ) (node : ℕ) → length_in owners node ≡ count_up_to (λ h. owner_in owners h == node) (length owners)
length_in-is owners node =
    ap (count_by (λ o. o == node)) (sym (take_whole owners)) ∙ count_by-take-owners (λ o. o == node) owners (length owners) (omega arith)

pub local_in-is : (owners : List ℕ) (g : ℕ) → g ≤ length owners
    → local_in owners g ≡ count_up_to (λ h. owner_in owners h == owner_in owners g) (g - 1)
local_in-is owners g within = count_by-take-owners (λ o. o == owner_in owners g) owners (g - 1) (omega arith)

-- ---- elements and places belong to one another

same_number : (m : ℕ) → (m == m) ≡ true
same_number m = grind (arith, nat_tests)

-- a local address is below the length of its node's part
pub local_in-below : (owners : List ℕ) (g : ℕ) → 1 ≤ g → g ≤ length owners → local_in owners g < length_in owners (owner_in owners g)
local_in-below owners g from_one within =
    omega (
      arith,
      local_in-is owners g within,
      length_in-is owners (owner_in owners g),
      count_up_to-passes (λ h. owner_in owners h == owner_in owners g) g (length owners) from_one within (same_number (owner_in owners g)),
    )

-- two elements at one place are one
pub same_place_in : (owners : List ℕ) (g h : ℕ) → 1 ≤ g → g ≤ length owners → 1 ≤ h → h ≤ length owners
    → owner_in owners g ≡ owner_in owners h → local_in owners g ≡ local_in owners h → g ≡ h
same_place_in owners g h from_one within also there same locals =
    let p = λ (k : ℕ). owner_in owners k == owner_in owners h in
    let passes : p g ≡ true = ap (λ k. k == owner_in owners h) same ∙ same_number (owner_in owners h) in
    let before : count_up_to p (g - 1) ≡ count_up_to p (h - 1) =
    ap (λ o. count_up_to (λ k. owner_in owners k == o) (g - 1)) (sym same) ∙ sym (local_in-is owners g within) ∙ locals
    ∙ local_in-is owners h there in
    count_up_to-only p g h from_one also passes (same_number (owner_in owners h)) before

-- the elements on a node are as many as it owns, and each stands at its local address
pub length-elements_on : (owners : List ℕ) (node : ℕ) → length (elements_on owners node) ≡ length_in owners node
length-elements_on owners node = length-filter-up_to (λ g. owner_in owners g == node) (length owners) ∙ sym (length_in-is owners node)

pub slice_get-elements_on : (owners : List ℕ) (g : ℕ) → 1 ≤ g → g ≤ length owners → slice_get (elements_on owners (owner_in owners g))
    (local_in owners g) ≡ Some g
slice_get-elements_on owners g from_one within =
    ap (slice_get (elements_on owners (owner_in owners g))) (local_in-is owners g within)
    ∙ slice_get-filter-up_to (λ h. owner_in owners h == owner_in owners g) (length owners) g from_one within
    (same_number (owner_in owners g))

-- ---- counts by pages

take_plus : {A : Type 0} (a b : ℕ) (xs : List A) → take (a + b) xs ≡ take a xs ++ take b (drop a xs)
take_plus zero b xs = ap (λ k. take k xs) (let e : 0 + b ≡ b = omega arith in e)
take_plus {A} (suc a) b [] = take_all {A = A} (suc a + b) [] (omega arith) ∙ sym (take_all {A = A} b [] (omega arith))
take_plus (suc a) b (x ∷ xs) =
    ap (λ k. take k (x ∷ xs)) (let e : suc a + b ≡ suc (a + b) = omega arith in e) ∙ ap (λ l. x ∷ l) (take_plus a b xs)

-- the elements up to a, and the b after them
pub count_in-plus : (owners : List ℕ) (node a b : ℕ) → count_in owners node (a + b) ≡ count_in owners node a
    + count_in (drop a owners) node b
count_in-plus owners node a b =
    ap (count_by (λ o. o == node)) (take_plus a b owners) ∙ sum_by-append (λ o. cond (o == node) 1 0) (take a owners)
    (take b (drop a owners))

-- the elements on the first pages, each of a width
pub count_in-pages : (owners : List ℕ) (node width pages : ℕ)
    → count_in owners node (pages * width) ≡ sum_by (λ page. count_in (drop (page * width) owners) node width) (below pages)
count_in-pages owners node width zero = ap (count_in owners node) (let e : 0 * width ≡ 0 = omega arith in e)
count_in-pages owners node width (suc pages) =
    let one_more : suc pages * width ≡ pages * width + width = omega arith in
    let on_page = λ (page : ℕ). count_in (drop (page * width) owners) node width in
    ap (count_in owners node) one_more
    ∙ count_in-plus owners node (pages * width) width
    ∙ ap (λ k. k + on_page pages) (count_in-pages owners node width pages)
    ∙ sym (ap (sum_by on_page) (below-last pages) ∙ sum_by_push on_page (below pages) pages)

-- the smaller elements on the same node: those on the pages before, and on the same page
pub local_in-pages : (owners : List ℕ) (g width page : ℕ) → page * width < g
    → local_in owners g ≡ sum_by (λ before. count_in (drop (before * width) owners) (owner_in owners g) width) (below page)
    + count_in (drop (page * width) owners) (owner_in owners g) (g - 1 - page * width)
local_in-pages owners g width page on =
    let e : g - 1 ≡ page * width + (g - 1 - page * width) = omega arith in
    let rest = count_in (drop (page * width) owners) (owner_in owners g) (g - 1 - page * width) in
    ap (count_in owners (owner_in owners g)) e
    ∙ count_in-plus owners (owner_in owners g) (page * width) (g - 1 - page * width)
    ∙ ap (λ k. k + rest) (count_in-pages owners (owner_in owners g) width page)

-- ---- the list of owners under a regular shape

pub length-regular_owners : (shape : Shape) (extent nodes : ℕ) → length (regular_owners shape extent nodes) ≡ extent
length-regular_owners shape extent nodes = length-map-range_with_len (owner_of shape extent nodes) 1 extent

pub get_range : {B : Type 0} (f : ℕ → B) (a k n : ℕ) → k < n → slice_get (map f (range_with_len a n)) k ≡ Some (f (a + k))
get_range f a k zero h = absurd (omega arith)
get_range f a zero (suc n) h = ap (λ x. Some (f x)) (sym (add-zero a))
get_range f a (suc k) (suc n) h = get_range f (a + 1) k n (less k n h) ∙ ap (λ x. Some (f x)) (more a k)
  where
    less : (k n : ℕ) → suc k < suc n → k < n
    less k n h = omega arith

    more : (a k : ℕ) → a + 1 + k ≡ a + suc k
    more a k = omega arith

pub owner_in-regular : (shape : Shape) (extent nodes g : ℕ) → 1 ≤ g → g ≤ extent → owner_in (regular_owners shape extent nodes) g
    ≡ owner_of shape extent nodes g
owner_in-regular shape extent nodes g from_one within =
    let inside : g - 1 < extent = omega arith in
    let back : 1 + (g - 1) ≡ g = omega arith in
    ap (λ o. unwrap_or o 0) (get_range (owner_of shape extent nodes) 1 (g - 1) extent inside) ∙ ap (owner_of shape extent nodes) back

pub count_in-regular : (shape : Shape) (extent nodes node g : ℕ) → g ≤ extent → count_in (regular_owners shape extent nodes) node g
    ≡ count_on shape extent nodes node g
count_in-regular shape extent nodes node g within =
    let owners = regular_owners shape extent nodes in
    let short : g ≤ length owners = subst (λ k. g ≤ k) (sym (length-regular_owners shape extent nodes)) within in
    count_by-take-owners (λ o. o == node) owners g short
    ∙ count_up_to-same (λ h. owner_in owners h == node) (λ h. owner_of shape extent nodes h == node) g
    (λ h low high. ap (λ o. o == node) (owner_in-regular shape extent nodes h low (omega arith)))

pub length_in-regular : (shape : Shape) (extent nodes node : ℕ) → length_in (regular_owners shape extent nodes) node
    ≡ length_of shape extent nodes node
length_in-regular shape extent nodes node =
    let owners = regular_owners shape extent nodes in
    ap (count_by (λ o. o == node)) (sym (take_whole owners))
    ∙ ap (λ k. count_in owners node k) (length-regular_owners shape extent nodes)
    ∙ count_in-regular shape extent nodes node extent (omega arith)

pub local_in-regular : (shape : Shape) (extent nodes g : ℕ) → 1 ≤ g → g ≤ extent → local_in (regular_owners shape extent nodes) g
    ≡ local_of shape extent nodes g
local_in-regular shape extent nodes g from_one within =
    ap (λ node. count_in (regular_owners shape extent nodes) node (g - 1)) (owner_in-regular shape extent nodes g from_one within)
    ∙ count_in-regular shape extent nodes (owner_of shape extent nodes g) (g - 1) (omega arith)

pub elements_on-regular : (shape : Shape) (extent nodes node : ℕ) → elements_on (regular_owners shape extent nodes) node
    ≡ elements_of shape extent nodes node
elements_on-regular shape extent nodes node =
    let owners = regular_owners shape extent nodes in
    ap (λ n. filter (λ g. owner_in owners g == node) (up_to n)) (length-regular_owners shape extent nodes)
    ∙ filter-up_to-same (λ g. owner_in owners g == node) (λ g. owner_of shape extent nodes g == node) extent
    (λ g low high. ap (λ o. o == node) (owner_in-regular shape extent nodes g low high))
