-- What follows from the definitions of the regular distributions.
use Rattle.std.specs.Prelude.{◌≡◌, refl, ℕ, ◌+◌, ◌-◌, ◌*◌, ◌/◌, ◌%◌, ◌≤◌, ◌<◌, true, ◌==◌, Some, length, map, slice_get, unwrap_or}
use Rattle.std.proofs.Common.{ap, sym, ◌∙◌, subst, arith, div-one, inl, inr}
use Rattle.std.proofs.lemmas.Nat.{div-mul-add, mod_below, div_below}
use Rattle.std.proofs.Math.Nat.{mod-eq_of_lt, div-add-mod}
use Rattle.std.proofs.lemmas.Bool.{cases_lt}
use Rattle.std.proofs.lemmas.Bool.Decides.{nat_tests}
use Rattle.chaos_dist.specs.Counting.{below, place_by, count_up_to, count_up_to-same, count_up_to-le, count_up_to-grows, count_up_to-passes}
use Rattle.chaos_dist.specs.Counting.{count_up_to-only, length-filter-up_to, slice_get-filter-up_to}
use Rattle.chaos_dist.specs.Layout.{divided_up, owner_of, count_on, length_of, local_of, elements_of, element_of, given_size, width_of}
use Rattle.chaos_dist.specs.Rounds.{last_round, last_round_own, dealt_to, dealt_count, dealt_count-is, element_at, dealt_to-element_at}
use Rattle.chaos_dist.specs.Rounds.{dealt_count-element_at}
use Rattle.chaos_dist.specs.declared.shape.Shape.{Shape}
use Rattle.chaos_dist.specs.declared.shape.Shape.TheVariants.{Block, Cyclic, BlockCyclic}

-- ---- a division rounded up

pub divided_up-enough : (e n : ℕ) → 1 ≤ n → e ≤ n * divided_up e n
divided_up-enough e n some =
    let low : (e + n - 1) % n < n = mod_below (e + n - 1) n some in
    omega (arith, div-add-mod (e + n - 1) n, low)

pub divided_up-is : (e n : ℕ) → 1 ≤ e → 1 ≤ n → divided_up e n ≡ (e - 1) / n + 1
divided_up-is e n elements some =
    let low : (e - 1) % n < n = mod_below (e - 1) n some in
    let at : e + n - 1 ≡ ((e - 1) / n + 1) * n + (e - 1) % n = omega (arith, div-add-mod (e - 1) n) in
    ap (λ k. k / n) at ∙ div-mul-add ((e - 1) / n + 1) n ((e - 1) % n) low

pub width_of-some : (shape : Shape) (e n : ℕ) → 1 ≤ e → 1 ≤ n → 1 ≤ given_size shape → 1 ≤ width_of shape e n
width_of-some Block e n elements nodes size = omega (arith, divided_up-is e n elements nodes)
width_of-some Cyclic e n elements nodes size = omega arith
width_of-some (BlockCyclic b) e n elements nodes size = size

-- ---- every shape deals out runs of its width

pub owner_of-dealt : (shape : Shape) (e n g : ℕ) → 1 ≤ n → g ≤ e → 1 ≤ g → owner_of shape e n g ≡ dealt_to (width_of shape e n) n (g - 1)
owner_of-dealt Block e n g nodes within from_one =
    let some : g - 1 < n * divided_up e n = omega (arith, divided_up-enough e n nodes) in
    let width : 1 ≤ divided_up e n = omega (arith, divided_up-is e n (omega arith) nodes) in
    let low : (g - 1) / divided_up e n < n = div_below (g - 1) (divided_up e n) n width some in
    sym (mod-eq_of_lt low)
owner_of-dealt Cyclic e n g nodes within from_one = ap (λ k. k % n) (sym (div-one (g - 1)))
owner_of-dealt (BlockCyclic b) e n g nodes within from_one = refl

pub owner_of-below : (shape : Shape) (e n g : ℕ) → 1 ≤ n → g ≤ e → 1 ≤ g → owner_of shape e n g < n
owner_of-below shape e n g nodes within from_one =
    subst (λ k. k < n) (sym (owner_of-dealt shape e n g nodes within from_one)) (mod_below ((g - 1) / width_of shape e n) n nodes)

pub count_on-dealt : (shape : Shape) (e n node x : ℕ) → 1 ≤ n → x ≤ e → count_on shape e n node x ≡ dealt_count (width_of shape e n) n
    node x
count_on-dealt shape e n node x nodes within =
    count_up_to-same (λ h. owner_of shape e n h == node) (λ h. dealt_to (width_of shape e n) n (h - 1) == node) x
    (λ h low high. ap (λ k. k == node) (owner_of-dealt shape e n h nodes (omega arith) low))

-- ---- how many elements up to x are on a node, by formula

pub count_on-is : (shape : Shape) (e n node x : ℕ) → 1 ≤ n → 1 ≤ width_of shape e n → node < n → x ≤ e
    → let w = width_of shape e n in count_on shape e n node x ≡ x / w / n * w + last_round w (x / w % n) (x % w) node
count_on-is shape e n node x nodes width is_node within =
    count_on-dealt shape e n node x nodes within ∙ dealt_count-is (width_of shape e n) n node x width nodes is_node

pub count_on-grows : (shape : Shape) (e n node x y : ℕ) → x ≤ y → count_on shape e n node x ≤ count_on shape e n node y
count_on-grows shape e n node x y = count_up_to-grows (λ h. owner_of shape e n h == node) x y

pub length_of-le : (shape : Shape) (e n node : ℕ) → length_of shape e n node ≤ e
length_of-le shape e n node = count_up_to-le (λ h. owner_of shape e n h == node) e

same_number : (m : ℕ) → (m == m) ≡ true
same_number m = grind (arith, nat_tests)

-- a local address is below the length of its node's part
pub local_of-below : (shape : Shape) (e n g : ℕ) → 1 ≤ g → g ≤ e → local_of shape e n g < length_of shape e n (owner_of shape e n g)
local_of-below shape e n g from_one within =
    count_up_to-passes (λ h. owner_of shape e n h == owner_of shape e n g) g e from_one within (same_number (owner_of shape e n g))

pub local_of-is : (shape : Shape) (e n g : ℕ) → 1 ≤ n → 1 ≤ width_of shape e n → 1 ≤ g → g ≤ e
    → let w = width_of shape e n in local_of shape e n g ≡ (g - 1) / w / n * w + (g - 1) % w
local_of-is shape e n g nodes width from_one within =
    let w = width_of shape e n in
    let m = (g - 1) / w % n in
    ap (λ node. count_on shape e n node (g - 1)) (owner_of-dealt shape e n g nodes within from_one)
    ∙ count_on-is shape e n m (g - 1) nodes width (mod_below ((g - 1) / w) n nodes) (omega arith)
    ∙ ap (λ o. (g - 1) / w / n * w + o) (last_round_own w m ((g - 1) % w))

-- ---- elements and places belong to one another

-- two elements at one place are one
pub same_place : (shape : Shape) (e n g h : ℕ) → 1 ≤ g → 1 ≤ h → owner_of shape e n g ≡ owner_of shape e n h
    → local_of shape e n g ≡ local_of shape e n h → g ≡ h
same_place shape e n g h from_one also owners locals =
    let p = λ (k : ℕ). owner_of shape e n k == owner_of shape e n h in
    let passes : p g ≡ true = ap (λ k. k == owner_of shape e n h) owners ∙ same_number (owner_of shape e n h) in
    let before : count_up_to p (g - 1) ≡ count_up_to p (h - 1) = ap (λ k. count_on shape e n k (g - 1)) (sym owners) ∙ locals in
    count_up_to-only p g h from_one also passes (same_number (owner_of shape e n h)) before

-- the element with l before it on its node, by formula, is an element of the node and has l before it
pub element_at-below : (shape : Shape) (e n node l : ℕ) → 1 ≤ n → 1 ≤ width_of shape e n → node < n → l < length_of shape e n node
    → element_at (width_of shape e n) n node l < e
element_at-below shape e n node l nodes width is_node place =
    let w = width_of shape e n in
    let all : l < dealt_count w n node e = subst (λ k. l < k) (count_on-dealt shape e n node e nodes (omega arith)) place in
    elim (cases_lt (element_at w n node l) e) [
      | inl less ↦ less
      | inr more ↦
          let far : dealt_count w n node e ≤ dealt_count w n node (element_at w n node l) =
          count_up_to-grows (λ h. dealt_to w n (h - 1) == node) e (element_at w n node l) more in
          absurd (omega (arith, all, far, dealt_count-element_at w n node l width nodes is_node))
    ]

pub owner_of-element_at : (shape : Shape) (e n node l : ℕ) → 1 ≤ n → 1 ≤ width_of shape e n → node < n → l < length_of shape e n node
    → owner_of shape e n (element_at (width_of shape e n) n node l + 1) ≡ node
owner_of-element_at shape e n node l nodes width is_node place =
    let w = width_of shape e n in
    let low : element_at w n node l < e = element_at-below shape e n node l nodes width is_node place in
    let back : element_at w n node l + 1 - 1 ≡ element_at w n node l = omega arith in
    owner_of-dealt shape e n (element_at w n node l + 1) nodes (omega arith) (omega arith)
    ∙ ap (dealt_to w n) back ∙ dealt_to-element_at w n node l width is_node

pub local_of-element_at : (shape : Shape) (e n node l : ℕ) → 1 ≤ n → 1 ≤ width_of shape e n → node < n → l < length_of shape e n node
    → local_of shape e n (element_at (width_of shape e n) n node l + 1) ≡ l
local_of-element_at shape e n node l nodes width is_node place =
    let w = width_of shape e n in
    let x = element_at w n node l in
    let low : x < e = element_at-below shape e n node l nodes width is_node place in
    let back : x + 1 - 1 ≡ x = omega arith in
    ap (λ k. count_on shape e n k (x + 1 - 1)) (owner_of-element_at shape e n node l nodes width is_node place)
    ∙ ap (count_on shape e n node) back
    ∙ count_on-dealt shape e n node x nodes (omega arith) ∙ dealt_count-element_at w n node l width nodes is_node

-- an element stands at its local address among those of its node
pub slice_get-elements_of : (shape : Shape) (e n g : ℕ) → 1 ≤ g → g ≤ e → slice_get (elements_of shape e n (owner_of shape e n g))
    (local_of shape e n g) ≡ Some g
slice_get-elements_of shape e n g from_one within =
    slice_get-filter-up_to (λ h. owner_of shape e n h == owner_of shape e n g) e g from_one within (same_number (owner_of shape e n g))

pub length-elements_of : (shape : Shape) (e n node : ℕ) → length (elements_of shape e n node) ≡ length_of shape e n node
length-elements_of shape e n node = length-filter-up_to (λ g. owner_of shape e n g == node) e

-- the elements of a node, one local address after another
pub elements_by_place : (shape : Shape) (e n node : ℕ)
    → map (element_of shape e n node) (below (length_of shape e n node)) ≡ elements_of shape e n node
elements_by_place shape e n node =
    ap (λ k. map (element_of shape e n node) (below k)) (sym (length-elements_of shape e n node))
    ∙ place_by 0 (elements_of shape e n node) 0 (element_of shape e n node)
    (λ k. ap (element_of shape e n node) (let z : 0 + k ≡ k = omega arith in z))

pub element_of-place : (shape : Shape) (e n g : ℕ) → 1 ≤ g → g ≤ e → element_of shape e n (owner_of shape e n g) (local_of shape e n g) ≡ g
element_of-place shape e n g from_one within = ap (λ o. unwrap_or o 0) (slice_get-elements_of shape e n g from_one within)

pub element_of-is : (shape : Shape) (e n node l : ℕ) → 1 ≤ n → 1 ≤ width_of shape e n → node < n → l < length_of shape e n node
    → element_at (width_of shape e n) n node l + 1 ≡ element_of shape e n node l
element_of-is shape e n node l nodes width is_node place =
    let g = element_at (width_of shape e n) n node l + 1 in
    let within : g ≤ e = omega (arith, element_at-below shape e n node l nodes width is_node place) in
    let from_one : 1 ≤ g = omega arith in
    sym (element_of-place shape e n g from_one within)
    ∙ ap (λ p. element_of shape e n p (local_of shape e n g)) (owner_of-element_at shape e n node l nodes width is_node place)
    ∙ ap (element_of shape e n node) (local_of-element_at shape e n node l nodes width is_node place)

-- each local address of a node has an element, which stands there
pub place-element_of : (shape : Shape) (e n node l : ℕ) → 1 ≤ n → 1 ≤ width_of shape e n → node < n → l < length_of shape e n node
    → (owner_of shape e n (element_of shape e n node l) ≡ node) × (local_of shape e n (element_of shape e n node l) ≡ l)
place-element_of shape e n node l nodes width is_node place =
    let same = element_of-is shape e n node l nodes width is_node place in (
      ap (owner_of shape e n) (sym same) ∙ owner_of-element_at shape e n node l nodes width is_node place,
      ap (local_of shape e n) (sym same) ∙ local_of-element_at shape e n node l nodes width is_node place,
    )
