-- The coordinates of a node's block of elements, taken from those of all.
use Rattle.std.specs.Prelude.{◌≡◌, ℕ, ◌+◌, ℤ, List, [], ◌∷◌, map, unwrap_or}
use Rattle.std.proofs.Common.{ap, sym, ◌∙◌, arith, refl}
use Rattle.chaos_dist.specs.Counting.{below}
use Rattle.chaos_dist.specs.Layout.{element_of, length_of}
use Rattle.chaos_dist.specs.LayoutLaws.{length-elements_of}
use Rattle.chaos_dist.specs.declared.shape.Shape.TheVariants.{Block}
use Rattle.chaos_cut.specs.Bisection.{Axes, coordinate}
use Rattle.bisect_node.specs.ListLaws.{map-below}
use Rattle.bisect_node.specs.Plans.{BisectPlan, coordinates_of, own_elements}

abbrev pub block_in : ℕ → ℕ → ℕ → List ℤ → List ℤ
block_in count nodes p axis = map (λ k. coordinate axis (element_of Block count nodes p k)) (below (length_of Block count nodes p))

abbrev pub own_in : ℕ → ℕ → ℕ → Axes → List (List ℤ)
own_in count nodes p axes = map (block_in count nodes p) axes

block-is : (plan : BisectPlan) (p : ℕ) (axis : List ℤ) → block_in plan.count plan.nodes p axis ≡ map (coordinate axis) (own_elements plan p)
block-is plan p axis =
    let of = λ (k : ℕ). coordinate axis (element_of Block plan.count plan.nodes p k) in
    ap (λ n. map of (below n)) (sym (length-elements_of Block plan.count plan.nodes p))
    ∙ map-below of (coordinate axis) 0 (own_elements plan p)
    (λ k g e. let here : 0 + k ≡ k = omega arith in ap of here ∙ ap (λ o. coordinate axis (unwrap_or o 0)) e)

pub own-is : (plan : BisectPlan) (p : ℕ) (axes : Axes) → own_in plan.count plan.nodes p axes ≡ coordinates_of axes (own_elements plan p)
own-is plan p [] = refl
own-is plan p (axis ∷ axes) =
    ap (λ l. l ∷ own_in plan.count plan.nodes p axes) (block-is plan p axis)
    ∙ ap (λ l. map (coordinate axis) (own_elements plan p) ∷ l) (own-is plan p axes)
