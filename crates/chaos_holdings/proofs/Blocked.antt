-- The elements of decompositions in blocks.
use Rattle.std.specs.Prelude.{◌≡◌, refl, ℕ, zero, suc, ◌+◌, ◌<◌, ℤ, pos, List, [], ◌∷◌, ◌++◌, length, map, take, slice_get, unwrap_or}
use Rattle.std.proofs.Common.{ap, sym, ◌∙◌, arith, add-one, get_or}
use Rattle.chaos_dist.specs.Counting.{below}
use Rattle.chaos_dist.specs.Layout.{elements_of, element_of, length_of}
use Rattle.chaos_dist.specs.LayoutLaws.{elements_by_place}
use Rattle.chaos_dist.specs.Owners.{regular_owners, elements_on}
use Rattle.chaos_dist.specs.OwnersLaws.{elements_on-regular}
use Rattle.chaos_dist.specs.declared.shape.Shape.TheVariants.{Block}
use Rattle.fd_program.specs.declared.array.LayoutName.{LayoutName}
use Rattle.chaos_holdings.specs.Starting.{block_elements}

map-map : (g : ℕ → ℕ) (xs : List ℕ) → map (λ k. pos (g k)) xs ≡ map pos (map g xs)
map-map g [] = refl
map-map g (x ∷ xs) = ap (λ (l : List ℤ). pos (g x) ∷ l) (map-map g xs)

pub numbers_by_place : (extent nodes node : ℕ)
    → map (λ k. pos (element_of Block extent nodes node k)) (below (length_of Block extent nodes node))
    ≡ map pos (elements_on (regular_owners Block extent nodes) node)
numbers_by_place extent nodes node =
    map-map (element_of Block extent nodes node) (below (length_of Block extent nodes node))
    ∙ ap (map pos) (elements_by_place Block extent nodes node ∙ sym (elements_on-regular Block extent nodes node))

elements_last : (layouts : List LayoutName) (nodes node k : ℕ) (l : LayoutName) → k < length layouts → l ≡ get_or layouts k l
    → block_elements nodes (take (suc k) layouts) node ≡ block_elements nodes (take k layouts) node
    ++ map pos (elements_on (regular_owners Block l.extent nodes) node) ∷ []
elements_last [] nodes node k l less e = absurd (omega arith)
elements_last (x ∷ xs) nodes node zero l less e = ap (λ (y : LayoutName). map pos (elements_on (regular_owners Block y.extent nodes) node)
    ∷ []) (sym e)
elements_last (x ∷ xs) nodes node (suc k) l less e =
    ap (λ (ls : List (List ℤ)). map pos (elements_on (regular_owners Block x.extent nodes) node) ∷ ls)
    (elements_last xs nodes node k l (fewer k (length xs) less) e)
  where
    fewer : (k n : ℕ) → suc k < suc n → k < n
    fewer k n h = omega arith

-- one decomposition more
pub elements_more : (layouts : List LayoutName) (nodes node k : ℕ) (lists new : List (List ℤ)) (list : List ℤ) (l : LayoutName)
    → k < length layouts → l ≡ get_or layouts k l
    → lists ≡ block_elements nodes (take k layouts) node → list ≡ map pos (elements_on (regular_owners Block l.extent nodes) node)
    → new ≡ lists ++ list ∷ []
    → new ≡ block_elements nodes (take (k + 1) layouts) node
elements_more layouts nodes node k lists new list l less here before one more =
    more ∙ ap (λ (x : List (List ℤ)). x ++ list ∷ []) before ∙ ap (λ (x : List ℤ). block_elements nodes (take k layouts) node ++ x ∷ []) one
    ∙ sym (ap (λ n. block_elements nodes (take n layouts) node) (add-one k) ∙ elements_last layouts nodes node k l less here)
