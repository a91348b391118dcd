-- Local parts element by element.
use Rattle.std.specs.Prelude.{◌≡◌, refl, ℕ, zero, suc, ℤ, List, [], ◌∷◌, map}
use Rattle.std.proofs.Common.{ap, sym, ◌∙◌}
use Rattle.fd_words.specs.Lists.{list_at}
use Rattle.chaos_dist.specs.Counting.{below}
use Rattle.chaos_dist.specs.Layout.{elements_of, element_of, length_of}
use Rattle.chaos_dist.specs.LayoutLaws.{elements_by_place}
use Rattle.chaos_dist.specs.Owners.{regular_owners, elements_on}
use Rattle.chaos_dist.specs.OwnersLaws.{elements_on-regular}
use Rattle.chaos_dist.specs.declared.shape.Shape.TheVariants.{Block}
use Rattle.fd_program.specs.Checks.{layout_extent}
use Rattle.fd_program.specs.Places.{part_of, value_on}
use Rattle.fd_program.specs.Stores.{array_at}
use Rattle.fd_program.specs.declared.array.ArrayFacts.{ArrayFacts}
use Rattle.fd_program.specs.declared.array.LayoutName.{LayoutName}
use Rattle.chaos_holdings.specs.Starting.{block_owners}

map-map : {A : Type 0} (f : ℕ → A) (g : ℕ → ℕ) (xs : List ℕ) → map (λ k. f (g k)) xs ≡ map f (map g xs)
map-map f g [] = refl
map-map {A} f g (x ∷ xs) = ap (λ (l : List A). f (g x) ∷ l) (map-map f g xs)

owners_for : (nodes d : ℕ) (layouts : List LayoutName) → list_at (block_owners nodes layouts) d ≡ regular_owners Block
    (layout_extent layouts d) nodes
owners_for nodes d [] = refl
owners_for nodes zero (l ∷ layouts) = refl
owners_for nodes (suc d) (l ∷ layouts) = owners_for nodes d layouts

-- the local part of an array, by local addresses
pub part_by_place : (arrays : List ArrayFacts) (layouts : List LayoutName) (store : List (List ℤ)) (nodes node array extent : ℕ)
    → extent ≡ layout_extent layouts (array_at arrays array).decomposition
    → map (λ k. value_on arrays store array (element_of Block extent nodes node k)) (below (length_of Block extent nodes node))
    ≡ part_of arrays (block_owners nodes layouts) store node array
part_by_place arrays layouts store nodes node array extent e =
    let d = (array_at arrays array).decomposition in
    map-map (value_on arrays store array) (element_of Block extent nodes node) (below (length_of Block extent nodes node))
    ∙ ap (map (value_on arrays store array)) (elements_by_place Block extent nodes node
    ∙ ap (λ n. elements_of Block n nodes node) e
    ∙ sym (elements_on-regular Block (layout_extent layouts d) nodes node)
    ∙ ap (λ owners. elements_on owners node) (sym (owners_for nodes d layouts)))

-- an array of a decomposition without elements has no local part
pub part_of_none : (arrays : List ArrayFacts) (layouts : List LayoutName) (store : List (List ℤ)) (nodes node array extent : ℕ)
    → extent ≡ layout_extent layouts (array_at arrays array).decomposition
    → extent ≡ 0 → part_of arrays (block_owners nodes layouts) store node array ≡ []
part_of_none arrays layouts store nodes node array extent e none =
    let d = (array_at arrays array).decomposition in
    ap (map (value_on arrays store array))
    (ap (λ owners. elements_on owners node) (owners_for nodes d layouts) ∙ elements_on-regular Block (layout_extent layouts d) nodes node
    ∙ ap (λ n. elements_of Block n nodes node) (sym e ∙ none))
