-- The places under a regular shape are those of its owners.
use Rattle.std.proofs.Common.{◌≡◌, ◌==◌, ℕ, ◌≤◌, List, map, sym, ◌∙◌, subst, length}
use Rattle.std.specs.Prelude.{pos}
use Rattle.chaos_dist.specs.Owners.{regular_owners, owner_in, elements_on}
use Rattle.chaos_dist.specs.OwnersLaws.{owner_in-regular, local_in-regular}
use Rattle.chaos_dist.specs.declared.shape.Shape.{Shape}
use Rattle.chaos_remap.proofs.Composition.{is_kth}
use Rattle.chaos_remap.proofs.Families.{map-same}
use Rattle.plan_run.specs.Held.{place_in}
use Rattle.chaos_moving.specs.Stages.{regular_place}
use Rattle.chaos_moving.proofs.Lists.{map_twice}

place_is : (shape : Shape) (extent nodes g : ℕ) → 1 ≤ g → g ≤ extent → regular_place shape extent nodes (pos g)
    ≡ place_in (regular_owners shape extent nodes) g
place_is shape extent nodes g low high =
    let owner = owner_in-regular shape extent nodes g low high in
    let local = local_in-regular shape extent nodes g low high in
    λ i. record { owner = sym owner i; local = sym local i }

-- of the elements on a node, each with its place
pub places_are : (shape : Shape) (nodes : ℕ) (old : List ℕ) (p extent : ℕ) → length old ≡ extent
    → map (regular_place shape extent nodes) (map pos (elements_on old p)) ≡ map (place_in (regular_owners shape extent nodes))
    (elements_on old p)
places_are shape nodes old p extent size =
    map_twice (regular_place shape extent nodes) pos (elements_on old p)
    ∙ map-same (λ g. regular_place shape extent nodes (pos g)) (place_in (regular_owners shape extent nodes)) (elements_on old p)
    (λ k g e. let h = is_kth (λ g. owner_in old g == p) (length old) k g e in place_is shape extent nodes g h.from_one
    (subst (λ n. g ≤ n) size h.within))
