-- Layouts worked by hand.
use Rattle.std.proofs.Common.{◌≡◌, refl, ℕ, List, [], ◌∷◌, pos, negsuc, map}
use Rattle.chaos_dist.specs.Counting.{up_to}
use Rattle.chaos_dist.specs.Layout.{elements_of}
use Rattle.chaos_dist.specs.Owners.{mapped_owners, local_in, elements_on, counts_on_page}
use Rattle.chaos_dist.specs.Homes.{most_of, provisional_of}
use Rattle.chaos_dist.specs.declared.shape.Shape.TheVariants.{Block, Cyclic, BlockCyclic}

-- five elements on two nodes
five_in_blocks : elements_of Block 5 2 1 ≡ 4 ∷ 5 ∷ []
five_in_blocks = refl

five_in_turn : elements_of Cyclic 5 2 0 ≡ 1 ∷ 3 ∷ 5 ∷ []
five_in_turn = refl

-- seven in runs of two
seven_in_runs : elements_of (BlockCyclic 2) 7 2 1 ≡ 3 ∷ 4 ∷ 7 ∷ []
seven_in_runs = refl

-- a map with the values -1 7 0 2, on four nodes
abbrev owners : List ℕ
owners = mapped_owners 4 (negsuc 0 ∷ pos 7 ∷ pos 0 ∷ pos 2 ∷ [])

mapped_owners_of_four : owners ≡ 3 ∷ 3 ∷ 0 ∷ 2 ∷ []
mapped_owners_of_four = refl

mapped_locals_of_four : map (local_in owners) (up_to 4) ≡ 0 ∷ 1 ∷ 0 ∷ 0 ∷ []
mapped_locals_of_four = refl

mapped_elements_of_four : elements_on owners 3 ≡ 1 ∷ 2 ∷ []
mapped_elements_of_four = refl

counts_of_four : counts_on_page 4 1 owners ≡ 0 ∷ 0 ∷ 0 ∷ 1 ∷ []
counts_of_four = refl

-- the most of the owners 3 1 1 3 is node 1
tie : most_of 4 (3 ∷ 1 ∷ 1 ∷ 3 ∷ []) ≡ 1
tie = refl

-- the iterations -2 to 4 on three nodes
blocks_of_three : map (provisional_of (negsuc 1) (pos 4) 3) (negsuc 1 ∷ pos 0 ∷ pos 1 ∷ pos 4 ∷ []) ≡ 0 ∷ 0 ∷ 1 ∷ 2 ∷ []
blocks_of_three = refl
