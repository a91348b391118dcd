-- Particles of worked moves.
use Rattle.std.specs.Prelude.{ℕ, ◌-◌, ◌^◌, ℤ, pos, negsuc, List, [], ◌∷◌, length, map}
use Rattle.chaos_dist.specs.Counting.{up_to}
use Rattle.chaos_bins.specs.Bins.{Particles, sorted, values_in}
use Rattle.chaos_bins.specs.Plan.{AppendPlan}

abbrev pub particles_of : List ℕ → List ℤ → Particles
particles_of bins values = record { count = length bins; bins = map pos bins; values = values }

-- for each bin the sorted values at the end
abbrev pub bins_after : ℕ → ℕ → Particles → List (List ℤ)
bins_after bins steps particles = map (λ b. sorted (values_in bins steps particles b)) (up_to bins)

-- -1, and the greatest and the least signed number of 64 bits
abbrev pub minus_one : ℤ
minus_one = negsuc 0

abbrev pub most : ℤ
most = pos (2 ^ 63 - 1)

abbrev pub lowest : ℤ
lowest = negsuc (2 ^ 63 - 1)

abbrev pub five_in_bins : Particles
five_in_bins = particles_of (1 ∷ 1 ∷ 2 ∷ 3 ∷ 3 ∷ []) (pos 5 ∷ minus_one ∷ pos 5 ∷ pos 0 ∷ pos 5 ∷ [])

abbrev pub far : Particles
far = particles_of (1 ∷ 2 ∷ 3 ∷ 1 ∷ []) (most ∷ lowest ∷ minus_one ∷ pos 0 ∷ [])

-- some are equal in bin and value
abbrev pub equals : Particles
equals = particles_of (1 ∷ 1 ∷ 1 ∷ 4 ∷ 4 ∷ 2 ∷ []) (pos 2 ∷ pos 2 ∷ pos 2 ∷ negsuc 1 ∷ negsuc 1 ∷ pos 2 ∷ [])

abbrev pub mixed : Particles
mixed =
    particles_of (1 ∷ 2 ∷ 3 ∷ 4 ∷ 5 ∷ 6 ∷ 7 ∷ 1 ∷ 1 ∷ [])
    (pos 1 ∷ negsuc 7 ∷ pos 3 ∷ pos 3 ∷ pos 3 ∷ negsuc 2 ∷ pos 0 ∷ pos 1 ∷ pos 13 ∷ [])

-- five particles on two nodes, one step
abbrev pub five_plan : AppendPlan
five_plan = record { bins = 3; steps = 1; nodes = 2; particles = five_in_bins }
