-- Particles that move between bins, and what each bin has at the end.
use Rattle.std.specs.Prelude.{ℕ, zero, suc, ◌-◌, ◌==◌, ◌&&◌, ℤ, pos, ◌+ℤ◌, ◌-ℤ◌, ◌*ℤ◌, Bool, if◌then◌else◌, List, [], ◌∷◌, ◌++◌, map}
use Rattle.std.specs.Prelude.{filter, flat_map, int_le, slice_get, unwrap_or, unsigned_abs, codes, decimal}
use Rattle.std.specs.Fmt.{signed_decimal}
use Rattle.std.specs.Int.{int_rem_euclid}
use Rattle.std.specs.Ordering.{int_eq}
use Rattle.chaos_dist.specs.Counting.{up_to}
use Rattle.chaos_dist.specs.Layout.{owner_of}
use Rattle.chaos_dist.specs.declared.shape.Shape.TheVariants.{Block}

-- ---- steps

-- the bin that a particle of this value comes to from bin b in one step
abbrev pub step_from : ℕ → ℤ → ℤ → ℤ
step_from bins v b = int_rem_euclid (b -ℤ pos 1 +ℤ v) (pos bins) +ℤ pos 1

-- its bin after so many single steps
abbrev pub bin_after : ℕ → ℤ → ℤ → ℕ → ℤ
bin_after bins v b zero = b
bin_after bins v b (suc t) = step_from bins v (bin_after bins v b t)

-- its bin after so many steps, at once
abbrev pub final_bin : ℕ → ℕ → ℤ → ℤ → ℤ
final_bin bins steps v b = int_rem_euclid (b -ℤ pos 1 +ℤ pos steps *ℤ v) (pos bins) +ℤ pos 1

-- ---- particles

-- the particles 1 to count: their first bins and their values
pub record Particles : Type 0 where
  pub count : ℕ
  pub bins : List ℤ
  pub values : List ℤ

abbrev pub first_bin : Particles → ℕ → ℤ
first_bin particles i = unwrap_or (slice_get particles.bins (i - 1)) (pos 0)

abbrev pub value : Particles → ℕ → ℤ
value particles i = unwrap_or (slice_get particles.values (i - 1)) (pos 0)

-- the bin of particle i after so many steps
abbrev pub bin_at : ℕ → Particles → ℕ → ℕ → ℤ
bin_at bins particles steps i = final_bin bins steps (value particles i) (first_bin particles i)

-- the values of the particles that are in bin b at the end
abbrev pub values_in : ℕ → ℕ → Particles → ℕ → List ℤ
values_in bins steps particles b =
    map (value particles) (filter (λ i. int_eq (bin_at bins particles steps i) (pos b)) (up_to particles.count))

-- ---- lines

-- an item put before the first that isn't lower
abbrev pub inserted_by : {X : Type 0} → (X → X → Bool) → X → List X → List X
inserted_by le v [] = v ∷ []
inserted_by le v (w ∷ rest) = if le v w then v ∷ w ∷ rest else w ∷ inserted_by le v rest

-- items in ascending order
abbrev pub sorted_by : {X : Type 0} → (X → X → Bool) → List X → List X
sorted_by le [] = []
sorted_by le (v ∷ rest) = inserted_by le v (sorted_by le rest)

-- values in ascending order
abbrev pub sorted : List ℤ → List ℤ
sorted values = sorted_by int_le values

-- pairs of bin and value: by bin, then by value
abbrev pub pair_le : ℤ × ℤ → ℤ × ℤ → Bool
pair_le x y = if int_eq x.0 y.0 then int_le x.1 y.1 else int_le x.0 y.0

-- `bin b:`, a blank and the value for each, the line's end
abbrev pub bin_line : ℕ → List ℤ → List ℕ
bin_line b values = codes "bin " ++ decimal b ++ 58 ∷ flat_map (λ v. 32 ∷ signed_decimal v) values ++ 10 ∷ []

abbrev pub lines_of : ℕ → ℕ → Particles → List ℕ
lines_of bins steps particles = flat_map (λ b. bin_line b (sorted (values_in bins steps particles b))) (up_to bins)

-- ---- nodes: round 0 brings each particle to the owner of its bin, round t does step t

abbrev pub bin_owner : ℕ → ℕ → ℤ → ℕ
bin_owner bins nodes b = owner_of Block bins nodes (unsigned_abs b)

-- the node that has particle i before a round
abbrev pub holder : ℕ → ℕ → Particles → ℕ → ℕ → ℕ
holder bins nodes particles zero i = owner_of Block particles.count nodes i
holder bins nodes particles (suc t) i = bin_owner bins nodes (bin_at bins particles t i)

-- node p has particle i before round t, and node q owns its bin of that round
abbrev pub goes : ℕ → ℕ → Particles → ℕ → ℕ → ℕ → ℕ → Bool
goes bins nodes particles t p q i = (holder bins nodes particles t i == p) && (bin_owner bins nodes (bin_at bins particles t i) == q)

-- bin and value of the particles that go from p to q in round t
abbrev pub moving : ℕ → ℕ → Particles → ℕ → ℕ → ℕ → List (ℤ × ℤ)
moving bins nodes particles t p q =
    map (λ i. (bin_at bins particles t i, value particles i)) (filter (goes bins nodes particles t p q) (up_to particles.count))
