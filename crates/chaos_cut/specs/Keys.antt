-- Keys, and the key that is found bit by bit.
use Rattle.std.specs.Prelude.{ℕ, zero, suc, ◌+◌, ◌-◌, ◌*◌, ◌^◌, ℤ, pos, ◌+ℤ◌, if◌then◌else◌, List, nat_lt, count_by, unsigned_abs}
use Rattle.chaos_cut.specs.Bisection.{Axes, Region, coordinate, cut_axis, cut_size}

-- a number of 84 bits in the order of coordinate and element
abbrev pub key_of : ℤ → ℕ → ℕ
key_of x g = unsigned_abs (x +ℤ pos (2 ^ 63)) * 2 ^ 20 + (g - 1)

abbrev pub key_in : List ℤ → ℕ → ℕ
key_in axis g = key_of (coordinate axis g) g

-- how many of these have a key below v
abbrev pub keys_below : List ℤ → List ℕ → ℕ → ℕ
keys_below axis elements v = count_by (λ g. nat_lt (key_in axis g) v) elements

-- the number found so far, or with the next lower power where still fewer than c are below
abbrev pub next_found : (ℕ → ℕ) → ℕ → ℕ → ℕ → ℕ
next_found count c power found = if nat_lt (count (found + power)) c then found + power else found

-- the number found after k of so many bits, where `count` tells how many are below a number
abbrev pub found_after : (ℕ → ℕ) → ℕ → ℕ → ℕ → ℕ
found_after count c bits zero = 0
found_after count c bits (suc k) = next_found count c (2 ^ (bits - suc k)) (found_after count c bits k)

-- in a region: what is found after k bits, and what is tried next
abbrev pub found_in : Axes → Region → ℕ → ℕ
found_in axes region k = found_after (keys_below (cut_axis axes region) region.elements) (cut_size region) 84 k

abbrev pub candidate_in : Axes → Region → ℕ → ℕ
candidate_in axes region k = found_in axes region k + 2 ^ (83 - k)
