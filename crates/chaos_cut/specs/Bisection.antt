-- Recursive coordinate bisection, after Berger and Bokhari, as the partitioners of CHAOS have it: elements that stand in space are cut
-- into parts, each cut along the axis of the greatest spread.
use Rattle.std.specs.Prelude.{ℕ, zero, suc, ◌+◌, ◌-◌, ◌*◌, ◌/◌, ◌%◌, ◌^◌, ◌&&◌, ◌||◌, ℤ, pos, negsuc, ◌-ℤ◌, Bool, not, if◌then◌else◌, List}
use Rattle.std.specs.Prelude.{[], ◌∷◌, length, map, filter, fold, flat_map, min, nat_lt, nat_le, int_lt, slice_get, unwrap_or, count_by}
use Rattle.std.specs.Int.{int_min, int_max}
use Rattle.std.specs.Ordering.{int_eq}
use Rattle.chaos_dist.specs.Counting.{up_to, below}

-- ---- axes

-- for each axis the coordinates of the elements 1, 2 and so on
abbrev pub Axes : Type 0
Axes = List (List ℤ)

abbrev pub axis_at : Axes → ℕ → List ℤ
axis_at axes at = unwrap_or (slice_get axes at) []

abbrev pub coordinate : List ℤ → ℕ → ℤ
coordinate axis g = unwrap_or (slice_get axis (g - 1)) (pos 0)

-- element h stands before element g: its coordinate is lower, or the same and its number is lower
abbrev pub is_before : List ℤ → ℕ → ℕ → Bool
is_before axis g h = int_lt (coordinate axis h) (coordinate axis g) || (int_eq (coordinate axis h) (coordinate axis g) && nat_lt h g)

-- how many of these stand before g
abbrev pub count_before : List ℤ → List ℕ → ℕ → ℕ
count_before axis elements g = count_by (is_before axis g) elements

-- ---- spread

-- the least and the greatest coordinate; of none the greatest and the least signed number of 64 bits
abbrev pub least_of : List ℤ → List ℕ → ℤ
least_of axis elements = fold (λ least g. int_min least (coordinate axis g)) (pos (2 ^ 63 - 1)) elements

abbrev pub greatest_of : List ℤ → List ℕ → ℤ
greatest_of axis elements = fold (λ greatest g. int_max greatest (coordinate axis g)) (negsuc (2 ^ 63 - 1)) elements

abbrev pub spread_of : List ℤ → List ℕ → ℤ
spread_of axis elements = greatest_of axis elements -ℤ least_of axis elements

-- the place of the first greatest number, where the greatest of those before stands at `best`
abbrev pub first_greatest_from : ℕ → ℤ → ℕ → List ℤ → ℕ
first_greatest_from best most at [] = best
first_greatest_from best most at (n ∷ rest) =
    if int_lt most n then first_greatest_from at n (at + 1) rest else first_greatest_from best most (at + 1) rest

abbrev pub first_greatest : List ℤ → ℕ
first_greatest [] = 0
first_greatest (n ∷ rest) = first_greatest_from 0 n 1 rest

-- the axis of the greatest spread, the first on a tie
abbrev pub widest_axis : Axes → List ℕ → ℕ
widest_axis axes elements = first_greatest (map (λ axis. spread_of axis elements) axes)

-- ---- one cut

-- elements that get the parts from `first` on
pub record Region : Type 0 where
  pub first : ℕ
  pub parts : ℕ
  pub elements : List ℕ

-- of m elements for p parts so many go to the first p div 2 parts
abbrev pub first_size : ℕ → ℕ → ℕ
first_size m p = p / 2 * (m / p) + min (p / 2) (m % p)

-- so many of a region's elements go to its first half
abbrev pub cut_size : Region → ℕ
cut_size region = first_size (length region.elements) region.parts

-- the axis that a region is cut along, and whether an element goes to its first half
abbrev pub cut_axis : Axes → Region → List ℤ
cut_axis axes region = axis_at axes (widest_axis axes region.elements)

abbrev pub goes_first : Axes → Region → ℕ → Bool
goes_first axes region g = nat_lt (count_before (cut_axis axes region) region.elements g) (cut_size region)

abbrev pub first_half : Axes → Region → Region
first_half axes region = record {
  first = region.first;
  parts = region.parts / 2;
  elements = filter (goes_first axes region) region.elements;
}

abbrev pub second_half : Axes → Region → Region
second_half axes region = record {
  first = region.first + region.parts / 2;
  parts = region.parts - region.parts / 2;
  elements = filter (λ g. not (goes_first axes region g)) region.elements;
}

-- ---- the map

-- the part of an element of a region that is cut at most `depth` times
abbrev pub part_in : Axes → ℕ → Region → ℕ → ℕ
part_in axes zero region g = region.first
part_in axes (suc depth) region g =
    if nat_le region.parts 1 then region.first
    else if goes_first axes region g then part_in axes depth (first_half axes region) g
    else part_in axes depth (second_half axes region) g

-- so many cuts lead to up to 64 parts: the least number with 2 to its power at least the parts
abbrev pub levels_of : ℕ → ℕ
levels_of parts = count_by (λ k. nat_lt (2 ^ k) parts) (below 6)

abbrev pub part_of : Axes → Region → ℕ → ℕ
part_of axes region g = part_in axes (levels_of region.parts) region g

-- all elements
abbrev pub whole : ℕ → ℕ → Region
whole parts count = record { first = 0; parts = parts; elements = up_to count }

-- the part of each element
abbrev pub map_of : Axes → ℕ → ℕ → List ℕ
map_of axes parts count = map (part_of axes (whole parts count)) (up_to count)

-- ---- level by level

abbrev pub halves : Axes → Region → List Region
halves axes region = if nat_le region.parts 1 then region ∷ [] else first_half axes region ∷ second_half axes region ∷ []

abbrev pub regions_at : Axes → ℕ → ℕ → ℕ → List Region
regions_at axes parts count zero = whole parts count ∷ []
regions_at axes parts count (suc level) = flat_map (halves axes) (regions_at axes parts count level)
