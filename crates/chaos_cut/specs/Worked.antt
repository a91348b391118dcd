-- Axes of worked bisections.
use Rattle.std.specs.Prelude.{ℕ, ◌-◌, ◌^◌, ℤ, pos, negsuc, List, [], ◌∷◌, map}
use Rattle.chaos_cut.specs.Bisection.{Axes}

abbrev pub axis_of : List ℕ → List ℤ
axis_of numbers = map pos numbers

-- eight elements on a line
abbrev pub line : Axes
line = axis_of (5 ∷ 1 ∷ 5 ∷ 3 ∷ 9 ∷ 2 ∷ 5 ∷ 5 ∷ []) ∷ []

-- the corners of a rectangle and its middle
abbrev pub rectangle : Axes
rectangle = axis_of (0 ∷ 0 ∷ 4 ∷ 4 ∷ 2 ∷ []) ∷ axis_of (0 ∷ 10 ∷ 0 ∷ 10 ∷ 5 ∷ []) ∷ []

-- the greatest and the least signed number of 64 bits
abbrev pub most : ℤ
most = pos (2 ^ 63 - 1)

abbrev pub lowest : ℤ
lowest = negsuc (2 ^ 63 - 1)

-- on the second axis a spread of 2^64 - 1
abbrev pub wide : Axes
wide = axis_of (1 ∷ 0 ∷ 5 ∷ 4 ∷ []) ∷ (pos 3 ∷ lowest ∷ most ∷ pos 1 ∷ []) ∷ []

-- all in one point
abbrev pub point : Axes
point = axis_of (0 ∷ 0 ∷ 0 ∷ 0 ∷ []) ∷ axis_of (0 ∷ 0 ∷ 0 ∷ 0 ∷ []) ∷ []

abbrev pub square : Axes
square = axis_of (0 ∷ 1 ∷ 0 ∷ 1 ∷ []) ∷ axis_of (0 ∷ 0 ∷ 1 ∷ 1 ∷ []) ∷ []

abbrev pub space : Axes
space =
    axis_of (1 ∷ 2 ∷ 3 ∷ 4 ∷ 5 ∷ 6 ∷ 7 ∷ 8 ∷ [])
    ∷ axis_of (0 ∷ 9 ∷ 0 ∷ 9 ∷ 0 ∷ 9 ∷ 0 ∷ 9 ∷ [])
    ∷ (pos 5 ∷ pos 5 ∷ pos 5 ∷ pos 5 ∷ negsuc 4 ∷ negsuc 4 ∷ negsuc 4 ∷ negsuc 4 ∷ [])
    ∷ []
