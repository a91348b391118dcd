-- What decides a cut, step by step: the wider of two axes, and the next bit of a key.
use Rattle.std.specs.Prelude.{ℕ, ◌+◌, ◌-◌, ◌^◌, ℤ, pos, if◌then◌else◌, int_lt, min}
use Rattle.chaos_cut.specs.declared.choices.Extent.{Extent}

abbrev pub extent_of : ℕ → ℤ → Extent
extent_of axis width = record { axis = axis; width = width }

abbrev pub wider_of : Extent → Extent → Extent
wider_of first next = if int_lt first.width next.width then next else first

-- the number that is tried next
abbrev pub tried : ℕ → ℕ → ℕ
tried power found = min (found + power) (2 ^ 128 - 1)

-- the number found so far, or what is tried where still fewer than the goal are below
abbrev pub next_by : ℕ → ℕ → ℤ → ℕ → ℕ
next_by found power below goal = if int_lt below (pos goal) then tried power found else found
