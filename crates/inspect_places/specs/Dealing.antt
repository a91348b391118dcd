-- Pairs of numbers drawn from lists, each from its front.
use Rattle.std.specs.Prelude.{ℕ, ◌+◌, ◌-◌, ℤ, pos, nat_le, ◌&&◌, if◌then◌else◌, Bool, List, [], ◌∷◌, length, slice_set}
use Rattle.std.specs.List.{slice_index_or}
use Rattle.fd_words.specs.Lists.{list_at}
use Rattle.fd_program.specs.Stores.{number_at}

-- two numbers stand there
abbrev pub has_pair : List ℤ → ℕ → Bool
has_pair list at = nat_le 2 (length list) && nat_le at (length list - 2)

-- the two numbers there, zeros where there aren't two
abbrev pub pair_at : List ℤ → ℕ → ℤ × ℤ
pair_at list at = if has_pair list at then (number_at list at, number_at list (at + 1)) else (pos 0, pos 0)

-- how many numbers of the list at a place are drawn, once a pair more is
abbrev pub pair_drawn : List (List ℤ) → List ℕ → ℕ → List ℕ
pair_drawn lists drawn at =
    let count = slice_index_or drawn at 0 in
    if has_pair (list_at lists at) count then slice_set drawn at (count + 2) else drawn

-- one pair for each key, from the front of the list at it; `drawn` has how many numbers are drawn of each before
abbrev pub draws : List (List ℤ) → List ℕ → List ℕ → List (ℤ × ℤ)
draws lists drawn [] = []
draws lists drawn (k ∷ ks) = pair_at (list_at lists k) (slice_index_or drawn k 0) ∷ draws lists (pair_drawn lists drawn k) ks

-- how many are drawn after them
abbrev pub drawn_after : List (List ℤ) → List ℕ → List ℕ → List ℕ
drawn_after lists drawn [] = drawn
drawn_after lists drawn (k ∷ ks) = drawn_after lists (pair_drawn lists drawn k) ks
