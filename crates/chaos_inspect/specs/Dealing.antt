-- Numbers drawn from lists, each from its front.
use Rattle.std.specs.Prelude.{ℕ, ◌+◌, ℤ, if◌then◌else◌, nat_lt, List, [], ◌∷◌, length, slice_set}
use Rattle.std.specs.List.{slice_index_or}
use Rattle.fd_words.specs.Lists.{list_at}
use Rattle.fd_program.specs.Stores.{number_at}

-- how many numbers of the list at a place are drawn, once one more is
abbrev pub one_drawn : List (List ℤ) → List ℕ → ℕ → List ℕ
one_drawn lists drawn at =
    let count = slice_index_or drawn at 0 in
    if nat_lt count (length (list_at lists at)) then slice_set drawn at (count + 1) else drawn

-- one number for each key, from the front of the list at it; `drawn` has how many are drawn of each before
abbrev pub numbers_drawn : List (List ℤ) → List ℕ → List ℕ → List ℤ
numbers_drawn lists drawn [] = []
numbers_drawn lists drawn (k ∷ ks) = number_at
    (list_at lists k) (slice_index_or drawn k 0) ∷ numbers_drawn lists (one_drawn lists drawn k) ks
