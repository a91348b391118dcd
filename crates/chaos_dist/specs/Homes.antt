-- Homes of iterations, by numbers alone.
use Rattle.std.specs.Prelude.{ℕ, ◌/◌, ℤ, pos, negsuc, ◌+ℤ◌, ◌-ℤ◌, Bool, ◌==◌, nat_le, List, find, count_by, unwrap_or}
use Rattle.std.specs.List.{list_all}
use Rattle.chaos_dist.specs.Layout.{divided_up}
use Rattle.chaos_dist.specs.Counting.{below}

-- a number that isn't negative as it is, else 0
abbrev pub natural : ℤ → ℕ
natural (pos n) = n
natural (negsuc n) = 0

-- the node that inspects iteration i: the range low to high in blocks
abbrev pub provisional_of : ℤ → ℤ → ℕ → ℤ → ℕ
provisional_of low high nodes i = natural (i -ℤ low) / divided_up (natural (high -ℤ low +ℤ pos 1)) nodes

-- no node is more often among the owners
abbrev pub is_most : ℕ → List ℕ → ℕ → Bool
is_most nodes owners node = list_all (λ m. nat_le (count_by (λ o. o == m) owners) (count_by (λ o. o == node) owners)) (below nodes)

-- the lowest such node
abbrev pub most_of : ℕ → List ℕ → ℕ
most_of nodes owners = unwrap_or (find (is_most nodes owners) (below nodes)) 0
