-- The elements of entries for each owner.
use Rattle.std.specs.Prelude.{ℕ, ℤ, List, filter, not}
use Rattle.std.specs.Int.{w64, cast_signed}
use Rattle.chaos_hash.specs.declared.held.Held.{Held}
use Rattle.chaos_hash.specs.Stamps.{chosen_list, meets}
use Rattle.list_laws.specs.Dealt.{dealt}

-- an element as a signed number: itself where it is below 2^63
abbrev pub number_of : ℕ → ℤ
number_of element = cast_signed w64 element

-- list p has the elements that node p owns, in the order of the entries
abbrev pub by_owner : ℕ → List (ℕ × Held) → List (List ℤ)
by_owner nodes es = dealt (λ e. e.1.place.owner) (λ e. number_of e.0) nodes es

-- the entries with no stamp of the mask
abbrev pub unstamped : ℕ → List (ℕ × Held) → List (ℕ × Held)
unstamped mask es = filter (λ e. not (meets e.1.mask mask)) es

-- the entries with a stamp of the mask and none of the other mask
abbrev pub beyond_list : ℕ → ℕ → List (ℕ × Held) → List (ℕ × Held)
beyond_list mask held es = unstamped held (chosen_list mask es)
