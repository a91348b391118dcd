-- A conflict as a letter's numbers.
use Rattle.std.specs.Prelude.{◌^◌, ℤ, pos, List, [], ◌∷◌, Option, Some, None, unsigned_abs}
use Rattle.std.specs.Int.{w64, cast_signed, cast_unsigned, int_rem_euclid}
use Rattle.chaos_conflict.specs.declared.conflict.Conflict.{Conflict}

-- the numbers of a vote
abbrev pub clash_numbers_of : Option Conflict → List ℤ
clash_numbers_of None = []
clash_numbers_of (Some c) = c.first ∷ c.second ∷ pos c.reference ∷ cast_signed w64 c.element ∷ []

-- the vote that has these numbers; of a third number that is no reference its remainder by 2^32, of the fourth its 64 bits
abbrev pub read_clash : List ℤ → Option Conflict
read_clash (first ∷ second ∷ reference ∷ element ∷ []) =
    Some (record {
      first = first;
      second = second;
      reference = unsigned_abs (int_rem_euclid reference (pos (2 ^ 32)));
      element = cast_unsigned w64 element;
    })
read_clash _ = None
