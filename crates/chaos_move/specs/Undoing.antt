-- What writes into lists of numbers keep, and what takes them back.
use Rattle.std.specs.Prelude.{ℤ, List, [], ◌∷◌}
use Rattle.chaos_move.specs.Moves.{put_at}
use Rattle.chaos_move.specs.declared.undo.Kept.{Kept}

-- what stood at a place of a write is there again
abbrev pub put_back : Kept → List (List ℤ) → List (List ℤ)
put_back k lists = put_at lists k.list k.at k.old

-- all writes are taken back, the last first
abbrev pub taken_back : List Kept → List (List ℤ) → List (List ℤ)
taken_back [] lists = lists
taken_back (k ∷ kept) lists = put_back k (taken_back kept lists)
