-- What a node tells of its elements' parts, and what node 0 writes.
use Rattle.std.specs.Prelude.{ℕ, ◌%◌, ◌==◌, ◌&&◌, ℤ, pos, if◌then◌else◌, List, [], ◌∷◌, ◌++◌, fold, int_le, replicate, slice_set}
use Rattle.std.specs.Prelude.{unsigned_abs}
use Rattle.std.specs.Fmt.{signed_decimal}
use Rattle.std.specs.List.{flat_map}
use Rattle.chaos_letter.specs.declared.letter.Letter.{Letter}
use Rattle.chaos_dist.specs.Counting.{below}
use Rattle.chaos_dist.specs.Layout.{element_of, length_of, local_of}
use Rattle.chaos_dist.specs.declared.shape.Shape.TheVariants.{Block}
use Rattle.bisect_node.specs.Indexed.{filter_from}
use Rattle.bisect_node.specs.Steps.{number_at}
use Rattle.bisect_node.specs.declared.pieces.Piece.{Piece}

-- the part at the place of an element, if there is such an element
abbrev pub marked : ℕ → ℕ → ℕ → List ℤ → ℤ → List ℤ
marked count nodes part parts element =
    if int_le (pos 1) element && int_le element (pos count)
    then slice_set parts (local_of Block count nodes (unsigned_abs element)) (pos part)
    else parts

abbrev pub marked_all : ℕ → ℕ → ℕ → List ℤ → List ℤ → List ℤ
marked_all count nodes part parts elements = fold (marked count nodes part) parts elements

abbrev pub marked_pieces : ℕ → ℕ → List ℤ → List Piece → List ℤ
marked_pieces count nodes parts pieces = fold (λ marks piece. marked_all count nodes piece.first marks piece.elements) parts pieces

abbrev pub parts_on : ℕ → ℕ → ℕ → List Piece → List ℤ
parts_on count nodes me pieces = marked_pieces count nodes (replicate (length_of Block count nodes me) (pos 0)) pieces

-- a node's elements, ascending, each with its part
abbrev pub rows_on : ℕ → ℕ → ℕ → List Piece → List ℤ
rows_on count nodes me pieces =
    let parts = parts_on count nodes me pieces in
    flat_map (λ k. pos (element_of Block count nodes me k) ∷ number_at parts k ∷ []) (below (length_of Block count nodes me))

abbrev pub number_line : ℤ → List ℕ
number_line number = signed_decimal number ++ 10 ∷ []

-- each second number, on a line
abbrev pub lines_of : List ℤ → List ℕ
lines_of rows = flat_map number_line (filter_from (λ k. k % 2 == 1) 0 rows)

-- of the rows of letters, and of a node's own rows and those
abbrev pub lines_told : List Letter → List ℕ
lines_told got = flat_map (λ (letter : Letter). lines_of letter.numbers) got

abbrev pub text_from : List ℤ → List Letter → List ℕ
text_from own got = lines_of own ++ lines_told got
