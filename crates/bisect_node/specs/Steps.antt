-- What a node makes of what it knows and of letters, at the ends of phases, whatever the letters are.
use Rattle.std.specs.Prelude.{ℕ, ◌+◌, ◌-◌, ◌*◌, ◌/◌, ◌^◌, ◌&&◌, ℤ, pos, negsuc, ◌+ℤ◌, ◌-ℤ◌, Bool, true, false, not, if◌then◌else◌, List, []}
use Rattle.std.specs.Prelude.{◌∷◌, ◌++◌, map}
use Rattle.std.specs.Prelude.{fold, min, nat_lt, nat_le, int_le, Option, Some, None, slice_get, unwrap_or, count_by, unsigned_abs}
use Rattle.std.specs.Int.{int_max, int_min, saturate_signed, w64}
use Rattle.std.specs.List.{flat_map}
use Rattle.fd_words.specs.Lists.{list_at}
use Rattle.chaos_letter.specs.declared.letter.Letter.{Letter}
use Rattle.chaos_dist.specs.Counting.{below}
use Rattle.chaos_cut.specs.Bisection.{first_greatest, first_size}
use Rattle.chaos_cut.specs.Choices.{next_by, tried}
use Rattle.chaos_cut.specs.Keys.{key_of}
use Rattle.bisect_node.specs.Indexed.{filter_from, map_from}
use Rattle.bisect_node.specs.declared.cuts.Cut.{Cut}
use Rattle.bisect_node.specs.declared.pieces.Piece.{Piece}

-- ---- numbers by place

-- the number at a place, 0 from the end on
abbrev pub number_at : List ℤ → ℕ → ℤ
number_at numbers at = unwrap_or (slice_get numbers at) (pos 0)

abbrev pub number_in : Letter → ℕ → ℤ
number_in letter at = number_at letter.numbers at

-- a node's own number and those of the letters
abbrev pub summed : List ℤ → List Letter → ℕ → ℤ
summed told got at = fold (λ sum x. saturate_signed w64 (sum +ℤ number_in x at)) (number_at told at) got

abbrev pub lesser : List ℤ → List Letter → ℕ → ℤ
lesser told got at = fold (λ least x. int_min least (number_in x at)) (number_at told at) got

abbrev pub greater : List ℤ → List Letter → ℕ → ℤ
greater told got at = fold (λ greatest x. int_max greatest (number_in x at)) (number_at told at) got

-- places don't go beyond 64 bits
abbrev pub place_past : ℕ → ℕ → ℕ
place_past base more = min (base + more) (2 ^ 64 - 1)

-- ---- spread

abbrev pub least_in : List ℤ → ℤ
least_in numbers = fold int_min (pos (2 ^ 63 - 1)) numbers

abbrev pub greatest_in : List ℤ → ℤ
greatest_in numbers = fold int_max (negsuc (2 ^ 63 - 1)) numbers

abbrev pub told_of_piece : List (List ℤ) → List ℤ
told_of_piece coordinates = flat_map (λ axis. least_in axis ∷ greatest_in axis ∷ []) coordinates

-- a region of more than one part is cut
abbrev pub is_open : Piece → Bool
is_open piece = nat_lt 1 piece.parts

abbrev pub spread_if : Piece → List ℤ
spread_if piece = if is_open piece then told_of_piece piece.coordinates else []

abbrev pub told_of_pieces : List Piece → List ℤ
told_of_pieces pieces = flat_map spread_if pieces

-- the spread on an axis, as all have told it of the region whose numbers begin at `base`
abbrev pub spread_told : List ℤ → List Letter → ℕ → ℕ → ℤ
spread_told told got base axis =
    let at = place_past base (2 * axis) in greater told got (place_past at 1) -ℤ lesser told got at

abbrev pub widest : ℕ → List ℤ → List Letter → ℕ → ℕ
widest axes told got base = first_greatest (map (λ axis. spread_told told got base axis) (below axes))

-- ---- cuts

abbrev pub key_at : ℤ → ℤ → ℕ
key_at x element = if int_le (pos 1) element && int_le element (pos 1048576) then key_of x (unsigned_abs element) else 0

abbrev pub keys_by : List ℤ → List ℤ → List ℕ
keys_by axis elements = map_from (λ k element. key_at (number_at axis k) element) 0 elements

abbrev pub cut_by : ℕ → List ℤ → List Letter → ℕ → Piece → Cut
cut_by axes told got base piece = record {
  goal = first_size piece.size piece.parts;
  keys = keys_by (list_at piece.coordinates (widest axes told got base)) piece.elements;
}

-- the cuts of the regions that are cut, whose numbers begin at `base`
abbrev pub cuts_from : ℕ → List ℤ → List Letter → ℕ → List Piece → List Cut
cuts_from axes told got base [] = []
cuts_from axes told got base (piece ∷ rest) =
    if is_open piece then cut_by axes told got base piece ∷ cuts_from axes told got (place_past base (2 * axes)) rest
    else cuts_from axes told got base rest

-- ---- keys below candidates

abbrev pub found_or_none : List ℕ → ℕ → ℕ
found_or_none found at = unwrap_or (slice_get found at) 0

abbrev pub count_under : List ℕ → ℕ → ℤ
count_under keys under = pos (count_by (λ key. nat_lt key under) keys)

abbrev pub counted : ℕ → List Cut → List ℕ → List ℤ
counted power cuts found = map_from (λ at cut. count_under cut.keys (tried power (found_or_none found at))) 0 cuts

abbrev pub found_by : ℕ → List ℤ → List Letter → List Cut → List ℕ → List ℕ
found_by power told got cuts found = map_from (λ at cut. next_by (found_or_none found at) power (summed told got at) cut.goal) 0 cuts

-- ---- halves

-- whether an element goes to the first half, or to the second, by its key
abbrev pub goes_by : Bool → ℕ → Option ℕ → Bool
goes_by first found None = not first
goes_by true found (Some key) = nat_le key found
goes_by false found (Some key) = nat_lt found key

abbrev pub goes : Bool → List ℕ → ℕ → ℕ → Bool
goes first keys found k = goes_by first found (slice_get keys k)

abbrev pub kept : Bool → List ℕ → ℕ → List ℤ → List ℤ
kept first keys found numbers = filter_from (λ k. goes first keys found k) 0 numbers

abbrev pub kept_lists : Bool → List ℕ → ℕ → List (List ℤ) → List (List ℤ)
kept_lists first keys found lists = map (λ axis. kept first keys found axis) lists

abbrev pub first_piece : Cut → ℕ → Piece → Piece
first_piece cut found piece = record {
  first = piece.first;
  parts = piece.parts / 2;
  size = cut.goal;
  elements = kept true cut.keys found piece.elements;
  coordinates = kept_lists true cut.keys found piece.coordinates;
}

abbrev pub second_piece : Cut → ℕ → Piece → Piece
second_piece cut found piece = record {
  first = min (piece.first + piece.parts / 2) (2 ^ 32 - 1);
  parts = piece.parts - piece.parts / 2;
  size = piece.size - cut.goal;
  elements = kept false cut.keys found piece.elements;
  coordinates = kept_lists false cut.keys found piece.coordinates;
}

abbrev pub no_cut : Cut
no_cut = record { goal = 0; keys = [] }

abbrev pub cut_or_none : List Cut → ℕ → Cut
cut_or_none cuts at = unwrap_or (slice_get cuts at) no_cut

abbrev pub halves_by : List Cut → List ℕ → ℕ → Piece → List Piece
halves_by cuts found at piece =
    first_piece (cut_or_none cuts at) (found_or_none found at) piece ∷ second_piece (cut_or_none cuts at) (found_or_none found at) piece
    ∷ []

-- both halves of each region that is cut, and the others as they are
abbrev pub cut_pieces : List Cut → List ℕ → ℕ → List Piece → List Piece
cut_pieces cuts found at [] = []
cut_pieces cuts found at (piece ∷ rest) =
    if is_open piece then halves_by cuts found at piece ++ cut_pieces cuts found (at + 1) rest
    else piece ∷ cut_pieces cuts found at rest
