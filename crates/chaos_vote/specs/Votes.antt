-- The least of the nodes' offences, and an offence as a letter's numbers.
use Rattle.std.specs.Prelude.{◌≡◌, ⊤, false, All, IfSome, ◌^◌, nat_lt, int_lt, ℤ, pos, ◌+ℤ◌, ◌*ℤ◌, Bool, ◌&&◌, ◌||◌, if◌then◌else◌, List}
use Rattle.std.specs.Prelude.{[], ◌∷◌, Option, Some, None, unsigned_abs}
use Rattle.std.specs.Int.{w64, int_wrap, int_div_euclid, int_rem_euclid}
use Rattle.std.specs.Ordering.{int_eq}
use Rattle.fd_words.specs.declared.place.Offence.{Offence}

-- an offence is less by its iteration, and at one iteration by its reference
abbrev pub is_less : Offence → Offence → Bool
is_less a b = int_lt a.iteration b.iteration || (int_eq a.iteration b.iteration && nat_lt a.reference b.reference)

-- the lesser of two votes, the first where neither is less
abbrev pub lesser : Option Offence → Option Offence → Option Offence
lesser None w = w
lesser (Some a) None = Some a
lesser (Some a) (Some b) = if is_less b a then Some b else Some a

-- the least of the votes
abbrev pub least_of : List (Option Offence) → Option Offence
least_of [] = None
least_of (v ∷ vs) = lesser v (least_of vs)

-- the first vote that isn't none
abbrev pub first_vote : List (Option Offence) → Option Offence
first_vote [] = None
first_vote (None ∷ vs) = first_vote vs
first_vote (Some a ∷ vs) = Some a

-- no later vote is less
abbrev pub AreInOrder : List (Option Offence) → Type 0
AreInOrder [] = ⊤
AreInOrder (v ∷ vs) = All (λ w. IfSome v (λ a. IfSome w (λ b. is_less b a ≡ false))) vs × AreInOrder vs

-- a subscript's halves in two's complement, each as a signed 64-bit number
abbrev pub high_half : ℤ → ℤ
high_half subscript = int_div_euclid subscript (pos (2 ^ 64))

abbrev pub low_half : ℤ → ℤ
low_half subscript = int_wrap w64 subscript

-- the number with these halves
abbrev pub of_halves : ℤ → ℤ → ℤ
of_halves high low = high *ℤ pos (2 ^ 64) +ℤ int_rem_euclid low (pos (2 ^ 64))

-- the numbers of a vote
abbrev pub vote_numbers : Option Offence → List ℤ
vote_numbers None = []
vote_numbers (Some o) = o.iteration ∷ pos o.reference ∷ high_half o.subscript ∷ low_half o.subscript ∷ []

-- the vote that has these numbers; of a second number that is no reference its remainder by 2^32
abbrev pub read_vote : List ℤ → Option Offence
read_vote (iteration ∷ reference ∷ high ∷ low ∷ []) =
    Some (record {
      iteration = iteration;
      reference = unsigned_abs (int_rem_euclid reference (pos (2 ^ 32)));
      subscript = of_halves high low;
    })
read_vote _ = None
