-- Votes worked by hand.
use Rattle.std.proofs.Common.{◌≡◌, refl, [], ◌∷◌, Some, None, pos, negsuc}
use Rattle.std.specs.Int.{int_wrap}
use Rattle.fd_words.specs.declared.place.Offence.{Offence}
use Rattle.chaos_vote.specs.Votes.{least_of, vote_numbers}

abbrev late : Offence
late = record { iteration = pos 4; reference = 1; subscript = negsuc 0 }

abbrev early : Offence
early = record { iteration = negsuc 2; reference = 5; subscript = pos 18446744073709551615 }

abbrev earlier_reference : Offence
earlier_reference = record { iteration = negsuc 2; reference = 2; subscript = pos 0 }

least_of_three : least_of (Some early ∷ None ∷ Some late ∷ Some earlier_reference ∷ []) ≡ Some earlier_reference
least_of_three = refl

numbers_of_late : vote_numbers (Some late) ≡ pos 4 ∷ pos 1 ∷ negsuc 0 ∷ negsuc 0 ∷ []
unfolding int_wrap
numbers_of_late = refl

numbers_of_early : vote_numbers (Some early) ≡ negsuc 2 ∷ pos 5 ∷ pos 0 ∷ negsuc 0 ∷ []
unfolding int_wrap
numbers_of_early = refl
