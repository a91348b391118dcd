-- Data files worked out: what they hold, or their first fault.
use Rattle.std.proofs.Common.{◌≡◌, ℕ, ℤ, pos, negsuc, List, [], ◌∷◌, ◌++◌, Result, Ok, Err, codes, refl}
use Rattle.csv.proofs.OnLiterals.{csv_on_literals}
use Rattle.std.specs.Fmt.{digits}
use Rattle.fd_data.specs.Data.{data_of}
use Rattle.fd_data.specs.Line.{line_of}
use Rattle.fd_data.specs.declared.read.DataFault.{DataFault}
use Rattle.fd_data.specs.declared.read.DataFault.TheVariants as fault

abbrev text : List ℕ → List ℕ → List ℕ → List ℕ
text first second third = first ++ 10 ∷ second ++ 10 ∷ third ++ 10 ∷ []

abbrev Numbers : Type 0
Numbers = Result (List ℤ) DataFault

pub a_sign_and_blanks : ◌≡◌ {A = Numbers} (data_of (text (codes "2") (codes " +7") (9 ∷ codes "-1 ")) 3)
    (Ok (pos 2 ∷ pos 7 ∷ negsuc 0 ∷ []))
unfolding csv_on_literals
a_sign_and_blanks = refl

pub two_fields : ◌≡◌ {A = Numbers} (data_of (text (codes "2") (codes "1,2") (codes "4")) 4) (Err (fault.Field 2))
unfolding csv_on_literals
two_fields = refl

pub no_number : ◌≡◌ {A = Numbers} (data_of (text (codes "2") (codes "x") (codes "4")) 4) (Err (fault.Number 2))
unfolding csv_on_literals
no_number = refl

pub out_of_range : ◌≡◌ {A = Numbers} (data_of (text (codes "2") (codes "9223372036854775808") (codes "4")) 4) (Err (fault.Range 2))
unfolding csv_on_literals
out_of_range = refl

pub too_few : ◌≡◌ {A = Numbers} (data_of (text (codes "2") (codes "2") (codes "4")) 4) (Err (fault.Count 3 4))
unfolding csv_on_literals
too_few = refl

pub a_line : line_of (codes "Y") (pos 40 ∷ negsuc 9 ∷ []) ≡ codes "Y = 40 -10" ++ 10 ∷ []
unfolding digits
a_line = refl
