-- Coordinates that files give are signed numbers of 64 bits, as many as there are elements.
use Rattle.std.specs.Prelude.{◌≡◌, ℕ, zero, suc, ℤ, pos, neg_ℤ, ◌+◌, ◌-◌, ◌^◌, ◌≤◌, ◌<◌, ◌==◌, Bool, true, false, if◌then◌else◌, nat_le}
use Rattle.std.specs.Prelude.{List, [], ◌∷◌, length, Option, Some, None, Result, Ok, Err, slice_get, unwrap_or, FitsSigned}
use Rattle.std.specs.Int.{w64}
use Rattle.std.specs.List.{AllByRecursion}
use Rattle.std.proofs.Common.{refl, ap, sym, ◌∙◌, subst, arith, get_or, eqb-true}
use Rattle.std.proofs.lemmas.Bool.{leb-true}
use Rattle.fd_data.specs.CsvRows.{records_of}
use Rattle.fd_data.specs.Data.{all_digits, before_rest, core_of, counted, digits_value, in_range, number_in, number_of_only, number_or}
use Rattle.fd_data.specs.Data.{numbers_from, only_of, signed_in, spelled, value_in}
use Rattle.fd_data.specs.declared.field.Spelled.{Spelled}
use Rattle.fd_data.specs.declared.field.Spelled.TheVariants as spelled_as
use Rattle.fd_data.specs.declared.read.DataFault.{DataFault}
use Rattle.fd_data.specs.declared.read.DataFault.TheVariants as fault
use Rattle.fd_edge.specs.Files.{Reads}
use Rattle.fd_edge.specs.Readings.{Told}
use Rattle.chaos_cut.specs.Regions.{AreSigned}
use Rattle.chaos_rcb.specs.Columns.{AreRead}

below_zero : (n : ℕ) → n ≤ 2 ^ 63 → FitsSigned w64 (neg_ℤ (pos n))
below_zero n few = search (arith, few)

from_zero : (n : ℕ) → n ≤ 2 ^ 63 - 1 → FitsSigned w64 (pos n)
from_zero n few = search (arith, few)

-- ---- a number that a field spells

in_64 : (minus : Bool) (n : ℕ) (v : ℤ) → in_range minus n ≡ spelled_as.Value v → FitsSigned w64 v
in_64 true n v e = by (nat_le n (2 ^ 63)) refl e
  where
    by : (b : Bool) → nat_le n (2 ^ 63) ≡ b → (if b then spelled_as.Value (neg_ℤ (pos n)) else spelled_as.OutOfRange) ≡ spelled_as.Value v
        → FitsSigned w64 v
    by true few f = let same : neg_ℤ (pos n) ≡ v = cc in subst (λ z. FitsSigned w64 z) same (below_zero n (leb-true n (2 ^ 63) few))
    by false few f = cc
in_64 false n v e = by (nat_le n (2 ^ 63 - 1)) refl e
  where
    by : (b : Bool) → nat_le n (2 ^ 63 - 1) ≡ b → (if b then spelled_as.Value (pos n) else spelled_as.OutOfRange) ≡ spelled_as.Value v
        → FitsSigned w64 v
    by true few f = let same : pos n ≡ v = cc in subst (λ z. FitsSigned w64 z) same (from_zero n (leb-true n (2 ^ 63 - 1) few))
    by false few f = cc

in_value : (minus : Bool) (digits : List ℕ) (v : ℤ) → value_in minus digits ≡ spelled_as.Value v → FitsSigned w64 v
in_value minus digits v e = by (all_digits digits) e
  where
    by : (b : Bool) → (if b then in_range minus (digits_value digits) else spelled_as.NoNumber) ≡ spelled_as.Value v → FitsSigned w64 v
    by true f = in_64 minus (digits_value digits) v f
    by false f = cc

in_signed : (text : List ℕ) (v : ℤ) → signed_in text ≡ spelled_as.Value v → FitsSigned w64 v
in_signed [] v e = cc
in_signed (c ∷ rest) v e = by (c == 43) (c == 45) e
  where
    by : (a b : Bool) → (if a then value_in false rest else (if b then value_in true rest else value_in false (c ∷ rest)))
        ≡ spelled_as.Value v
        → FitsSigned w64 v
    by true b f = in_value false rest v f
    by false true f = in_value true rest v f
    by false false f = in_value false (c ∷ rest) v f

in_record : (row : ℕ) (o : Option (List ℕ)) (v : ℤ) → number_of_only row o ≡ Ok v → FitsSigned w64 v
in_record row None v e = cc
in_record row (Some field) v e = by (spelled field) refl e
  where
    by : (s : Spelled) → spelled field ≡ s → number_or row s ≡ Ok v → FitsSigned w64 v
    by (spelled_as.Value w) is f = let same : w ≡ v = cc in in_signed (core_of field) v (is ∙ ap spelled_as.Value same)
    by spelled_as.NoNumber is f = cc
    by spelled_as.OutOfRange is f = cc

-- ---- a column

abbrev AllFit : List ℤ → Type 0
AllFit column = AllByRecursion (λ z. FitsSigned w64 z) column

all_fit : (row : ℕ) (records : List (List (List ℕ))) (column : List ℤ) → numbers_from row records ≡ Ok column → AllFit column
all_fit row [] [] e = tt
all_fit row [] (v ∷ vs) e = cc
all_fit row (fields ∷ records) column e = by (number_in row fields) refl (numbers_from (row + 1) records) (all_fit (row + 1) records) e
  where
    by : (r : Result ℤ DataFault) → number_in row fields ≡ r → (rest : Result (List ℤ) DataFault)
        → ((vs : List ℤ) → rest ≡ Ok vs → AllFit vs)
        → before_rest r rest ≡ Ok column → AllFit column
    by (Ok v) is (Ok vs) more f =
        let same : v ∷ vs ≡ column = cc in
        subst AllFit same (in_record row (only_of fields) v is, more vs refl)
    by (Ok v) is (Err x) more f = cc
    by (Err x) is rest more f = cc

counted_is : (extent : ℕ) (r : Result (List ℤ) DataFault) (column : List ℤ) → counted extent r ≡ Ok column
    → (r ≡ Ok column) × (length column ≡ extent)
counted_is extent (Err x) column e = cc
counted_is extent (Ok list) column e = by (length list == extent) refl e
  where
    kept : Result (List ℤ) DataFault
    kept = Ok list

    by : (b : Bool) → (length list == extent) ≡ b → (if b then kept else Err (fault.Count (length list) extent)) ≡ Ok column
        → (kept ≡ Ok column) × (length column ≡ extent)
    by true same f = let is : list ≡ column = cc in (f, ap length (sym is) ∙ eqb-true (length list) extent same)
    by false other f = cc

column_is : (contents : Told) (name : List ℕ) (count : ℕ) (column : List ℤ) → Reads contents name count (Ok column)
    → (length column ≡ count) × AllFit column
column_is contents name count column reads =
    let is = counted_is count (numbers_from 1 (records_of reads.bytes)) column reads.numbers in
    (is.1, all_fit 1 (records_of reads.bytes) column is.0)

-- ---- all columns

columns_are : (contents : Told) (count : ℕ) (names : List (List ℕ)) (columns : List (List ℤ)) → AreRead contents count names columns
    → AllByRecursion (λ column. (length column ≡ count) × AllFit column) columns
columns_are contents count [] [] read = tt
columns_are contents count [] (c ∷ cs) read = absurd read
columns_are contents count (n ∷ ns) [] read = absurd read
columns_are contents count (n ∷ ns) (c ∷ cs) read = (column_is contents n count c read.0, columns_are contents count ns cs read.1)

pub column_count : (contents : Told) (count : ℕ) (names : List (List ℕ)) (columns : List (List ℤ)) → AreRead contents count names columns
    → length names ≡ length columns
column_count contents count [] [] read = refl
column_count contents count [] (c ∷ cs) read = absurd read
column_count contents count (n ∷ ns) [] read = absurd read
column_count contents count (n ∷ ns) (c ∷ cs) read = ap suc (column_count contents count ns cs read.1)

of_each : {X : Type 0} (P Q : X → Type 0) → ((x : X) → P x → Q x) → (xs : List X) → AllByRecursion P xs → (k : ℕ) (d : X) → k < length xs
    → Q (get_or xs k d)
of_each P Q f [] all k d low = absurd (omega (arith, low))
of_each P Q f (x ∷ xs) all zero d low = f x all.0
of_each P Q f (x ∷ xs) all (suc k) d low = of_each P Q f xs all.1 k d (less k (length xs) low)
  where
    less : (k n : ℕ) → suc k < suc n → k < n
    less k n h = omega (arith, h)

pub columns_counted : (contents : Told) (count : ℕ) (names : List (List ℕ)) (columns : List (List ℤ)) → AreRead contents count names columns
    → (k : ℕ) (d : List ℤ) → k < length columns → length (get_or columns k d) ≡ count
columns_counted contents count names columns read =
    of_each (λ column. (length column ≡ count) × AllFit column) (λ column. length column ≡ count) (λ column h. h.0) columns
    (columns_are contents count names columns read)

fits_at : (column : List ℤ) → AllFit column → (k : ℕ) → FitsSigned w64 (unwrap_or (slice_get column k) (pos 0))
fits_at [] all zero = from_zero 0 (omega arith)
fits_at [] all (suc k) = from_zero 0 (omega arith)
fits_at (v ∷ vs) all zero = all.0
fits_at (v ∷ vs) all (suc k) = fits_at vs all.1 k

fits_in : {P : List ℤ → Type 0} (columns : List (List ℤ)) → ((column : List ℤ) → P column → AllFit column) → AllByRecursion P columns
    → (at k : ℕ) → FitsSigned w64 (unwrap_or (slice_get (unwrap_or (slice_get columns at) []) k) (pos 0))
fits_in [] f all zero k = fits_at [] tt k
fits_in [] f all (suc at) k = fits_at [] tt k
fits_in (c ∷ cs) f all zero k = fits_at c (f c all.0) k
fits_in (c ∷ cs) f all (suc at) k = fits_in cs f all.1 at k

pub columns_signed : (contents : Told) (count : ℕ) (names : List (List ℕ)) (columns : List (List ℤ)) → AreRead contents count names columns
    → AreSigned columns
columns_signed contents count names columns read at g =
    fits_in columns (λ column h. h.1) (columns_are contents count names columns read) at (g - 1)
