-- Files that are read one after another.
use Rattle.std.proofs.Common.{◌≡◌, ℕ, ◌+◌, List, length, Result, Ok, Err, ap, sym, ◌∙◌, subst, arith, refl}
use Rattle.std.specs.Prelude.{ℤ, ◌==◌, Bool, true, false, cond, IfOk, codes}
use Rattle.std.proofs.lemmas.Bool.Decides.{nat_tests}
use Rattle.fd_outside.specs.Causes.{NoneFell}
use Rattle.fd_words.specs.declared.wanting.Memory as wanting
use Rattle.fd_data.specs.Data.{counted, numbers_from}
use Rattle.fd_data.specs.CsvRows.{records_of}
use Rattle.fd_data.specs.declared.read.DataFault.{DataFault}
use Rattle.fd_data.specs.declared.read.DataFault.TheVariants.{Count}
use Rattle.fd_edge.specs.Endings.{StopsAs, stop_of}
use Rattle.fd_edge.specs.EndLaws.{stops_more}
use Rattle.fd_edge.specs.Files.{Reads}
use Rattle.fd_edge.specs.Lines.{record_line}
use Rattle.fd_edge.specs.Readings.{Told, Counts, Reading, reading}
use Rattle.fd_edge.specs.Unusable.{IsUnusable, unusable_within}
use Rattle.fd_edge.specs.declared.ending.Stop.{Stop}
use Rattle.chaos_append.specs.Asked.{AskedToAppend}
use Rattle.chaos_append.specs.Reading.{AreBins, AreRead, IsBinsEnd, ReadingStops, first_outside, in_bins, in_values, no_such_bin}

-- a line as it was to be
pub line_says : (status : ℕ) (line : Result (List ℕ) wanting.Memory) (bytes : List ℕ) → IfOk line (λ l. l ≡ bytes)
    → StopsAs (λ s l. (s ≡ status) × (l ≡ bytes)) (stop_of status line)
line_says status (Ok line) bytes is = (refl, is)
line_says status (Err memory) bytes is = tt

-- the first file gave no numbers
pub no_bins : (w : AskedToAppend) (r : Reading) (stop : Stop) → StopsAs (IsUnusable r w.count w.bin_file) stop
    → StopsAs (ReadingStops w r) stop
no_bins w r stop stops = stops_more (IsUnusable r w.count w.bin_file) (ReadingStops w r) stop (λ status line u. in_bins status line u) stops

-- it gave numbers
pub bins_end : (w : AskedToAppend) (r : Reading) (numbers : List ℤ) (result : Result (List ℤ) Stop)
    → Reads r.contents w.bin_file w.count (Ok numbers)
    → AreBins w.bin_file w.bins numbers result → IsBinsEnd r w result
bins_end w r numbers (Ok firsts) read is = record {
  read = subst (λ l. Reads r.contents w.bin_file w.count (Ok l)) (sym is.0) read;
  within = ap (first_outside w.bins) is.0 ∙ is.1;
}
bins_end w r numbers (Err stop) read is =
    let line = record_line w.bin_file (is.0 + 1) (codes "no such bin") in
    stops_more (λ s l. (s ≡ 66) × (l ≡ line)) (ReadingStops w r) stop
    (λ s l e. subst (λ k. ReadingStops w r k l) (sym e.0) (subst (ReadingStops w r 66) (sym e.1) (no_such_bin numbers read is.0 is.1))) is.2

-- the second file gave no numbers in the rest of a call
pub no_values : (w : AskedToAppend) (contents from_contents : Told) (before from now : Counts) (firsts : List ℤ) (stop : Stop)
    → from_contents ≡ contents → NoneFell before from → AreRead w (reading contents before now) firsts
    → StopsAs (IsUnusable (reading from_contents from now) w.count w.value_file) stop
    → StopsAs (ReadingStops w (reading contents before now)) stop
no_values w contents from_contents before from now firsts stop same none read stops =
    stops_more (IsUnusable (reading from_contents from now) w.count w.value_file) (ReadingStops w (reading contents before now)) stop
    (λ status line u.
    in_values firsts read status line (unusable_within contents from_contents before from now w.count w.value_file status line same none
    u)) stops

-- ---- what was read

counted_is : (extent : ℕ) (r : Result (List ℤ) DataFault) (values : List ℤ) → counted extent r ≡ Ok values → length values ≡ extent
counted_is extent (Err e) values is = cc
counted_is extent (Ok all) values is = by (length all == extent) refl is
  where
    by : (b : Bool) → (length all == extent) ≡ b → cond b (Ok all) (Err (Count (length all) extent)) ≡ Ok values
        → length values ≡ extent
    by true e f =
        let same : all ≡ values = cc in
        let long : length all ≡ extent = equal (length all) extent e in
        sym (ap length same) ∙ long
      where
        equal : (a b : ℕ) → (a == b) ≡ true → a ≡ b
        equal a b e = grind (arith, nat_tests)
    by false e f = cc

-- as many numbers as were asked for
pub as_many : (contents : Told) (name : List ℕ) (count : ℕ) (values : List ℤ) → Reads contents name count (Ok values)
    → length values ≡ count
as_many contents name count values read = counted_is count (numbers_from 1 (records_of read.bytes)) values read.numbers
