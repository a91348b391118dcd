-- Laws of loading: the store has a list for each array, of its extent; and a load in a part of a call is one in the call.
use Rattle.std.specs.Prelude.{ℤ, Result, Ok, Err, zip, if◌then◌else◌, ◌==◌}
use Rattle.std.proofs.Common.{◌≡◌, ℕ, ◌≤◌, Bool, true, false, List, [], ◌∷◌, length, refl, ap, sym, ◌∙◌, eqb-true, arith}
use Rattle.chaos_dist.specs.Homes.{natural}
use Rattle.fd_outside.specs.Causes.{NoneFell}
use Rattle.fd_data.specs.Data.{counted}
use Rattle.fd_data.specs.declared.read.DataFault.{DataFault}
use Rattle.fd_data.specs.declared.read.DataFault.TheVariants as fault
use Rattle.fd_edge.specs.Readings.{Told, Counts, Reading, reading, rose_within}
use Rattle.fd_load.specs.Files.{file_of}
use Rattle.fd_load.specs.Loads.{AllRead, IsLoaded}
use Rattle.fd_load.specs.declared.store.LoadStop.{LoadStop}
use Rattle.fd_load.specs.declared.store.LoadStop.TheVariants.{Unread, Fault, Memory}
use Rattle.fd_program.specs.Stores.{array_at, FitsStore}
use Rattle.fd_program.specs.StoreLaws.{FitFiles, initial_store_fits}
use Rattle.fd_program.specs.declared.array.ArrayFacts.{ArrayFacts}
use Rattle.fd_program.specs.declared.checked.Checked.{Checked}

counted_length : (extent : ℕ) (r : Result (List ℤ) DataFault) (values : List ℤ) → counted extent r ≡ Ok values → length values ≡ extent
counted_length extent (Err f) values e = cc
counted_length extent (Ok list) values e = by (length list == extent) refl e
  where
    by : (b : Bool) → (length list == extent) ≡ b → (if b then Ok list else Err (fault.Count (length list) extent)) ≡ Ok values
        → length values ≡ extent
    by true same is = let equal : list ≡ values = cc in ap length (sym equal) ∙ eqb-true (length list) extent same
    by false other is = cc

files_fit : (contents : Told) (arrays : List ArrayFacts) (reads : List ℤ) (lists : List (List ℤ)) → AllRead contents arrays reads lists
    → FitFiles arrays (zip reads lists)
files_fit contents arrays [] [] h = tt
files_fit contents arrays [] (values ∷ lists) h = absurd h
files_fit contents arrays (number ∷ numbers) [] h = absurd h
files_fit contents arrays (number ∷ numbers) (values ∷ lists) h =
    (counted_length (array_at arrays (natural number)).extent _ values h.0.numbers, files_fit contents arrays numbers lists h.1)

pub loaded_fits : (r : Reading) (c : Checked) (store : List (List ℤ)) → IsLoaded r c (Ok store) → FitsStore c.arrays store
loaded_fits r c store l =
    let fits = initial_store_fits c l.0 (files_fit r.contents c.arrays c.reads l.0 l.1.0) in
    rw l.1.1 fits

-- a load after an earlier count
pub loaded_earlier : (contents : Told) (before from now : Counts) (c : Checked) (end : Result (List (List ℤ)) LoadStop)
    → NoneFell before from → IsLoaded (reading contents from now) c end → IsLoaded (reading contents before now) c end
loaded_earlier contents before from now c (Ok store) later l = l
loaded_earlier contents before from now c (Err (Unread array)) later l =
    let name = file_of (array_at c.arrays array) in
    (l.0, rose_within (before name) (from name) (now name) (now name) (later name) (at_most (now name)) l.1)
  where
    at_most : (n : ℕ) → n ≤ n
    at_most n = omega arith
loaded_earlier contents before from now c (Err (Fault array fault)) later l = l
loaded_earlier contents before from now c (Err Memory) later l = l
