-- A run keeps the lengths of a store's lists.
use Rattle.std.specs.Prelude.{◌≡◌, refl, ℕ, zero, suc, ◌<◌, ℤ, pos, Bool, true, false, if◌then◌else◌, List, [], ◌∷◌, length, map, fold, zip}
use Rattle.std.specs.Prelude.{slice_set}
use Rattle.std.specs.List.{AllByRecursion}
use Rattle.std.proofs.Common.{ap, sym, ◌∙◌, arith}
use Rattle.std.proofs.lemmas.List.{length-set, length-replicate}
use Rattle.fd_words.specs.Lists.{list_at}
use Rattle.chaos_dist.specs.Homes.{natural}
use Rattle.fd_program.specs.Layouts.{Scene, store_at}
use Rattle.fd_program.specs.Loops.{Write, written, changed, writes_of, after_loop}
use Rattle.fd_program.specs.RunLaws.{IsHistory}
use Rattle.fd_program.specs.Runs.{after_step}
use Rattle.fd_program.specs.Stores.{FitsStore, zeros_of, filled, initial_store, array_at, element, place_of}
use Rattle.fd_program.specs.Trace.{site_at, is_empty_turn}
use Rattle.fd_program.specs.declared.array.ArrayFacts.{ArrayFacts}
use Rattle.fd_program.specs.declared.checked.Checked.{Checked}
use Rattle.fd_program.specs.declared.trace.Step.{Step}
use Rattle.fd_program.specs.declared.trace.Step.TheVariants.{Distribute, Print, Forall}

-- each array has a list of its extent, through the whole run
abbrev pub RunKeepsLengths : Type 0
RunKeepsLengths =
    (s : Scene) (past : List Step) → IsHistory s past → FitsStore s.checked.arrays (store_at s [])
    → FitsStore s.checked.arrays (store_at s past)

-- the files have the extents of the arrays that are read
abbrev pub FitFiles : List ArrayFacts → List (ℤ × List ℤ) → Type 0
FitFiles arrays files = AllByRecursion (λ (f : ℤ × List ℤ). length f.1 ≡ (array_at arrays (natural f.0)).extent) files

abbrev pub InitialStoreFits : Type 0
InitialStoreFits = (c : Checked) (files : List (List ℤ)) → FitFiles c.arrays (zip c.reads files)
    → FitsStore c.arrays (initial_store c files)

-- ---- one list in place of another

same_lengths : (store : List (List ℤ)) (k : ℕ) (values : List ℤ) → (k < length store → length values ≡ length (list_at store k))
    → map length (slice_set store k values) ≡ map length store
same_lengths [] k values h = refl
same_lengths (x ∷ xs) zero values h = ap (λ n. n ∷ map length xs) (h (omega arith))
same_lengths (x ∷ xs) (suc k) values h = ap (λ ns. length x ∷ ns) (same_lengths xs k values (λ less. h (omega (arith, less))))

written_lengths : (ws : List Write) (store : List (List ℤ)) → map length (fold written store ws) ≡ map length store
written_lengths [] store = refl
written_lengths (w ∷ ws) store =
    written_lengths ws (written store w)
    ∙ same_lengths store w.array _ (λ less. length-set (list_at store w.array) (place_of w.subscript)
    (changed w.operator (element store w.array w.subscript) w.value))

step_lengths : (c : Checked) (step : Step) (store : List (List ℤ)) → map length (after_step c step store) ≡ map length store
step_lengths c (Distribute d form) store = refl
step_lengths c (Print array) store = refl
step_lengths c (Forall site turn) store = by (is_empty_turn turn)
  where
    by : (b : Bool) → map length (if b then store else after_loop c.arrays (site_at c.sites site) turn store) ≡ map length store
    by true = refl
    by false = written_lengths (writes_of c.arrays (site_at c.sites site) turn store) store

pub run_keeps_lengths : RunKeepsLengths
run_keeps_lengths s [] history fits = fits
run_keeps_lengths s (step ∷ past) history fits =
    ap (map length) history.0 ∙ step_lengths s.checked step (store_at s past) ∙ run_keeps_lengths s past history.1 fits

-- ---- the lists of a store that fits

fits_place : (arrays : List ArrayFacts) (store : List (List ℤ)) (k : ℕ) → map length store ≡ map (λ (a : ArrayFacts). a.extent) arrays
    → k < length arrays
    → (k < length store) × (length (list_at store k) ≡ (array_at arrays k).extent)
fits_place [] store k e less = absurd (omega arith)
fits_place (a ∷ arrays) [] k e less = cc
fits_place (a ∷ arrays) (x ∷ xs) zero e less = (omega arith, cc)
fits_place (a ∷ arrays) (x ∷ xs) (suc k) e less =
    let tail : map length xs ≡ map (λ (a : ArrayFacts). a.extent) arrays = cc in
    let rest = fits_place arrays xs k tail (omega (arith, less)) in
    let more : k < length xs = rest.0 in
    (omega (arith, more), rest.1)

-- a store that fits has each array's list, of the array's extent
pub length-list_at : (arrays : List ArrayFacts) (store : List (List ℤ)) (array : ℕ) → FitsStore arrays store → array < length arrays
    → (array < length store) × (length (list_at store array) ≡ (array_at arrays array).extent)
length-list_at arrays store array fits less = fits_place arrays store array fits less

zeros_fit : (arrays : List ArrayFacts) → FitsStore arrays (zeros_of arrays)
zeros_fit [] = refl
zeros_fit (a ∷ arrays) = ap (λ n. n ∷ map length (zeros_of arrays)) (length-replicate a.extent (pos 0))
    ∙ ap (λ ns. a.extent ∷ ns) (zeros_fit arrays)

listed_extent : (arrays : List ArrayFacts) (store : List (List ℤ)) (k : ℕ) → map length store ≡ map (λ (a : ArrayFacts). a.extent) arrays
    → k < length store
    → length (list_at store k) ≡ (array_at arrays k).extent
listed_extent arrays [] k e less = absurd (omega arith)
listed_extent [] (x ∷ xs) k e less = cc
listed_extent (a ∷ arrays) (x ∷ xs) zero e less = cc
listed_extent (a ∷ arrays) (x ∷ xs) (suc k) e less =
    let tail : map length xs ≡ map (λ (a : ArrayFacts). a.extent) arrays = cc in listed_extent arrays xs k tail (omega (arith, less))

filled_fits : (arrays : List ArrayFacts) (store : List (List ℤ)) (files : List (ℤ × List ℤ)) → FitFiles arrays files
    → FitsStore arrays store → FitsStore arrays (fold filled store files)
filled_fits arrays store [] h fits = fits
filled_fits arrays store (f ∷ files) h fits =
    filled_fits arrays (filled store f) files h.1
    (same_lengths store (natural f.0) f.1 (λ less. h.0 ∙ sym (listed_extent arrays store (natural f.0) fits less)) ∙ fits)

pub initial_store_fits : InitialStoreFits
initial_store_fits c files h = filled_fits c.arrays (zeros_of c.arrays) (zip c.reads files) h (zeros_fit c.arrays)
