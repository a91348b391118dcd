-- Files that are read one after another.
use Rattle.std.proofs.Common.{◌≡◌, ℕ, ◌+◌, ◌<◌, ◌≤◌, List, [], ◌∷◌, ◌++◌, length, take, drop, get_or, refl, ap, sym, ◌∙◌, subst, take_all}
use Rattle.std.proofs.Common.{Err, arith}
use Rattle.std.proofs.lemmas.List.{drop_more, take_more, take-append-drop}
use Rattle.fd_outside.specs.Causes.{NoneFell}
use Rattle.std.specs.Prelude.{ℤ, Ok, fold, zip}
use Rattle.chaos_dist.specs.Homes.{natural}
use Rattle.fd_program.specs.Stores.{array_at, zeros_of, filled}
use Rattle.fd_program.specs.declared.array.ArrayFacts.{ArrayFacts}
use Rattle.fd_program.specs.declared.checked.Checked.{Checked}
use Rattle.fd_edge.specs.Readings.{Told, Counts, reading, rose_within}
use Rattle.fd_load.specs.Files.{file_of, ReadsArray, HasArrayFault}
use Rattle.fd_load.specs.Loads.{AllRead, IsArrayReached, IsLoaded, IsFilled}
use Rattle.fd_load.specs.declared.store.LoadStop.{LoadStop}
use Rattle.fd_load.specs.declared.store.LoadStop.TheVariants.{Unread, Fault, Memory}

-- the store with the numbers of these arrays
pub record Loaded (contents : Told) (c : Checked) (numbers : List ℤ) (store : List (List ℤ)) : Type 0 where
  pub lists : List (List ℤ)
  pub read : AllRead contents c.arrays numbers lists
  pub is : store ≡ fold filled (zeros_of c.arrays) (zip numbers lists)

pub loaded_none : (contents : Told) (c : Checked) (store : List (List ℤ)) → store ≡ zeros_of c.arrays → Loaded contents c [] store
loaded_none contents c store is = record { lists = []; read = tt; is = is }

all_read_more : (contents : Told) (arrays : List ArrayFacts) (numbers : List ℤ) (lists : List (List ℤ)) (number : ℤ) (values : List ℤ)
    → AllRead contents arrays numbers lists → ReadsArray contents (array_at arrays (natural number)) (Ok values)
    → AllRead contents arrays (numbers ++ number ∷ []) (lists ++ values ∷ [])
all_read_more contents arrays [] [] number values all one = (one, tt)
all_read_more contents arrays [] (l ∷ ls) number values all one = absurd all
all_read_more contents arrays (n ∷ ns) [] number values all one = absurd all
all_read_more contents arrays (n ∷ ns) (l ∷ ls) number values all one = (all.0, all_read_more contents arrays ns ls number values all.1 one)

fold_more : (contents : Told) (arrays : List ArrayFacts) (store : List (List ℤ)) (numbers : List ℤ) (lists : List (List ℤ)) (number : ℤ)
    (values : List ℤ)
    → AllRead contents arrays numbers lists
    → fold filled store (zip (numbers ++ number ∷ []) (lists ++ values ∷ [])) ≡ filled (fold filled store (zip numbers lists))
    (number, values)
fold_more contents arrays store [] [] number values all = refl
fold_more contents arrays store [] (l ∷ ls) number values all = absurd all
fold_more contents arrays store (n ∷ ns) [] number values all = absurd all
fold_more contents arrays store (n ∷ ns) (l ∷ ls) number values all = fold_more contents arrays (filled store (n, l)) ns ls number values
    all.1

pub loaded_more : (contents : Told) (c : Checked) (numbers : List ℤ) (store after : List (List ℤ)) (number : ℤ) (values : List ℤ)
    → Loaded contents c numbers store → ReadsArray contents (array_at c.arrays (natural number)) (Ok values)
    → after ≡ filled store (number, values)
    → Loaded contents c (numbers ++ number ∷ []) after
loaded_more contents c numbers store after number values l one e = record {
  lists = l.lists ++ values ∷ [];
  read = all_read_more contents c.arrays numbers l.lists number values l.read one;
  is = e ∙ ap (λ s. filled s (number, values)) l.is
      ∙ sym (fold_more contents c.arrays (zeros_of c.arrays) numbers l.lists number values l.read);
}

take_next : (all : List ℤ) (i : ℕ) (d : ℤ) → i < length all → all ≡ take i all ++ get_or all i d ∷ drop (i + 1) all
take_next all i d less = sym (take-append-drop i all) ∙ ap (λ rest. take i all ++ rest) (drop_more all i d less)

reached : (contents : Told) (c : Checked) (reads : List ℤ) (i : ℕ) (d : ℤ) (store : List (List ℤ)) (array : ℕ)
    → reads ≡ c.reads → i < length reads → Loaded contents c (take i reads) store → array ≡ natural (get_or reads i d)
    → IsArrayReached contents c array
reached contents c reads i d store array same less l is = record {
  before = take i reads;
  number = get_or reads i d;
  after = drop (i + 1) reads;
  split = sym same ∙ take_next reads i d less;
  is = is;
  lists = l.lists;
  read = l.read;
}

-- the first array whose file gave no numbers
pub stopped : (contents middle_contents : Told) (before middle now : Counts) (c : Checked) (reads : List ℤ) (i : ℕ) (d : ℤ)
    (store after : List (List ℤ)) (stop : LoadStop)
    → reads ≡ c.reads → i < length reads → Loaded contents c (take i reads) store → middle_contents ≡ contents → NoneFell before middle
    → IsFilled (reading middle_contents middle now) c (get_or reads i d) store after (Err stop) → IsLoaded (reading contents before now) c
    (Err stop)
stopped contents middle_contents before middle now c reads i d store after (Unread array) same less l same_contents later f =
    let name = file_of (array_at c.arrays array) in (
      reached contents c reads i d store array same less l f.0,
      rose_within (before name) (middle name) (now name) (now name) (later name) (omega arith) f.1,
    )
stopped contents middle_contents before middle now c reads i d store after (Fault array fault) same less l same_contents later f = (
  reached contents c reads i d store array same less l f.0,
  subst (λ told. HasArrayFault told (array_at c.arrays array) fault) same_contents f.1,
)
stopped contents middle_contents before middle now c reads i d store after Memory same less l same_contents later f = tt

-- one more array
pub loaded_next : (contents middle_contents : Told) (middle now : Counts) (c : Checked) (reads : List ℤ) (i : ℕ) (d : ℤ)
    (store after : List (List ℤ)) (u : Unit {0})
    → i < length reads → Loaded contents c (take i reads) store → middle_contents ≡ contents
    → IsFilled (reading middle_contents middle now) c (get_or reads i d) store after (Ok u)
    → Loaded contents c (take (i + 1) reads) after
loaded_next contents middle_contents middle now c reads i d store after u less l same_contents f =
    subst (λ ns. Loaded contents c ns after) (sym (take_more reads i d less))
    (loaded_more contents c (take i reads) store after (get_or reads i d) f.0 l
    (subst (λ told. ReadsArray told (array_at c.arrays (natural (get_or reads i d))) (Ok f.0)) same_contents f.1.0) f.1.1)

-- all of them
pub loaded_all : (contents : Told) (before now : Counts) (c : Checked) (reads : List ℤ) (i : ℕ) (store : List (List ℤ))
    → reads ≡ c.reads → length reads ≤ i → Loaded contents c (take i reads) store → IsLoaded (reading contents before now) c (Ok store)
loaded_all contents before now c reads i store same over l =
    let whole : Loaded contents c c.reads store = subst (λ ns. Loaded contents c ns store) (take_all i reads over ∙ same) l in
    (whole.lists, (whole.read, whole.is))
