-- Files that are read one after another.
use Rattle.std.proofs.Common.{◌≡◌, ℕ, ◌+◌, ◌<◌, List, [], ◌∷◌, ◌++◌, length, map, take, drop, get_or, Ok, ap, sym, ◌∙◌}
use Rattle.std.specs.Prelude.{ℤ}
use Rattle.std.proofs.lemmas.List.{drop_more, take_more, take-append-drop, map-append}
use Rattle.fd_outside.specs.Causes.{NoneFell}
use Rattle.fd_edge.specs.Endings.{StopsAs}
use Rattle.fd_edge.specs.EndLaws.{stops_more}
use Rattle.fd_edge.specs.Files.{Reads}
use Rattle.fd_edge.specs.Readings.{Told, Counts, reading}
use Rattle.fd_edge.specs.Unusable.{IsUnusable, unusable_within}
use Rattle.fd_edge.specs.declared.ending.Stop.{Stop}
use Rattle.chaos_rcb.specs.Columns.{AreRead, NoColumns}

-- one file more was read
pub all_read : (contents : Told) (count : ℕ) (names : List (List ℕ)) (columns : List (List ℤ)) (name : List ℕ) (column : List ℤ)
    → AreRead contents count names columns → Reads contents name count (Ok column)
    → AreRead contents count (names ++ name ∷ []) (columns ++ column ∷ [])
all_read contents count [] [] name column all one = (one, tt)
all_read contents count [] (c ∷ cs) name column all one = absurd all
all_read contents count (n ∷ ns) [] name column all one = absurd all
all_read contents count (n ∷ ns) (c ∷ cs) name column all one = (all.0, all_read contents count ns cs name column all.1 one)

module _ {X : Type 0} (text : X → List ℕ) (names : List X) (i : ℕ) (item : X) where
  pub names_more : i < length names → item ≡ get_or names i item → map text (take (i + 1) names) ≡ map text (take i names) ++ text item ∷ []
  names_more less is =
      ap (map text) (take_more names i item less ∙ ap (λ x. take i names ++ x ∷ []) (sym is)) ∙ map-append text (take i names) (item ∷ [])

  pub names_split : i < length names → item ≡ get_or names i item
      → map text names ≡ map text (take i names) ++ text item ∷ map text (drop (i + 1) names)
  names_split less is =
      ap (map text) (sym (take-append-drop i names)
      ∙ ap (λ rest. take i names ++ rest) (drop_more names i item less ∙ ap (λ x. x ∷ drop (i + 1) names) (sym is)))
      ∙ map-append text (take i names) (item ∷ drop (i + 1) names)

-- the first file that gave no column
pub no_columns : (contents from_contents : Told) (before from now : Counts) (count : ℕ) (names earlier later : List (List ℕ))
    (name : List ℕ)
    (columns : List (List ℤ)) (stop : Stop) → names ≡ earlier ++ name ∷ later → AreRead contents count earlier columns
    → from_contents ≡ contents → NoneFell before from → StopsAs (IsUnusable (reading from_contents from now) count name) stop
    → StopsAs (NoColumns (reading contents before now) count names) stop
no_columns contents from_contents before from now count names earlier later name columns stop split read same none stops =
    stops_more (IsUnusable (reading from_contents from now) count name) (NoColumns (reading contents before now) count names) stop
    (λ status line u. record {
      before = earlier;
      name = name;
      after = later;
      split = split;
      columns = columns;
      read = read;
      unusable = unusable_within contents from_contents before from now count name status line same none u;
    }) stops
