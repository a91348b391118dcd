-- The coordinates that files give: one file for each axis, in the order of the axes.
use Rattle.std.specs.Prelude.{ℕ, ℤ, ◌≡◌, List, [], ◌∷◌, ◌++◌, Result, Ok, Err}
use Rattle.fd_edge.specs.Endings.{StopsAs}
use Rattle.fd_edge.specs.Files.{Reads}
use Rattle.fd_edge.specs.Readings.{Told, Reading}
use Rattle.fd_edge.specs.Unusable.{IsUnusable}
use Rattle.fd_edge.specs.declared.ending.Stop.{Stop}

-- each of these files was read and gave the column in its place
abbrev pub AreRead : Told → ℕ → List (List ℕ) → List (List ℤ) → Type 0
AreRead contents count [] [] = Unit {0}
AreRead contents count [] (column ∷ columns) = ⊥
AreRead contents count (name ∷ names) [] = ⊥
AreRead contents count (name ∷ names) (column ∷ columns) = Reads contents name count (Ok column) × AreRead contents count names columns

-- what comes of one file
abbrev pub IsColumnEnd : Reading → ℕ → List ℕ → Result (List ℤ) Stop → Type 0
IsColumnEnd r count name (Ok column) = Reads r.contents name count (Ok column)
IsColumnEnd r count name (Err stop) = StopsAs (IsUnusable r count name) stop

-- the files before one were read, and it gave no column
pub record NoColumns (r : Reading) (count : ℕ) (names : List (List ℕ)) (status : ℕ) (line : List ℕ) : Type 0 where
  pub before : List (List ℕ)
  pub name : List ℕ
  pub after : List (List ℕ)
  pub split : names ≡ before ++ name ∷ after
  pub columns : List (List ℤ)
  pub read : AreRead r.contents count before columns
  pub unusable : IsUnusable r count name status line

-- what comes of all files
abbrev pub IsColumnsEnd : Reading → ℕ → List (List ℕ) → Result (List (List ℤ)) Stop → Type 0
IsColumnsEnd r count names (Ok columns) = AreRead r.contents count names columns
IsColumnsEnd r count names (Err stop) = StopsAs (NoColumns r count names) stop
