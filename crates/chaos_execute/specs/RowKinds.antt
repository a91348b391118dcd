-- The rows of either kind.
use Rattle.std.specs.Prelude.{ℤ, List}
use Rattle.chaos_execute.specs.declared.rows.Kind.{Kind}
use Rattle.chaos_execute.specs.declared.rows.Kind.TheVariants.{Numbered, Hashed}

abbrev pub rows_in : Kind → List (ℤ × ℤ)
rows_in (Numbered rows) = rows
rows_in (Hashed rows) = rows
