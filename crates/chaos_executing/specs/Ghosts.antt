-- Stamped tables, and ghosts before any value is gathered.
use Rattle.std.specs.Prelude.{ℕ, ◌<◌, ℤ, pos, List, length, map, replicate, slice_get, unwrap_or}
use Rattle.fd_program.specs.declared.array.ArrayFacts.{ArrayFacts}
use Rattle.fd_program.specs.declared.loop_facts.LoopFacts.{LoopFacts}
use Rattle.chaos_hash.specs.Stamps.{Stamps, IsStamped}
use Rattle.plan_tables.specs.Tables.{table_at}

-- what is true of every table is true of each of these
abbrev pub AreStamped : List Stamps → Type 0
AreStamped tables = (d : ℕ) → d < length tables → IsStamped (table_at tables d)

-- for each array as many zeros as the number for its decomposition
abbrev pub ghosts_below : List ArrayFacts → List ℕ → List (List ℤ)
ghosts_below arrays peaks = map (λ (a : ArrayFacts). replicate (unwrap_or (slice_get peaks a.decomposition) 0) (pos 0)) arrays

-- for each array as many zeros as its decomposition's table ever had entries
abbrev pub no_ghosts : LoopFacts → List Stamps → List (List ℤ)
no_ghosts f tables = map (λ (a : ArrayFacts). replicate (table_at tables a.decomposition).peak (pos 0)) f.arrays
