-- What is kept of the FORALLs.
use Rattle.std.specs.Prelude.{ℕ, Bool, ◌==◌, List, map, slice_get, Option, Some, None}
use Rattle.std.specs.Option.{option_and_then}
use Rattle.chaos_sched.specs.declared.prepared.Prepared.{Prepared}
use Rattle.std.specs.List.{enumerate_from}
use Rattle.fd_program.specs.Places.{decomposition_of}
use Rattle.fd_program.specs.declared.array.ArrayFacts.{ArrayFacts}
use Rattle.fd_program.specs.declared.checked.Checked.{Checked}
use Rattle.fd_program.specs.declared.reference.Reference.{Reference}
use Rattle.plan_run.specs.TableLaws.{left_of_move}
use Rattle.plan_run.specs.declared.kept.Kept.{Kept}

abbrev pub no_kept : Option Kept
no_kept = None

-- a reference's array stands in this decomposition
abbrev pub names_decomposition : List ArrayFacts → ℕ → Reference → Bool
names_decomposition arrays d r = d == decomposition_of arrays r.array

-- what is left where a decomposition is moved
abbrev pub with_given_up : Checked → ℕ → List (Option Kept) → List (Option Kept)
with_given_up c d kept = map (λ (k, x). left_of_move c k d x) (enumerate_from 0 kept)

-- the inspection that is kept of a FORALL
abbrev pub prepared_by : Option Kept → Option Prepared
prepared_by None = None
prepared_by (Some x) = x.prepared

abbrev pub prepared_in : List (Option Kept) → ℕ → Option Prepared
prepared_in kept site = option_and_then prepared_by (slice_get kept site)
