-- A step and the run after it.
use Rattle.std.proofs.Common.{◌≡◌, ℤ, List, [], ◌∷◌, refl, ap, sym, append_assoc, append-nil, Some, None, Option}
use Rattle.std.specs.List.{fold, flat_map, filter_map}
use Rattle.std.proofs.lemmas.Grind.{common_steps}
use Rattle.fd_program.specs.declared.array.ArrayFacts.{ArrayFacts}
use Rattle.fd_program.specs.declared.loop_use.Use.{Use}
use Rattle.fd_program.specs.declared.refused.Refused.{Refused}
use Rattle.fd_program.specs.declared.trace.LoopTurn.{LoopTurn}
use Rattle.fd_program.specs.declared.trace.Step.{Step}
use Rattle.fd_program.specs.Trace.{no_site}
use Rattle.fd_program.specs.Loops.{Write, written, offence_of, after_loop, first_of, iterations_of, offence_at}
use Rattle.fd_program.specs.Runs.{Run, run_past}

-- ---- a FORALL that isn't there does nothing

nothing : {A : Type 0} (is : List ℤ) → flat_map {A = A} (λ i. []) is ≡ []
nothing [] = refl
nothing (i ∷ is) = nothing is

pub no_site_done : (arrays : List ArrayFacts) (turn : LoopTurn) (store : List (List ℤ)) → store ≡ after_loop arrays no_site turn store
no_site_done arrays turn store = ap (fold written store) (sym (nothing {A = Write} (iterations_of turn)))

pub no_site_right : (arrays : List ArrayFacts) (turn : LoopTurn) (store : List (List ℤ)) → None ≡ offence_of arrays no_site turn store
no_site_right arrays turn store = ap (λ us. first_of (filter_map (offence_at arrays) us)) (sym (nothing {A = Use} (iterations_of turn)))

-- ---- one step

pub past_done : (step : Step) (store : List (List ℤ)) (r : Option Refused) (rest : Run) → r ≡ None
    → run_past step store r rest ≡ record { executed = (step, store) ∷ rest.executed; refused = rest.refused; last = rest.last }
past_done step store r rest e = ap (λ o. run_past step store o rest) e

pub past_refused : (step : Step) (store : List (List ℤ)) (r : Option Refused) (refused : Refused) (rest : Run) → r ≡ Some refused
    → run_past step store r rest ≡ record { executed = (step, store) ∷ []; refused = Some refused; last = store }
past_refused step store r refused rest e = ap (λ o. run_past step store o rest) e

pub ruleset run_steps = (common_steps, past_done, past_refused, append_assoc, append-nil)
