-- A sequential run.
use Rattle.std.specs.Prelude.{ℤ, if◌then◌else◌, List, [], ◌∷◌, ◌++◌, map, Option, Some, None}
use Rattle.std.specs.Option.{option_map}
use Rattle.fd_words.specs.declared.place.Offence.{Offence}
use Rattle.fd_program.specs.Loops.{offence_of, after_loop}
use Rattle.fd_program.specs.Trace.{site_at, trace_of, is_empty_turn}
use Rattle.fd_program.specs.declared.checked.Checked.{Checked}
use Rattle.fd_program.specs.declared.refused.Refused.{Refused}
use Rattle.fd_program.specs.declared.trace.Step.{Step}
use Rattle.fd_program.specs.declared.trace.Step.TheVariants.{Distribute, Print, Forall}

-- the executed steps, each with the store before it; the refusal, if there is one; and the last store
pub record Run : Type 0 where
  pub executed : List (Step × List (List ℤ))
  pub refused : Option Refused
  pub last : List (List ℤ)

-- why a step is refused, if it is: a FORALL whose range isn't empty, for its offence
abbrev pub refusal_of : Checked → Step → List (List ℤ) → Option Refused
refusal_of c (Distribute decomposition form) store = None
refusal_of c (Print array) store = None
refusal_of c (Forall site turn) store =
    option_map (λ (o : Offence). let r : Refused = record { site = site; offence = o } in r)
    (if is_empty_turn turn then None else offence_of c.arrays (site_at c.sites site) turn store)

-- the store after a step that isn't refused: only a FORALL whose range isn't empty changes it
abbrev pub after_step : Checked → Step → List (List ℤ) → List (List ℤ)
after_step c (Distribute decomposition form) store = store
after_step c (Print array) store = store
after_step c (Forall site turn) store = if is_empty_turn turn then store else after_loop c.arrays (site_at c.sites site) turn store

-- a step, and the run after it; after a refused step nothing is executed
abbrev pub run_past : Step → List (List ℤ) → Option Refused → Run → Run
run_past step store None rest = record { executed = (step, store) ∷ rest.executed; refused = rest.refused; last = rest.last }
run_past step store (Some refused) rest = record { executed = (step, store) ∷ []; refused = Some refused; last = store }

-- the run of these steps, from this store on
abbrev pub run_from : Checked → List Step → List (List ℤ) → Run
run_from c [] store = record { executed = []; refused = None; last = store }
run_from c (step ∷ rest) store = run_past step store (refusal_of c step store) (run_from c rest (after_step c step store))

-- the run of the program
abbrev pub run_of : Checked → List (List ℤ) → Run
run_of c store = run_from c (trace_of c) store

-- the stores before step 0, step 1 and so on, and the last one
abbrev pub stores_of : Run → List (List (List ℤ))
stores_of run = map (λ s. s.1) run.executed ++ run.last ∷ []
