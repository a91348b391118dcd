-- The headline: what a run that wasn't ended from outside has written, and what its Mail says.
use Rattle.std.specs.Prelude.{ℕ, ℤ, ◌≡◌, ◌≢◌, ◌<◌, true, false, List, ◌∷◌, ◌++◌, length, Option}
use Rattle.bsp_mail.specs.declared.mail.Mail.{Mail}
use Rattle.bsp_mail.specs.declared.seat.MailSeat.{MailSeat}
use Rattle.bsp_mail.specs.Mails.{IsPair, sent_on, taken_on}
use Rattle.bsp_threads.specs.Alls.{AreEmptyFrom}
use Rattle.plan_letters.specs.Carried.{stands, executions, carried, places_of_cells, is_at, numbers_where, is_loop, asks_step}
use Rattle.plan_letters.specs.DataLetters.{CarriesNothing}
use Rattle.plan_letters.specs.InspectionLetters.{is_inspection_kind, is_asking}
use Rattle.chaos_letter.specs.declared.kind.Kind.{Kind}
use Rattle.chaos_letter.specs.declared.kind.Kind.TheVariants as kind
use Rattle.fd_command.specs.Asked.{Asked}
use Rattle.fd_command.specs.declared.request.Manner.{Manner}
use Rattle.fd_front.specs.declared.source.Source.{Source}
use Rattle.fd_outside.specs.Causes.{appended}
use Rattle.fd_program.specs.Homes.{needed_of, given_of}
use Rattle.fd_program.specs.Layouts.{Scene, scene_of, store_at, owners_at, loop_at}
use Rattle.fd_program.specs.Past.{inspects_step, inspecting_of}
use Rattle.fd_program.specs.Reports.{executed_of, completed_of}
use Rattle.fd_program.specs.Runs.{run_of}
use Rattle.fd_program.specs.Trace.{is_empty_turn}
use Rattle.fd_program.specs.declared.trace.LoopTurn.{LoopTurn}
use Rattle.fd_program.specs.declared.trace.Step.{Step}
use Rattle.fd_program.specs.declared.trace.Step.TheVariants.{Forall}
use Rattle.fd_edge.specs.Endings.{Left}
use Rattle.fd_edge.specs.Readings.{Reading}
use Rattle.fd_top.specs.Outcomes.{Accepted, rule_of, status_of_run, written_for}

-- the steps of the sequential run that were executed, the refused one with them, and those that were completed
abbrev pub executed_in : Source → List (List ℤ) → List Step
executed_in s store = executed_of (run_of s.checked store)

abbrev pub completed_in : Source → List (List ℤ) → List Step
completed_in s store = completed_of (run_of s.checked store)

abbrev pub scene_for : Manner → Source → List (List ℤ) → Scene
scene_for m s store = scene_of s.checked m.nodes (rule_of m.iterations) (run_of s.checked store)

-- Between any two nodes votes stand for exactly the executed steps that inspect, once for each, and no other letter of an inspection stands
-- for a step
-- that doesn't inspect. Places alone are also asked for where a DISTRIBUTE by a map moves elements.
pub record InspectionsStand (m : Manner) (s : Source) (store : List (List ℤ)) (seats : List MailSeat) : Type 0 where
  pub once : (p q : ℕ) → p < m.nodes → q < m.nodes → p ≢ q → executions kind.Vote (sent_on seats p q) ≡ inspecting_of s.checked
      (executed_in s store)
  pub votes : (p q k : ℕ) → p < m.nodes → q < m.nodes → p ≢ q
      → stands kind.Vote k (sent_on seats p q) ≡ is_at (inspects_step s.checked) (executed_in s store) k
  pub inspecting : (p q k : ℕ) (sort : Kind) → p < m.nodes → q < m.nodes → p ≢ q → is_inspection_kind sort ≡ true
      → stands sort k (sent_on seats p q) ≡ true → is_at (inspects_step s.checked) (executed_in s store) k ≡ true
  pub no_others : (p q k : ℕ) (sort : Kind) → p < m.nodes → q < m.nodes → p ≢ q → is_asking sort ≡ true
      → is_at (asks_step s.checked) (executed_in s store) k ≡ false → stands sort k (sent_on seats p q) ≡ false

-- what p needs of q for a loop came from q, and what p gives to q went there
pub record LoopIsCarried (m : Manner) (s : Source) (store : List (List ℤ)) (seats : List MailSeat) (p q : ℕ) (past : List Step) (site : ℕ)
    (turn : LoopTurn) : Type 0 where
  pub needed : carried kind.Gather (length past) (sent_on seats q p)
      ≡ places_of_cells (needed_of (loop_at (scene_for m s store) past site turn) (owners_at (scene_for m s store) past)
      (store_at (scene_for m s store) past) p q)
  pub given : carried kind.Scatter (length past) (sent_on seats p q)
      ≡ places_of_cells (given_of (loop_at (scene_for m s store) past site turn) (owners_at (scene_for m s store) past)
      (store_at (scene_for m s store) past) p q)

-- Between any two nodes the data letters of each completed FORALL with a range that isn't empty carry exactly the elements that are needed
-- and given,
-- one letter of each kind, and none stands for another step.
pub record DataIsCarried (m : Manner) (s : Source) (store : List (List ℤ)) (seats : List MailSeat) : Type 0 where
  pub loops : (p q : ℕ) (later past : List Step) (site : ℕ) (turn : LoopTurn) → p < m.nodes → q < m.nodes → p ≢ q
      → completed_in s store ≡ later ++ Forall site turn ∷ past → is_empty_turn turn ≡ false
      → LoopIsCarried m s store seats p q past site turn
  pub once : (p q : ℕ) → p < m.nodes → q < m.nodes → p ≢ q
      → (executions kind.Gather (sent_on seats p q) ≡ numbers_where is_loop (completed_in s store))
      × (executions kind.Scatter (sent_on seats p q) ≡ numbers_where is_loop (completed_in s store))
  pub no_others : (p q k : ℕ) → p < m.nodes → q < m.nodes → p ≢ q → is_at is_loop (completed_in s store) k ≡ false
      → CarriesNothing k (sent_on seats p q)

-- each letter that was sent was taken, and pairs with a seat that has no node are empty
pub record NothingIsLeft (m : Manner) (seats : List MailSeat) : Type 0 where
  pub taken : (p q : ℕ) → IsPair p q → taken_on seats p q ≡ sent_on seats p q
  pub others : AreEmptyFrom m.nodes seats

-- The text of the sequential run was written, with the report where one is asked for; the status is 3 where that run is refused and else 0;
-- and the letters
-- say that each loop was inspected where it had to be, and that each needed element went once from node to node.
pub record IsRight (m : Manner) (s : Source) (store : List (List ℤ)) (result : ℕ) (old new : Left Mail) : Type 0 where
  pub text : new.written ≡ appended old.written (written_for m s store)
  pub refusal : result ≡ status_of_run (run_of s.checked store).refused
  pub inspections : InspectionsStand m s store new.letters.seats.items
  pub data_letters : DataIsCarried m s store new.letters.seats.items
  pub nothing_left : NothingIsLeft m new.letters.seats.items

-- so for what the words ask for
pub record Headline (request : Option Asked) (r : Reading) (result : ℕ) (old new : Left Mail) : Type 0 where
  pub accepted : Accepted request r
  pub right : IsRight accepted.asked.manner accepted.source accepted.store result old new
