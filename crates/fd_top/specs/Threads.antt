-- What comes of a call that runs a source on threads, by a Mail.
use Rattle.std.specs.Prelude.{ℕ, ℤ, ◌≡◌, ◌≢◌, ◌<◌, ◌⊎◌, Bool, false, not, if◌then◌else◌, List, codes}
use Rattle.std.specs.Prelude.{Option, Some, None, IsSomeAnd, option_and_then}
use Rattle.fd_command.specs.Asked.{Asked, asked}
use Rattle.fd_command.specs.declared.request.Manner.{Manner}
use Rattle.fd_command.specs.declared.request.Turns.{Turns}
use Rattle.fd_command.specs.declared.request.Turns.TheVariants.{RoundRobin, Seeded}
use Rattle.fd_edge.specs.Endings.{Outcome, Left}
use Rattle.fd_edge.specs.Readings.{Reading}
use Rattle.fd_front.specs.declared.source.Source.{Source}
use Rattle.bsp_mail.specs.declared.mail.Mail.{Mail}
use Rattle.bsp_mail.specs.Mails.{sent_on, taken_on, ArePrefixes}
use Rattle.bsp_mail.specs.Rule.{IsPrefix}
use Rattle.bsp_threads.specs.Alls.{AreEmptyFrom}
use Rattle.chaos_letter.specs.declared.letter.Letter.{Letter}
use Rattle.plan_run.specs.Phases.{due_list}
use Rattle.fd_top.specs.Outcomes.{IsRunOf, rule_of, written_for, Accepted}
use Rattle.fd_top.specs.Answers.{IsAnswered, HasCompleted}

unfoldable pub run_usage_line : List ℕ
run_usage_line = codes "usage: chaosrun (SOURCE | --mesh SEED --size N) [--nodes N] [--iterations owner|most] [--report]\n"

-- ---- words

-- neither `--turns` nor `--plain`, which only a player takes
abbrev pub no_turns : Turns → Bool → Bool
no_turns RoundRobin plain = not plain
no_turns (Seeded seed) plain = false

abbrev pub has_no_turns : Manner → Bool
has_no_turns m = no_turns m.turns m.plain

abbrev pub without_turns : Asked → Option Asked
without_turns w = if has_no_turns w.manner then Some w else None

-- what words ask for, and none exactly where they aren't taken
abbrev pub asked_to_run : List (List ℕ) → Option Asked
asked_to_run words = option_and_then without_turns (asked words)

-- ---- the letters of a run

-- those that are due from p to q
abbrev pub due_for : Manner → Source → List (List ℤ) → ℕ → ℕ → List Letter
due_for m s store p q = due_list s.checked m.nodes (rule_of m.iterations) store p q

-- each pair below the nodes has exactly the letters that are due as sent and as taken, all other pairs are empty
pub record HasDueLetters (m : Manner) (s : Source) (store : List (List ℤ)) (mail : Mail) : Type 0 where
  pub lists : (p q : ℕ) → p < m.nodes → q < m.nodes → p ≢ q
      → (sent_on mail.seats.items p q ≡ due_for m s store p q) × (taken_on mail.seats.items p q ≡ due_for m s store p q)
  pub others : AreEmptyFrom m.nodes mail.seats.items

-- each pair below the nodes has sent the first of the letters that are due, and taken the first of these
pub record HasSome (m : Manner) (s : Source) (store : List (List ℤ)) (mail : Mail) : Type 0 where
  pub sent : (p q : ℕ) → p < m.nodes → q < m.nodes → p ≢ q → IsPrefix (sent_on mail.seats.items p q) (due_for m s store p q)
  pub taken : ArePrefixes mail.seats.items
  pub others : AreEmptyFrom m.nodes mail.seats.items

-- on threads
pub record RunsOnThreads (m : Manner) (s : Source) (store : List (List ℤ)) (o : Outcome Mail) : Type 0 where
  pub run : IsRunOf s store (written_for m s store) o
  pub letters : IsSomeAnd o.letters (HasDueLetters m s store)

-- ---- where memory was wanting

-- the Mail is as it was, or has the first of the letters of a run of what words ask for
abbrev pub WasCut : Option Asked → Reading → Mail → Mail → Type 0
WasCut request r old new = (new ≡ old) ⊎ ((a : Accepted request r) × HasSome a.asked.manner a.source a.store new)

-- ---- answers

abbrev pub RunAnswered : Option Asked → Reading → ℕ → Left Mail → Left Mail → Type 0
RunAnswered = IsAnswered run_usage_line RunsOnThreads WasCut

abbrev pub RunCompleted : Option Asked → Reading → ℕ → Left Mail → Left Mail → Type 0
RunCompleted = HasCompleted run_usage_line RunsOnThreads WasCut
