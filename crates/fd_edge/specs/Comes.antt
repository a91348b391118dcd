-- What comes of words that ask for a run: the usage line, the line of what stops it, or its end.
use Rattle.std.specs.Prelude.{ℕ, ◌≡◌, List, Option, Some, None, Result, Ok, Err, IfOk, OnErr, MatchResult}
use Rattle.std.proofs.Common.{refl, sym, ◌∙◌, inl, inr, arith}
use Rattle.fd_words.specs.declared.wanting.Memory as wanting
use Rattle.fd_outside.specs.Causes.{Rose}
use Rattle.fd_edge.specs.EndLaws.{complete, ended_whole, ends_line, ends_stop, stops_more}
use Rattle.fd_edge.specs.Endings.{EndsBy, IsComplete, IsStopped, IsWhole, IsWritten, Left, Outcome, StopsAs, a_line, left}
use Rattle.fd_edge.specs.declared.ending.Stop.{Stop}

-- the usage line for words that aren't taken; or for what they ask for a line where it is stopped, and else a run of what is accepted
pub data Comes {W A : Type 0} (usage : List ℕ) (Stops : W → ℕ → List ℕ → Type 0) (Accepted : Type 0) (Runs : Accepted → Outcome A → Type 0)
    (request : Option W) : Outcome A → Type 0 where
  untaken : request ≡ None → Comes usage Stops Accepted Runs request (a_line 2 usage)
  stopped : (w : W) → request ≡ Some w → (status : ℕ) (line : List ℕ) → Stops w status line
      → Comes usage Stops Accepted Runs request (a_line status line)
  ran : (a : Accepted) → (o : Outcome A) → Runs a o → Comes usage Stops Accepted Runs request o

-- a run was accepted, it was written whole, and the letters stand
pub record HasRun {A : Type 0} (Accepted : Type 0) (Runs : Accepted → Outcome A → Type 0) (result : ℕ) (old new : Left A) : Type 0 where
  pub accepted : Accepted
  pub outcome : Outcome A
  pub run : Runs accepted outcome
  pub whole : IsWhole outcome result old new

-- ---- laws

module _ {W A : Type 0} (usage : List ℕ) (Stops : W → ℕ → List ℕ → Type 0) (Accepted : Type 0) (Runs : Accepted → Outcome A → Type 0)
    (request : Option W) (IsCut : A → A → Type 0) where
  abbrev Come : Outcome A → Type 0
  Come = Comes usage Stops Accepted Runs request

  -- words that ask for nothing
  pub untaken_answers : (result before now : ℕ) (old new : Option (List ℕ)) (letters : A) → request ≡ None
      → IsWritten 2 usage result before now old new → EndsBy Come IsCut result (left before old letters) (left now new letters)
  untaken_answers result before now old new letters is written =
      ends_line Come IsCut 2 usage result before now old new letters (untaken is) written

  -- what they ask for is stopped
  pub stop_answers : (w : W) (stop : Stop) (result before now : ℕ) (old new : Option (List ℕ)) (letters : A) → request ≡ Some w
      → IsCut letters letters → StopsAs (Stops w) stop → IsStopped stop result before now old new
      → EndsBy Come IsCut result (left before old letters) (left now new letters)
  stop_answers w stop result before now old new letters taken same says ends =
      ends_stop Come IsCut stop result before now old new letters
      (stops_more (Stops w) (λ status line. Come (a_line status line)) stop (λ status line s. stopped w taken status line s) says) same ends

  -- a run of it
  pub run_answers : (a : Accepted) (run : Result (List ℕ) wanting.Memory) (result before now : ℕ) (was is : Option (List ℕ)) (old new : A)
      → IfOk run (λ text. Runs a (record { status = 0; bytes = text; letters = Some new })) → OnErr run (IsCut old new)
      → MatchResult run (λ text. IsWritten 0 text result before now was is) (λ memory. (result ≡ 70) × (is ≡ was))
      → EndsBy Come IsCut result (left before was old) (left now is new)
  run_answers a (Ok text) result before now was is old new runs cut ends =
      inl (record { status = 0; bytes = text; letters = Some new }, (ran a _ runs, record { wrote = ends; letters = refl }))
  run_answers a (Err m) result before now was is old new runs cut ends =
      inr (record { status = ends.0; written = ends.1; letters = cut })

  module _ (runs_end : (a : Accepted) (o : Outcome A) → Runs a o → o.status ≡ 0) where
    -- 69 comes of a failed read alone
    failed : {o : Outcome A} → ((w : W) (status : ℕ) (line : List ℕ) → request ≡ Some w → Stops w status line → status ≡ 69 → ⊥)
        → Come o → o.status ≡ 69 → ⊥
    failed none (untaken is) e = omega (arith, e)
    failed none (stopped w is status line stops) e = none w status line is stops e
    failed none (ran a o runs) e = omega (arith, e, runs_end a o runs)

    pub comes_complete : (result : ℕ) (old new : Left A)
        → ((w : W) (status : ℕ) (line : List ℕ) → request ≡ Some w → Stops w status line → status ≡ 69 → ⊥)
        → EndsBy Come IsCut result old new → (Rose old.failures new.failures → ⊥) → IsComplete Come IsCut result old new
    comes_complete result old new none ends sink = complete Come IsCut result old new (λ o comes. failed none comes) sink ends

  -- 0 comes of a run alone
  ran_by : {o : Outcome A} (result : ℕ) (old new : Left A)
      → ((w : W) (status : ℕ) (line : List ℕ) → Stops w status line → status ≡ 0 → ⊥)
      → Come o → result ≡ 0 → IsWhole o result old new → HasRun Accepted Runs result old new
  ran_by result old new none (untaken is) is_zero whole = absurd (omega (arith, is_zero, whole.status))
  ran_by result old new none (stopped w is status line stops) is_zero whole =
      absurd (none w status line stops (sym whole.status ∙ is_zero))
  ran_by result old new none (ran a o runs) is_zero whole = record { accepted = a; outcome = o; run = runs; whole = whole }

  pub comes_right : (result : ℕ) (old new : Left A) → ((w : W) (status : ℕ) (line : List ℕ) → Stops w status line → status ≡ 0 → ⊥)
      → EndsBy Come IsCut result old new → result ≡ 0 → HasRun Accepted Runs result old new
  comes_right result old new none ends is_zero =
      let whole = ended_whole Come IsCut result old new (λ e. omega (arith, e, is_zero)) (λ e. omega (arith, e, is_zero)) ends in
      ran_by result old new none whole.1.0 is_zero whole.1.1
