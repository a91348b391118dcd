-- What an answer says.
use Rattle.std.proofs.Common.{◌≡◌, ℕ, Bool, true, false, List, refl, ap, sym, ◌∙◌, subst, inl, inr, arith}
use Rattle.std.specs.Prelude.{ℤ, Option, Some, None, Result, Ok, Err, IfOk, ◌≤◌, if◌then◌else◌, option_and_then}
use Rattle.fd_outside.specs.Causes.{Rose}
use Rattle.fd_edge.specs.Endings.{Outcome, a_line, Left, left, StopsAs, IsStopped, EndsBy, IsWhole, IsComplete}
use Rattle.fd_edge.specs.EndLaws.{ends_more, ends_stop, stops_more, complete as complete_whole, ended_whole}
use Rattle.fd_edge.specs.Readings.{Reading}
use Rattle.fd_edge.specs.declared.ending.Stop.{Stop}
use Rattle.fd_program.specs.Stores.{array_at}
use Rattle.fd_program.specs.Runs.{run_of}
use Rattle.fd_program.specs.declared.refused.Refused.{Refused}
use Rattle.fd_command.specs.Asked.{Asked, AskedOrigin, file, mesh}
use Rattle.fd_command.specs.Shown.{shown, HasMeshInRange}
use Rattle.fd_command.specs.declared.request.Manner.{Manner}
use Rattle.fd_command.specs.declared.request.Refused as command
use Rattle.fd_command.specs.declared.request.Refused.TheVariants as request
use Rattle.fd_command.specs.declared.request.Request.{Request}
use Rattle.fd_front.specs.declared.source.Source.{Source}
use Rattle.fd_load.specs.Files.{file_of}
use Rattle.fd_top.specs.Outcomes.{status_of_run, IsRunStatus, PlaysBy, PlaysRun, IsText, data_read, SourceFailed, Accepted}
use Rattle.fd_top.specs.Outcomes.{TextStops, refused, unread_file, faulty_file, ReadingStops, unread, too_long, in_text}
use Rattle.fd_top.specs.Outcomes.{CallStops, untaken, stopped, ToCome, stops, ran}
use Rattle.fd_top.specs.Answers.{RunsBy, CutsBy, IsAnswered, the_source, an_array, NoneFailed, RanRight}
use Rattle.fd_top.specs.Ready.{IsCalled, IsSoundRequest, Tells}
use Rattle.fd_top.specs.Threads.{RunsOnThreads, has_no_turns, without_turns}
use Rattle.fd_top.specs.declared.ready.Call.{Call}

-- ---- requests

pub tells : (asked : Option Asked) (r : Result Request command.Refused) → IfOk r (λ q. asked ≡ Some (shown q))
    → (r ≡ Err request.NotTaken → asked ≡ None) → Tells asked r
tells asked (Ok q) taken none = taken
tells asked (Err request.NotTaken) taken none = none refl
tells asked (Err request.Memory) taken none = tt

pub sound : (r : Result Request command.Refused) → IfOk r (λ q. 1 ≤ q.manner.nodes) → IfOk r (λ q. q.manner.nodes ≤ 16)
    → IfOk r (λ q. HasMeshInRange q.origin) → IsSoundRequest r
sound (Ok q) some few range = (record { some = some; few = few }, range)
sound (Err e) some few range = tt

pub kept : (o : Option Asked) (w : Asked) (b : Bool) → o ≡ Some w → b ≡ has_no_turns w.manner → b ≡ true → option_and_then without_turns o
    ≡ Some w
kept o w b e f t = ap (option_and_then without_turns) e ∙ ap (λ b. if b then Some w else None) (sym f ∙ t)

pub dropped : (o : Option Asked) (w : Asked) (b : Bool) → o ≡ Some w → b ≡ has_no_turns w.manner → b ≡ false
    → option_and_then without_turns o ≡ None
dropped o w b e f t = ap (option_and_then without_turns) e ∙ ap (λ b. if b then Some w else None) (sym f ∙ t)

pub none_taken : (o : Option Asked) → o ≡ None → option_and_then without_turns o ≡ None
none_taken o e = ap (option_and_then without_turns) e

-- ---- the status of a run

is_run_status : (o : Option Refused) (n : ℕ) → n ≡ status_of_run o → IsRunStatus n
is_run_status None n e = inl e
is_run_status (Some r) n e = inr e

not_run : (n : ℕ) → (n ≡ 0 → ⊥) → (n ≡ 3 → ⊥) → IsRunStatus n → ⊥
not_run n no_zero no_three (inl e) = no_zero e
not_run n no_zero no_three (inr e) = no_three e

-- runs have a status of their own
abbrev pub HaveRunStatus : {A : Type 0} → RunsBy A → Type 0
HaveRunStatus {A} Runs =
    (m : Manner) (s : Source) (store : List (List ℤ)) (o : Outcome A) → Runs m s store o
    → o.status ≡ status_of_run (run_of s.checked store).refused

pub plays_status : HaveRunStatus PlaysRun
plays_status m s store o p = by m.plain p
  where
    by : (plain : Bool) → PlaysBy plain m s store o → o.status ≡ status_of_run (run_of s.checked store).refused
    by true t = t.run.status
    by false t = t.run.status

pub threads_status : HaveRunStatus RunsOnThreads
threads_status m s store o t = t.run.status

text_no_run : {r : Reading} {text : List ℕ} {status : ℕ} {line : List ℕ} → TextStops r text status line → IsRunStatus status → ⊥
text_no_run (refused fault at) run = not_run 65 (λ z. omega (arith, z)) (λ z. omega (arith, z)) run
text_no_run (unread_file s is array l) run = not_run 69 (λ z. omega (arith, z)) (λ z. omega (arith, z)) run
text_no_run (faulty_file s is array fault l) run = not_run 66 (λ z. omega (arith, z)) (λ z. omega (arith, z)) run

stop_no_run : {origin : AskedOrigin} {r : Reading} {status : ℕ} {line : List ℕ} → ReadingStops origin r status line → IsRunStatus status → ⊥
stop_no_run (unread name rose) run = not_run 69 (λ z. omega (arith, z)) (λ z. omega (arith, z)) run
stop_no_run (too_long long) run = not_run 65 (λ z. omega (arith, z)) (λ z. omega (arith, z)) run
stop_no_run (in_text text held short status line s) run = text_no_run s run

call_no_run : {usage : List ℕ} {request : Option Asked} {r : Reading} {status : ℕ} {line : List ℕ} → CallStops usage request r status line
    → IsRunStatus status → ⊥
call_no_run (untaken is) run = not_run 2 (λ z. omega (arith, z)) (λ z. omega (arith, z)) run
call_no_run (stopped w is status line s) run = stop_no_run s run

counts_of : (origin : AskedOrigin) (r : Reading) (name : List ℕ) → Rose ((data_read origin r).before name) ((data_read origin r).now name)
    → Rose (r.before name) (r.now name)
counts_of (file f) r name rose = rose
counts_of (mesh seed size) r name rose = absurd (omega (arith, rose))

-- ---- answers

-- what is called is accepted
abbrev pub accepted : (request : Option Asked) (r : Reading) (c : Call) → IsCalled request r c → Accepted request r
accepted request r c k = record {
  asked = record { origin = k.origin; manner = c.manner };
  taken = k.taken;
  source = c.ready.source;
  store = c.ready.store;
  are = k.are;
}

module _ {A : Type 0} (usage : List ℕ) (Runs : RunsBy A) (IsCut : CutsBy A) (request : Option Asked) (r : Reading) where
  -- a line where nothing runs
  pub stop_answers : (stop : Stop) (result before now : ℕ) (old new : Option (List ℕ)) (letters : A)
      → StopsAs (CallStops usage request r) stop → IsCut request r letters letters → IsStopped stop result before now old new
      → IsAnswered usage Runs IsCut request r result (left before old letters) (left now new letters)
  stop_answers stop result before now old new letters says stays ends =
      ends_stop (ToCome usage Runs request r) (IsCut request r) stop result before now old new letters
      (stops_more (CallStops usage request r) (λ status line. ToCome usage Runs request r (a_line status line)) stop
      (λ status line s. stops status line s) says) stays ends

  -- what is accepted runs
  pub run_answers : (c : Call) (C : A → A → Type 0) (result : ℕ) (old new : Left A) → IsCalled request r c
      → ((x y : A) → C x y → IsCut request r x y) → EndsBy (Runs c.manner c.ready.source c.ready.store) C result old new
      → IsAnswered usage Runs IsCut request r result old new
  run_answers c C result old new called cut ends =
      ends_more (Runs c.manner c.ready.source c.ready.store) (ToCome usage Runs request r) C (IsCut request r) result old new
      (λ o runs. ran (accepted request r c called) o runs) cut ends

module _ {A : Type 0} (usage : List ℕ) (Runs : RunsBy A) (has_status : HaveRunStatus Runs) (IsCut : CutsBy A) (request : Option Asked)
    (r : Reading) where
  -- ---- 69 comes of a failed read alone

  failed_text : {status : ℕ} {line : List ℕ} (w : Asked) → request ≡ Some w → (text : List ℕ) → IsText r.contents w.origin text
      → NoneFailed request r → TextStops (data_read w.origin r) text status line → status ≡ 69 → ⊥
  failed_text w is text held none (refused fault at) e = omega (arith, e)
  failed_text w is text held none (unread_file s read array l) e =
      let name = file_of (array_at s.checked.arrays array) in
      none name (an_array w is text held s read array l.0) (counts_of w.origin r name l.1)
  failed_text w is text held none (faulty_file s read array fault l) e = omega (arith, e)

  failed_source : (w : Asked) → request ≡ Some w → (origin : AskedOrigin) → w.origin ≡ origin → (name : List ℕ) → SourceFailed origin r name
      → NoneFailed request r → ⊥
  failed_source w is (file f) at name rose none = none name (the_source w is name (at ∙ ap file (sym rose.0))) rose.1
  failed_source w is (mesh seed size) at name rose none = absurd rose

  failed_stop : {status : ℕ} {line : List ℕ} (w : Asked) → request ≡ Some w → NoneFailed request r → ReadingStops w.origin r status line
      → status ≡ 69 → ⊥
  failed_stop w is none (unread name rose) e = failed_source w is w.origin refl name rose none
  failed_stop w is none (too_long long) e = omega (arith, e)
  failed_stop w is none (in_text text held short status line s) e = failed_text w is text held none s e

  failed_call : {status : ℕ} {line : List ℕ} → NoneFailed request r → CallStops usage request r status line → status ≡ 69 → ⊥
  failed_call none (untaken is) e = omega (arith, e)
  failed_call none (stopped w is status line s) e = failed_stop w is none s e

  failed : {o : Outcome A} → NoneFailed request r → ToCome usage Runs request r o → o.status ≡ 69 → ⊥
  failed none (stops status line s) e = failed_call none s e
  failed none (ran a o runs) e =
      not_run o.status (λ z. omega (arith, e, z)) (λ z. omega (arith, e, z))
      (is_run_status (run_of a.source.checked a.store).refused o.status (has_status a.asked.manner a.source a.store o runs))

  pub complete : (result : ℕ) (old new : Left A) → IsAnswered usage Runs IsCut request r result old new
      → (Rose old.failures new.failures → ⊥)
      → NoneFailed request r → IsComplete (ToCome usage Runs request r) (IsCut request r) result old new
  complete result old new ends sink none =
      complete_whole (ToCome usage Runs request r) (IsCut request r) result old new (λ o comes. failed none comes) sink ends

  -- ---- a run

  ran_by : {o : Outcome A} (result : ℕ) (old new : Left A) → ToCome usage Runs request r o → IsRunStatus result → IsWhole o result old new
      → RanRight Runs request r result old new
  ran_by result old new (stops status line s) run whole = absurd (call_no_run s (subst IsRunStatus whole.status run))
  ran_by result old new (ran a o runs) run whole = record { accepted = a; outcome = o; run = runs; whole = whole }

  pub ran_right : (result : ℕ) (old new : Left A) → IsAnswered usage Runs IsCut request r result old new → IsRunStatus result
      → RanRight Runs request r result old new
  ran_right result old new ends run =
      let whole = ended_whole (ToCome usage Runs request r) (IsCut request r) result old new
      (λ z. not_run result (λ y. omega (arith, z, y)) (λ y. omega (arith, z, y)) run)
      (λ z. not_run result (λ y. omega (arith, z, y)) (λ y. omega (arith, z, y)) run) ends in
      ran_by result old new whole.1.0 run whole.1.1
