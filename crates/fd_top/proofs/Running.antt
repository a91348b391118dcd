-- Runs of a source, and their ends.
use Rattle.std.proofs.Common.{◌≡◌, ℕ, ◌<◌, Bool, true, false, List, ◌++◌, ap, sym, ◌∙◌, subst, inl, inr, arith}
use Rattle.std.specs.Prelude.{ℤ, Option, Some, None, Result, Ok, Err, IfOk, OnErr, MatchResult, if◌then◌else◌, is_some}
use Rattle.fd_words.specs.declared.wanting.Memory as wanting
use Rattle.fd_edge.specs.Endings.{Outcome, left, letters_after, IsWritten, EndsBy}
use Rattle.fd_edge.specs.Readings.{Reading}
use Rattle.fd_program.specs.declared.refused.Refused.{Refused}
use Rattle.fd_program.specs.Reports.{report_of_program}
use Rattle.fd_program.specs.Runs.{run_of}
use Rattle.fd_program.specs.Texts.{text_of}
use Rattle.fd_command.specs.Asked.{AskedOrigin}
use Rattle.fd_command.specs.declared.request.Manner.{Manner}
use Rattle.fd_front.specs.declared.source.Source.{Source}
use Rattle.fd_load.specs.LoadLaws.{loaded_fits}
use Rattle.bsp_core.specs.Turns.{sent_of}
use Rattle.bsp_core.specs.declared.played.Played.{Played}
use Rattle.bsp_mail.specs.Mails.{ArePrefixes}
use Rattle.bsp_mail.specs.declared.mail.Mail.{Mail}
use Rattle.bsp_threads.specs.Alls.{AreEmptyFrom}
use Rattle.plan_limits.specs.Unrolled.{unrolled_is_within}
use Rattle.chaos_engine.specs.Runs.{IsAdmitted, order_moves, plan_of}
use Rattle.chaos_engine.specs.Threads.{HasDueLists, AreWithinDue}
use Rattle.chaos_engine.specs.declared.turns.EngineEnd.{EngineEnd}
use Rattle.chaos_engine.specs.declared.turns.Order.{Order}
use Rattle.chaos_holdings.specs.declared.session.Session.{Session}
use Rattle.plan_run.specs.Phases.{due_list}
use Rattle.fd_top.specs.Outcomes.{AreAccepted, IsPlay, IsRunOf, PlaysRun, PlaysBy, RunsPlainly, RunsInTurns}
use Rattle.fd_top.specs.Outcomes.{data_read, order_of, plan_for, status_of_run, written_for}
use Rattle.fd_top.specs.Ready.{HasNodes, IsRunnable, outcome_with, session_for}
use Rattle.fd_top.specs.Threads.{HasDueLetters, HasSome}
use Rattle.fd_top.specs.declared.ways.RunEnd.{RunEnd}

-- ---- before a run

pub runnable : (origin : AskedOrigin) (r : Reading) (s : Source) (store : List (List ℤ)) → AreAccepted origin r s store → IsRunnable s store
runnable origin r s store a = record {
  shaped = a.gives.read.shaped;
  sound = a.gives.read.sound;
  trace = a.gives.read.trace;
  fits = loaded_fits (data_read origin r) s.checked store a.gives.loaded;
}

pub admitted : (s : Source) (m : Manner) (store : List (List ℤ)) (session : Session) → session ≡ session_for s m → IsRunnable s store
    → HasNodes m
    → IsAdmitted session store
admitted s m store session e a n = subst (λ (x : Session). IsAdmitted x store) (sym e) (record {
  some = omega (arith, n.some);
  few = n.few;
  checked = a.sound;
  within = unrolled_is_within s.checked a.sound a.trace.1;
  trace = a.trace.0;
  fits = a.fits;
})

-- ---- what it tells

-- the status of a run that tells whether it was refused
pub status_told : (o : Option Refused) (is_refused : Bool) (status : ℕ) → is_refused ≡ is_some o → status ≡ (if is_refused then 3 else 0)
    → status ≡ status_of_run o
status_told None is_refused status e f = f ∙ ap (λ b. if b then 3 else 0) e
status_told (Some r) is_refused status e f = f ∙ ap (λ b. if b then 3 else 0) e

-- what nodes of a session tell at their end is what is written of the run
abbrev RunTold : {A : Type 0} → Manner → Source → List (List ℤ) → EngineEnd → RunEnd → Option A → Session → Type 0
RunTold m s store end e letters x =
    end.text ≡ text_of x.checked store → end.refused ≡ is_some (run_of x.checked store).refused
    → end.report ≡ report_of_program x.checked x.nodes x.rule store
    → e.status ≡ (if end.refused then 3 else 0) → e.text ≡ (if m.report then end.text ++ end.report else end.text)
    → IsRunOf s store (written_for m s store) (outcome_with e letters)

pub told : {A : Type 0} (m : Manner) (s : Source) (store : List (List ℤ)) (session : Session) (end : EngineEnd) (e : RunEnd)
    (letters : Option A)
    → session ≡ session_for s m → end.text ≡ text_of session.checked store → end.refused ≡ is_some (run_of session.checked store).refused
    → end.report ≡ report_of_program session.checked session.nodes session.rule store
    → e.status ≡ (if end.refused then 3 else 0) → e.text ≡ (if m.report then end.text ++ end.report else end.text)
    → IsRunOf s store (written_for m s store) (outcome_with e letters)
told m s store session end e letters is =
    subst (RunTold m s store end e letters) (sym is) (λ text refused report status bytes. record {
      status = status_told (run_of s.checked store).refused end.refused e.status refused status;
      bytes = bytes ∙ ap (λ (t : List ℕ). if m.report then t ++ end.report else t) text
          ∙ ap (λ (t : List ℕ). if m.report then text_of s.checked store ++ t else text_of s.checked store) report;
    })

-- what was played by a session is what is to be played
pub played_told : (m : Manner) (s : Source) (store : List (List ℤ)) (session : Session) (order : Order) (played : Played)
    → session ≡ session_for s m → order ≡ order_of m.turns
    → ((p q : ℕ) → p < session.nodes → q < session.nodes
    → sent_of session.nodes played.sent p q ≡ due_list session.checked session.nodes session.rule store p q)
    → played.moved ≡ order_moves (plan_of session store) order → IsPlay m s store played
played_told m s store session order played is by_order =
    subst (λ (x : Session). ((p q : ℕ) → p < x.nodes → q < x.nodes
    → sent_of x.nodes played.sent p q ≡ due_list x.checked x.nodes x.rule store p q)
    → played.moved ≡ order_moves (plan_of x store) order → IsPlay m s store played) (sym is)
    (λ letters moves. record { letters = letters; moves = moves ∙ ap (order_moves (plan_for m s store)) by_order })

-- the letters of a session's run on threads are those of the source's
pub letters_told : (m : Manner) (s : Source) (store : List (List ℤ)) (session : Session) (mail : Mail) → session ≡ session_for s m
    → HasDueLists session store mail.seats.items → AreEmptyFrom session.nodes mail.seats.items → HasDueLetters m s store mail
letters_told m s store session mail is =
    subst (λ (x : Session). HasDueLists x store mail.seats.items → AreEmptyFrom x.nodes mail.seats.items → HasDueLetters m s store mail)
    (sym is)
    (λ lists others. record { lists = lists; others = others })

pub some_told : (m : Manner) (s : Source) (store : List (List ℤ)) (session : Session) (mail : Mail) → session ≡ session_for s m
    → AreWithinDue session store mail.seats.items → ArePrefixes mail.seats.items → AreEmptyFrom session.nodes mail.seats.items
    → HasSome m s store mail
some_told m s store session mail is =
    subst (λ (x : Session). AreWithinDue x store mail.seats.items → ArePrefixes mail.seats.items → AreEmptyFrom x.nodes mail.seats.items
    → HasSome m s store mail) (sym is) (λ sent taken others. record { sent = sent; taken = taken; others = others })

pub plainly : (m : Manner) (s : Source) (store : List (List ℤ)) (o : Outcome Played) → m.plain ≡ true → RunsPlainly s store o
    → PlaysRun m s store o
plainly m s store o e p = subst (λ (b : Bool). PlaysBy b m s store o) (sym e) p

pub in_turns : (m : Manner) (s : Source) (store : List (List ℤ)) (o : Outcome Played) → m.plain ≡ false → RunsInTurns m s store o
    → PlaysRun m s store o
in_turns m s store o e p = subst (λ (b : Bool). PlaysBy b m s store o) (sym e) p

-- ---- its end

-- whatever the answer, memory ended it or nothing is said
pub always : {X P : Type 0} (result : Result X wanting.Memory) → P → OnErr result P
always (Ok x) p = tt
always (Err m) p = p

-- a run that is written, or memory was wanting for it
pub ends_run : {A : Type 0} (Runs : Outcome A → Type 0) (IsCut : A → A → Type 0) (run : Result RunEnd wanting.Memory) (letters : Option A)
    (result before now : ℕ) (written written-1 : Option (List ℕ)) (old new : A)
    → IfOk run (λ e. Runs (outcome_with e letters)) → OnErr run (IsCut old new) → new ≡ letters_after letters old
    → MatchResult run (λ e. IsWritten e.status e.text result before now written written-1) (λ memory. (result ≡ 70) × (written-1 ≡ written))
    → EndsBy Runs IsCut result (left before written old) (left now written-1 new)
ends_run Runs IsCut (Ok e) letters result before now written written-1 old new runs cut after w =
    inl (outcome_with e letters, (runs, record { wrote = w; letters = after }))
ends_run Runs IsCut (Err m) letters result before now written written-1 old new runs cut after w =
    inr (record { status = w.0; written = w.1; letters = cut })
