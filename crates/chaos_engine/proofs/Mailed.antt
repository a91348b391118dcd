-- The letters of a Mail at the end of a run, and on the way there.
use Rattle.std.specs.Prelude.{◌≡◌, ◌≢◌, ℕ, ◌<◌, ◌≤◌, ℤ, List, ◌++◌, Result, Ok, Err, OnOk}
use Rattle.std.proofs.Common.{ap, sym, ◌∙◌, arith}
use Rattle.bsp_core.specs.Views.{View}
use Rattle.bsp_core.proofs.Whole.{has_end}
use Rattle.bsp_mail.specs.declared.queues.Queues.{Queues}
use Rattle.bsp_mail.specs.declared.seat.MailSeat.{MailSeat}
use Rattle.bsp_mail.specs.Mails.{ArePrefixes, IsFresh, IsPair, sent_on}
use Rattle.bsp_threads.specs.Alls.{AreAtEnd, AreEmptyFrom, AreOfPlan}
use Rattle.bsp_threads.specs.Due.{HasLetters, due_at_end, due_within}
use Rattle.chaos_entering.specs.Standing.{node_holds}
use Rattle.chaos_entering.specs.State.{NodeState}
use Rattle.chaos_holdings.specs.declared.session.Session.{Session}
use Rattle.plan_run.specs.DueLaws.{rows_have_due_lists}
use Rattle.plan_run.specs.Phases.{due_list}
use Rattle.plan_run.specs.RowLaws.{rows_fall}
use Rattle.plan_run.specs.Rows.{node_row}
use Rattle.chaos_engine.specs.Runs.{IsAdmitted, plan_of}
use Rattle.chaos_engine.specs.Threads.{AreWithinDue, HasDueLists}

-- up to its end the plan has the letters that are due
has_letters : (s : Session) (store : List (List ℤ))
    → HasLetters (node_row (plan_of s store)) s.nodes (due_list s.checked s.nodes s.rule store)
has_letters s store end p q less is = rows_have_due_lists (plan_of s store) p q end less is

-- at the plan's end all that is due was sent and taken
pub due_lists : (s : Session) (store : List (List ℤ)) (views : List (View NodeState)) (mails : List MailSeat)
    → AreAtEnd (node_row (plan_of s store)) (node_holds (plan_of s store)) s.nodes views mails → HasDueLists s store mails
due_lists s store views mails at =
    due_at_end (node_row (plan_of s store)) (node_holds (plan_of s store)) s.nodes (due_list s.checked s.nodes s.rule store) views mails
    (has_letters s store) at

-- what is sent of the plan is due
pub within_due : (s : Session) (store : List (List ℤ)) (mails : List MailSeat)
    → AreOfPlan (node_row (plan_of s store)) s.nodes mails → AreWithinDue s store mails
within_due s store mails of_plan =
    let end = has_end (node_row (plan_of s store)) (rows_fall (plan_of s store)) in
    due_within (node_row (plan_of s store)) s.nodes end.0 (due_list s.checked s.nodes s.rule store) mails (has_letters s store) end.1
    of_plan

-- a fact beside an answer
pub on_ok : {T E : Type 0} (r : Result T E) (P : Type 0) → P → OnOk r P
on_ok (Ok x) P h = h
on_ok (Err e) P h = tt

-- ---- nothing was sent yet

module _ (queues : Queues) (mails : List MailSeat) (fresh : IsFresh queues mails) where
  pub fresh_within : (s : Session) (store : List (List ℤ)) → IsAdmitted s store → AreWithinDue s store mails
  fresh_within s store h p q lp lq apart =
      let pair : IsPair p q = (omega (arith, lp, h.few), (omega (arith, lq, h.few), λ e. apart (sym e))) in
      let due = due_list s.checked s.nodes s.rule store p q in
      (due, ap (λ l. l ++ due) (sym (fresh.sent p q pair)))

  pub fresh_prefixes : ArePrefixes mails
  fresh_prefixes p q pair = (sent_on mails p q, ap (λ l. l ++ sent_on mails p q) (sym (fresh.taken p q pair)))

  pub fresh_empty : (n : ℕ) → AreEmptyFrom n mails
  fresh_empty n p q pair far = (fresh.sent p q pair, fresh.taken p q pair)
