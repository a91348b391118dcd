-- The headline of a run, from the letters that are due.
use Rattle.std.proofs.Common.{◌≡◌, ◌≢◌, ℕ, ◌<◌, ◌≤◌, ◌⊎◌, List, ap, sym, ◌∙◌, subst, inl, inr}
use Rattle.std.specs.Prelude.{ℤ, Option, Some, None, IsSomeAnd}
use Rattle.bsp_core.proofs.Places.{le_or_more}
use Rattle.bsp_mail.specs.declared.mail.Mail.{Mail}
use Rattle.bsp_mail.specs.declared.seat.MailSeat.{MailSeat}
use Rattle.bsp_mail.specs.Mails.{IsPair, sent_on, taken_on}
use Rattle.plan_letters.specs.Carried.{stands, executions, carried}
use Rattle.plan_letters.specs.DataLetters.{CarriesNothing, gathers_stand, scatters_stand, others_carry_nothing, loops_are_carried}
use Rattle.plan_letters.specs.InspectionLetters.{votes_stand, vote_stands_where, inspection_letters_stand, others_ask_nothing}
use Rattle.chaos_letter.specs.declared.kind.Kind.TheVariants as kind
use Rattle.fd_command.specs.Asked.{Asked}
use Rattle.fd_command.specs.declared.request.Manner.{Manner}
use Rattle.fd_front.specs.declared.source.Source.{Source}
use Rattle.fd_outside.specs.Causes.{appended}
use Rattle.fd_program.specs.Checks.{IsChecked}
use Rattle.fd_program.specs.declared.loop_facts.HomeRule.{HomeRule}
use Rattle.fd_edge.specs.Endings.{Outcome, Left, letters_after, IsWhole}
use Rattle.fd_edge.specs.Readings.{Reading}
use Rattle.fd_top.specs.Outcomes.{rule_of}
use Rattle.fd_top.specs.Answers.{RanRight}
use Rattle.fd_top.specs.Threads.{due_for, HasDueLetters, RunsOnThreads}
use Rattle.fd_top.specs.Headline.{InspectionsStand, DataIsCarried, NothingIsLeft, IsRight, Headline}

-- ---- what they say

module _ (m : Manner) (s : Source) (store : List (List ℤ))
    (mail : Mail) (known : IsChecked s.checked) (h : HasDueLetters m s store mail) where
  abbrev seats : List MailSeat
  seats = mail.seats.items

  abbrev rule : HomeRule
  rule = rule_of m.iterations

  sent : (p q : ℕ) → p < m.nodes → q < m.nodes → p ≢ q → sent_on seats p q ≡ due_for m s store p q
  sent p q lp lq apart = (h.lists p q lp lq apart).0

  inspections : InspectionsStand m s store seats
  inspections = record {
    once = λ p q lp lq apart. ap (executions kind.Vote) (sent p q lp lq apart) ∙ votes_stand s.checked m.nodes rule store p q known apart;
    votes = λ p q k lp lq apart. ap (stands kind.Vote k) (sent p q lp lq apart)
        ∙ vote_stands_where s.checked m.nodes rule store p q k known apart;
    inspecting = λ p q k sort lp lq apart is stand.
        inspection_letters_stand s.checked m.nodes rule store p q k sort known apart is (sym (ap (stands sort k) (sent p q lp lq apart))
        ∙ stand);
    no_others = λ p q k sort lp lq apart is at. ap (stands sort k) (sent p q lp lq apart)
        ∙ others_ask_nothing s.checked m.nodes rule store p q k sort known apart is at;
  }

  data_letters : DataIsCarried m s store seats
  data_letters = record {
    loops = λ p q later past site turn lp lq apart at some.
        let due = loops_are_carried s.checked m.nodes rule store p q later past site turn known apart at some in
        record {
          needed = ap (carried kind.Gather _) (sent q p lq lp (λ e. apart (sym e))) ∙ due.needed;
          given = ap (carried kind.Scatter _) (sent p q lp lq apart) ∙ due.given;
        };
    once = λ p q lp lq apart. (
      ap (executions kind.Gather) (sent p q lp lq apart) ∙ gathers_stand s.checked m.nodes rule store p q known apart,
      ap (executions kind.Scatter) (sent p q lp lq apart) ∙ scatters_stand s.checked m.nodes rule store p q known apart,
    );
    no_others = λ p q k lp lq apart at.
        subst (CarriesNothing k) (sym (sent p q lp lq apart)) (others_carry_nothing s.checked m.nodes rule store p q k known apart at);
  }

  nothing_left : NothingIsLeft m seats
  nothing_left = record { taken = λ p q pair. by p q pair (le_or_more m.nodes p) (le_or_more m.nodes q); others = h.others }
    where
      empty : (p q : ℕ) → IsPair p q → (m.nodes ≤ p) ⊎ (m.nodes ≤ q) → taken_on seats p q ≡ sent_on seats p q
      empty p q pair far = let none = h.others p q pair far in none.1 ∙ sym none.0

      by : (p q : ℕ) → IsPair p q → (m.nodes ≤ p) ⊎ (p < m.nodes) → (m.nodes ≤ q) ⊎ (q < m.nodes) → taken_on seats p q ≡ sent_on seats p q
      by p q pair (inl far) other = empty p q pair (inl far)
      by p q pair (inr lp) (inl far) = empty p q pair (inr far)
      by p q pair (inr lp) (inr lq) = let l = h.lists p q lp lq (λ e. pair.1.1 (sym e)) in l.1 ∙ sym l.0

  pub is_right : (o : Outcome Mail) (result : ℕ) (old new : Left Mail) → RunsOnThreads m s store o → IsWhole o result old new
      → new.letters ≡ mail
      → IsRight m s store result old new
  is_right o result old new runs whole is = record {
    text = whole.written ∙ ap (appended old.written) runs.run.bytes;
    refusal = whole.status ∙ runs.run.status;
    inspections = subst (λ (x : Mail). InspectionsStand m s store x.seats.items) (sym is) inspections;
    data_letters = subst (λ (x : Mail). DataIsCarried m s store x.seats.items) (sym is) data_letters;
    nothing_left = subst (λ (x : Mail). NothingIsLeft m x.seats.items) (sym is) nothing_left;
  }

pub headline : (request : Option Asked) (r : Reading) (result : ℕ) (old new : Left Mail) → RanRight RunsOnThreads request r result old new
    → Headline request r result old new
headline request r result old new t = record { accepted = t.accepted; right = by t.outcome.letters t.run.letters t.whole.letters }
  where
    by : (letters : Option Mail) → IsSomeAnd letters (HasDueLetters t.accepted.asked.manner t.accepted.source t.accepted.store)
        → new.letters ≡ letters_after letters old.letters
        → IsRight t.accepted.asked.manner t.accepted.source t.accepted.store result old new
    by None h is = absurd h
    by (Some mail) h is =
        is_right t.accepted.asked.manner t.accepted.source t.accepted.store mail t.accepted.are.gives.read.sound h t.outcome result old
        new t.run
        t.whole is
