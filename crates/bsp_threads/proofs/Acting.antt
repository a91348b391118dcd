-- One step of a seat, and several.
use Rattle.std.proofs.Common.{◌≡◌, ◌≢◌, ℕ, ◌+◌, ◌^◌, ◌<◌, ◌≤◌, List, [], ◌∷◌, ◌++◌, ◌⊎◌, ⊎_elim, inl, inr, arith, sym, refl, ap, ◌∙◌, subst}
use Rattle.std.proofs.Common.{append_assoc, Result, Ok, Err, length, length-append}
use Rattle.chaos_letter.specs.declared.letter.Letter.{Letter}
use Rattle.chaos_letter.specs.declared.wanted.Wanted.{Wanted}
use Rattle.chaos_letter.specs.Fits.{Fits}
use Rattle.bsp_core.specs.declared.phased.Want.TheVariants.{Send, Take, Work}
use Rattle.bsp_core.specs.declared.phased.TakeFault.{TakeFault}
use Rattle.bsp_core.specs.declared.phased.TakeFault.TheVariants.{Stray as IsStrayed}
use Rattle.bsp_core.specs.Views.{View, next_of, Posts, Takes, IsStray}
use Rattle.bsp_core.specs.Follows.{Act, Sent, Took, Worked, taken_of}
use Rattle.bsp_core.proofs.Runs.{runs_append}
use Rattle.bsp_core.proofs.Dues.{is_take, first_wanted}
use Rattle.bsp_mail.specs.declared.queues.Queues.{Queues}
use Rattle.bsp_mail.specs.declared.seat.MailSeat.{MailSeat}
use Rattle.bsp_mail.specs.Seats.{IsPeer, sent_to, taken_from, polls_of, only}
use Rattle.bsp_threads.specs.declared.drove.Drove.{Drove}
use Rattle.bsp_threads.specs.declared.drove.Drove.TheVariants.{Finished, Waiting}
use Rattle.bsp_threads.specs.declared.drove.DriveFault.{DriveFault}
use Rattle.bsp_threads.specs.declared.drove.DriveFault.TheVariants.{Stray, Memory}
use Rattle.bsp_threads.specs.declared.seat.Standing.{Standing}
use Rattle.bsp_threads.specs.declared.seat.Standing.TheVariants.{Going, Finished as IsFinished, Strayed, OutOfMemory}
use Rattle.bsp_threads.specs.declared.seat.DriveSeat.{DriveSeat}
use Rattle.bsp_threads.specs.Seats.{works_in, HasMailed, IsReady, HasDone}
use Rattle.bsp_threads.specs.Drives.{fault_of, standing_after, HasStrayed, MayLackOne, DriveEnds, Answers, HasWaited, HasMoved, HasPolled}
use Rattle.bsp_threads.specs.Drives.{IsOnTheWay}
use Rattle.bsp_threads.proofs.Doing.{mailed_none, mailed_work, mailed_put, mailed_unput, mailed_take, mailed_poll, mailed_append}
use Rattle.bsp_threads.proofs.Doing.{works_append}

-- a seat with another node and another mail seat
abbrev pub seat_with : {N : Type 0} → DriveSeat N → N → MailSeat → DriveSeat N
seat_with s node mail = record { node = node; mail = mail; works = s.works; standing = s.standing }

module _ {S : Type 0} (w : View S) where
  strayed_more : (wanted : Wanted) (got : Letter) (xs acts mailed : List Act) → HasStrayed w wanted got acts mailed
      → HasStrayed w wanted got (xs ++ acts) (xs ++ mailed)
  strayed_more wanted got xs acts mailed h = record {
    from = h.from;
    rest = h.rest;
    next = h.next;
    due = h.due;
    misfit = h.misfit;
    mailed_is = ap (λ l. xs ++ l) h.mailed_is ∙ sym (append_assoc xs acts (Took h.from got ∷ []));
  }

  lack_more : (xs acts mailed : List Act) → MayLackOne acts mailed → MayLackOne (xs ++ acts) (xs ++ mailed)
  lack_more xs acts mailed h = ⊎_elim
      (λ (e : mailed ≡ acts). inl (ap (λ l. xs ++ l) e))
      (λ (e : (to : ℕ) × (x : Letter) × (acts ≡ mailed ++ Sent to x ∷ [])). inr (
        e.0,
        e.1,
        ap (λ l. xs ++ l) e.2
            ∙ sym (append_assoc xs mailed (Sent e.0 e.1 ∷ [])),
      ))
      h

  pub ends_more : (k : Standing) (xs acts mailed : List Act) → DriveEnds k w acts mailed → DriveEnds k w (xs ++ acts) (xs ++ mailed)
  ends_more Going xs acts mailed h = ap (λ l. xs ++ l) h
  ends_more IsFinished xs acts mailed h = (ap (λ l. xs ++ l) h.0, h.1)
  ends_more Strayed xs acts mailed h = (h.0, h.1, strayed_more h.0 h.1 xs acts mailed h.2)
  ends_more OutOfMemory xs acts mailed h = lack_more xs acts mailed h

  pub answers_more : (r : Result Drove DriveFault) (xs acts mailed : List Act) → Answers r w acts mailed
      → Answers r w (xs ++ acts) (xs ++ mailed)
  answers_more (Ok Finished) xs acts mailed h = (ap (λ l. xs ++ l) h.0, h.1)
  answers_more (Ok Waiting) xs acts mailed h = ap (λ l. xs ++ l) h
  answers_more (Err (Stray wanted got)) xs acts mailed h = strayed_more wanted got xs acts mailed h
  answers_more (Err Memory) xs acts mailed h = lack_more xs acts mailed h

  pub ends_of : (r : Result Drove DriveFault) (acts mailed : List Act) → Answers r w acts mailed
      → DriveEnds (standing_after r) w acts mailed
  ends_of (Ok Finished) acts mailed h = h
  ends_of (Ok Waiting) acts mailed h = h
  ends_of (Err (Stray wanted got)) acts mailed h = (wanted, got, h)
  ends_of (Err Memory) acts mailed h = h

-- what an action does to the count and to the number
module _ {S : Type 0} (v w : View S) (x : Letter) where
  pub posts_count : Posts v x w → w.face.count ≡ v.face.count
  posts_count h = ap (λ (k : View S). k.face.count) h.3

  pub posts_me : Posts v x w → w.face.me ≡ v.face.me
  posts_me h = ap (λ (k : View S). k.face.me) h.3

  pub takes_count : Takes v x w → w.face.count ≡ v.face.count
  takes_count h = ap (λ (k : View S). k.face.count) h.5

  pub takes_me : Takes v x w → w.face.me ≡ v.face.me
  takes_me h = ap (λ (k : View S). k.face.me) h.5

module _ {N S : Type 0} (view : N → View S) (works : View S → View S → Type 0) where
  pub done_none : (s : DriveSeat N) → HasMoved view works s s
  done_none s = record {
    acts = [];
    mailed = [];
    follows = refl;
    count = refl;
    mail = mailed_none (view s.node).face.count s.mail;
    works_are = λ small. omega arith;
    tied = refl;
  }

  pub then_done : (s t u : DriveSeat N) (E F : List Act → List Act → Type 0) → HasMoved view works s t → HasDone view works t E u
      → ((xs acts mailed : List Act) → E acts mailed → F (xs ++ acts) (xs ++ mailed)) → HasDone view works s F u
  then_done s t u E F a b more =
      let n = (view s.node).face.count in record {
        acts = a.acts ++ b.acts;
        mailed = a.acts ++ b.mailed;
        follows = runs_append works (view s.node) (view t.node) (view u.node) a.acts b.acts a.follows b.follows;
        count = b.count ∙ a.count;
        mail = mailed_append n s.mail t.mail u.mail a.acts b.mailed (subst (λ (l : List Act). HasMailed n s.mail l t.mail) a.tied a.mail)
            (subst (λ (k : ℕ). HasMailed k t.mail b.mailed u.mail) a.count b.mail);
        works_are = λ small.
            let e = works_append a.acts b.acts in
            let one : t.works ≡ s.works + works_in a.acts = a.works_are (omega arith) in
            let two : u.works ≡ t.works + works_in b.acts = b.works_are (omega arith) in
            omega arith;
        tied = more a.acts b.acts b.mailed b.tied;
      }

  pub then_moved : (s t u : DriveSeat N) → HasMoved view works s t → HasMoved view works t u → HasMoved view works s u
  then_moved s t u a b = then_done s t u (λ acts mailed. mailed ≡ acts) (λ acts mailed. mailed ≡ acts) a b
      (λ xs acts mailed e. ap (λ l. xs ++ l) e)

  -- one action
  module _ (s t : DriveSeat N) where
    pub has_sent : (to : ℕ) (x : Letter) → next_of (view s.node).face ≡ Send to → (to < (view s.node).face.count) × (to ≢ s.mail.me)
        → Posts (view s.node) x (view t.node) → t.works ≡ s.works
        → (t.mail.me ≡ s.mail.me) × (t.mail.ins ≡ s.mail.ins) → ((q : ℕ) → IsPeer s.mail.me q → sent_to t.mail q ≡ sent_to s.mail q
        ++ only to q x) → HasMoved view works s t
    has_sent to x due other posts same mail put = record {
      acts = Sent to x ∷ [];
      mailed = Sent to x ∷ [];
      follows = (view t.node, (due, posts), refl);
      count = posts_count (view s.node) (view t.node) x posts;
      mail = mailed_put (view s.node).face.count s.mail t.mail to x other mail put;
      works_are = λ small. omega arith;
      tied = refl;
    }

    pub has_not_sent : (to : ℕ) (x : Letter) → next_of (view s.node).face ≡ Send to → Posts (view s.node) x (view t.node)
        → t.works ≡ s.works
        → (t.mail.me ≡ s.mail.me) × (t.mail.ins ≡ s.mail.ins) → ((q : ℕ) → IsPeer s.mail.me q → sent_to t.mail q ≡ sent_to s.mail q)
        → HasDone view works s (Answers (Err Memory) (view t.node)) t
    has_not_sent to x due posts same mail put = record {
      acts = Sent to x ∷ [];
      mailed = [];
      follows = (view t.node, (due, posts), refl);
      count = posts_count (view s.node) (view t.node) x posts;
      mail = mailed_unput (view s.node).face.count s.mail t.mail mail put;
      works_are = λ small. omega arith;
      tied = inr (to, x, refl);
    }

    pub has_taken : (from : ℕ) (x : Letter) → next_of (view s.node).face ≡ Take from → (from < (view s.node).face.count)
        × (from ≢ s.mail.me) → Takes (view s.node) x (view t.node) → t.works ≡ s.works
        → (t.mail.me ≡ s.mail.me) × (t.mail.outs ≡ s.mail.outs) → ((q : ℕ) → IsPeer s.mail.me q → q ≢ from
        → polls_of t.mail q ≡ polls_of s.mail q)
        → ((q : ℕ) → IsPeer s.mail.me q → taken_from t.mail q ≡ taken_from s.mail q ++ only from q x) → HasMoved view works s t
    has_taken from x due other takes same mail rest take = record {
      acts = Took from x ∷ [];
      mailed = Took from x ∷ [];
      follows = (view t.node, (due, takes), refl);
      count = takes_count (view s.node) (view t.node) x takes;
      mail = mailed_take (view s.node).face.count s.mail t.mail from x other mail rest take;
      works_are = λ small. omega arith;
      tied = refl;
    }

    pub has_polled : (from : ℕ) → next_of (view s.node).face ≡ Take from → IsPeer s.mail.me from → view t.node ≡ view s.node
        → t.works ≡ s.works
        → (t.mail.me ≡ s.mail.me) × (t.mail.outs ≡ s.mail.outs) → ((q : ℕ) → IsPeer s.mail.me q → q ≢ from
        → polls_of t.mail q ≡ polls_of s.mail q)
        → polls_of t.mail from ≡ polls_of s.mail from + 1 → ((q : ℕ) → IsPeer s.mail.me q → taken_from t.mail q ≡ taken_from s.mail q)
        → HasPolled view works s t
    has_polled from due peer node same mail rest poll take = record {
      moved = record {
        acts = [];
        mailed = [];
        follows = node;
        count = ap (λ (k : View S). k.face.count) node;
        mail = mailed_poll (view s.node).face.count s.mail t.mail from mail rest poll take;
        works_are = λ small. omega arith;
        tied = refl;
      };
      same = node;
      from = from;
      peer = peer;
      next = due;
      taken = take from peer;
      poll = poll;
    }

    pub has_strayed : (from : ℕ) (x got : Letter) (wanted : Wanted) → next_of (view s.node).face ≡ Take from
        → (from < (view s.node).face.count) × (from ≢ s.mail.me)
        → IsStray (view s.node) x (Err (IsStrayed wanted got)) (view t.node) → t.works ≡ s.works
        → (t.mail.me ≡ s.mail.me) × (t.mail.outs ≡ s.mail.outs) → ((q : ℕ) → IsPeer s.mail.me q → q ≢ from
        → polls_of t.mail q ≡ polls_of s.mail q)
        → ((q : ℕ) → IsPeer s.mail.me q → taken_from t.mail q ≡ taken_from s.mail q ++ only from q x)
        → HasDone view works s (Answers (Err (Stray wanted got)) (view t.node)) t
    has_strayed from x got wanted due other stray same mail rest take =
        let first = is_take (view s.node).face from due in
        let number : from ≡ stray.3.0 = first_wanted from stray.3.0 first.1.0 wanted first.1.1 stray.3.1 (sym first.1.2 ∙ stray.3.2) in
        record {
          acts = [];
          mailed = Took from x ∷ [];
          follows = stray.2;
          count = ap (λ (k : View S). k.face.count) stray.2;
          mail = mailed_take (view s.node).face.count s.mail t.mail from x other mail rest take;
          works_are = λ small. omega arith;
          tied = record {
            from = from;
            rest = stray.3.1;
            next = ap (λ (k : View S). next_of k.face) stray.2 ∙ due;
            due = ap (λ (k : View S). k.face.due) stray.2 ∙ stray.3.2 ∙ ap (λ (k : ℕ). (k, wanted) ∷ stray.3.1) (sym number);
            misfit = subst (λ (k : Letter). ¬ Fits wanted k) (sym stray.1) stray.0;
            mailed_is = ap (λ (k : Letter). Took from k ∷ []) (sym stray.1);
          };
        }

    pub has_strayed_by : (fault : TakeFault) (from : ℕ) (x : Letter) → next_of (view s.node).face ≡ Take from
        → (from < (view s.node).face.count) × (from ≢ s.mail.me)
        → IsStray (view s.node) x (Err fault) (view t.node) → t.works ≡ s.works
        → (t.mail.me ≡ s.mail.me) × (t.mail.outs ≡ s.mail.outs) → ((q : ℕ) → IsPeer s.mail.me q → q ≢ from
        → polls_of t.mail q ≡ polls_of s.mail q)
        → ((q : ℕ) → IsPeer s.mail.me q → taken_from t.mail q ≡ taken_from s.mail q ++ only from q x)
        → HasDone view works s (Answers (Err (fault_of fault)) (view t.node)) t
    has_strayed_by (IsStrayed wanted got) from x due other stray same mail rest take = has_strayed from x got wanted due other stray same
        mail rest take

    pub has_worked : next_of (view s.node).face ≡ Work → works (view s.node) (view t.node)
        → (view t.node).face.count ≡ (view s.node).face.count → t.mail ≡ s.mail
        → (s.works + 1 < 2 ^ 64 → t.works ≡ s.works + 1) → HasMoved view works s t
    has_worked due work count mail more = record {
      acts = Worked ∷ [];
      mailed = Worked ∷ [];
      follows = (view t.node, (due, work), refl);
      count = count;
      mail = subst (λ (k : MailSeat). HasMailed (view s.node).face.count s.mail (Worked ∷ []) k) (sym mail)
          (mailed_work (view s.node).face.count s.mail);
      works_are = λ small. more small;
      tied = refl;
    }

    pub has_not_worked : view t.node ≡ view s.node → t.mail ≡ s.mail → t.works ≡ s.works
        → HasDone view works s (Answers (Err Memory) (view t.node)) t
    has_not_worked node mail same = record {
      acts = [];
      mailed = [];
      follows = node;
      count = ap (λ (k : View S). k.face.count) node;
      mail = subst (λ (k : MailSeat). HasMailed (view s.node).face.count s.mail [] k) (sym mail)
          (mailed_none (view s.node).face.count s.mail);
      works_are = λ small. omega arith;
      tied = inl refl;
    }

  -- within a drive
  module _ (queues : Queues) where
    pub sets_out : (s : DriveSeat N) → IsReady view queues s → IsOnTheWay view works queues s 0 s
    sets_out s ready = record { ready = ready; moved = done_none s; polled = inl refl }

    pub moves_on : (s t u : DriveSeat N) (n : ℕ) → IsOnTheWay view works queues s n t → IsReady view queues u → HasMoved view works t u
        → IsOnTheWay view works queues s 0 u
    moves_on s t u n way ready moved = record { ready = ready; moved = then_moved s t u way.moved moved; polled = inl refl }

  take_same : (v : View S) (a b : ℕ) → next_of v.face ≡ Take a → next_of v.face ≡ Take b → a ≡ b
  take_same v a b p q = let e : Take a ≡ Take b = sym p ∙ q in cc

  no_more : (xs ys zs : List Letter) → ys ≡ xs ++ zs → ys ≡ xs → zs ≡ []
  no_more xs ys [] e same = refl
  no_more xs ys (z ∷ zs) e same = absurd (omega (arith, length-append xs (z ∷ zs), ap length e, ap length same))

  pub waits_on : (queues : Queues) (s t u : DriveSeat N) (n : ℕ) → IsOnTheWay view works queues s n t → IsReady view queues u
      → HasPolled view works t u → IsOnTheWay view works queues s (n + 1) u
  waits_on queues s t u n way ready polled =
      let from = polled.from in
      let peer : IsPeer s.mail.me from = (polled.peer.0, λ e. polled.peer.1 (e ∙ sym way.moved.mail.me)) in
      let moved = then_moved s t u way.moved polled.moved in
      let kept : taken_from u.mail from ≡ taken_from s.mail from → taken_from t.mail from ≡ taken_from s.mail from = λ e. sym polled.taken
      ∙ e in
      let poll = polled.poll in
      record {
        ready = ready;
        moved = moved;
        polled = inr record {
          from = from;
          next = ap (λ (k : View S). next_of k.face) polled.same ∙ polled.next;
          least = ⊎_elim (λ (z : n ≡ 0). let r : n + 1 ≤ polls_of u.mail from = omega arith in r)
              (λ (p : HasWaited view s t n). let x : n ≤ polls_of t.mail from = subst (λ (k : ℕ). n ≤ polls_of t.mail k)
              (take_same (view t.node) p.from from p.next polled.next) p.least in let r : n + 1 ≤ polls_of u.mail from =
              omega arith in r)
              way.polled;
          grown = λ e. ⊎_elim
              (λ (z : n ≡ 0).
              let m = way.moved in
              let none = no_more (taken_from s.mail from) (taken_from t.mail from) (taken_of from m.mailed) (m.mail.taken from peer)
              (kept e) in
              let x = m.mail.polls from peer none in
              let r : polls_of s.mail from + (n + 1) ≤ polls_of u.mail from = omega arith in r)
              (λ (p : HasWaited view s t n).
              let x = subst (λ (k : ℕ). taken_from t.mail k ≡ taken_from s.mail k → polls_of s.mail k + n ≤ polls_of t.mail k)
              (take_same (view t.node) p.from from p.next polled.next) p.grown (kept e) in
              let r : polls_of s.mail from + (n + 1) ≤ polls_of u.mail from = omega arith in r)
              way.polled;
        };
      }

  pub waits_not : (s t : DriveSeat N) (n : ℕ) → 0 < n → (n ≡ 0) ⊎ HasWaited view s t n → HasWaited view s t n
  waits_not s t n some p = ⊎_elim (λ (z : n ≡ 0). absurd (omega arith)) (λ (h : HasWaited view s t n). h) p

  -- the last step of a drive
  pub ends_at : (s t u : DriveSeat N) (r : Result Drove DriveFault) → HasMoved view works s t
      → HasDone view works t (Answers r (view u.node)) u → HasDone view works s (Answers r (view u.node)) u
  ends_at s t u r a b = then_done s t u (Answers r (view u.node)) (Answers r (view u.node)) a b (answers_more (view u.node) r)
