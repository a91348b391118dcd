-- What the prefix law says of a run.
use Rattle.std.proofs.Common.{◌≡◌, ◌≢◌, ℕ, ◌<◌, ◌≤◌, List, [], ◌∷◌, ◌++◌, length, map, get_or, Some, sym, refl, ap, ◌∙◌, subst, ⊎_elim}
use Rattle.std.proofs.Common.{arith, append_assoc, append-nil, length-append}
use Rattle.std.specs.List.{slice_get}
use Rattle.std.proofs.lemmas.Option.{slice_get_within}
use Rattle.std.proofs.lemmas.Bool.{cases_lt, cases_eq}
use Rattle.std.proofs.lemmas.List.{length-map}
use Rattle.std.proofs.lemmas.Bool.Decides.{nat_tests}
use Rattle.chaos_letter.specs.declared.letter.Letter.{Letter}
use Rattle.chaos_letter.specs.declared.wanted.Wanted.{Wanted}
use Rattle.chaos_letter.specs.Fits.{Fits}
use Rattle.bsp_core.specs.declared.phased.Want.TheVariants.{Done}
use Rattle.bsp_core.specs.Views.{Face, View, next_of, WorksFor}
use Rattle.bsp_core.specs.Lockstep.{IsEnd, upto}
use Rattle.bsp_core.specs.Turns.{Begins, AreDone}
use Rattle.bsp_core.specs.Follows.{Act, Sent, Took, Worked, Follows, put_to, taken_of, AllDriven, ArePrefixes as PrefixesBelow}
use Rattle.bsp_core.specs.Follows.{AreInLockstep}
use Rattle.bsp_core.proofs.Scene.{get_map, get_below}
use Rattle.bsp_core.proofs.Runs.{put_append, taken_append}
use Rattle.bsp_mail.specs.declared.seat.MailSeat.{MailSeat}
use Rattle.bsp_mail.specs.declared.queues.Queues.{Queues}
use Rattle.bsp_mail.specs.Mails.{sent_on, taken_on, IsPair, IsFresh, ArePrefixes}
use Rattle.bsp_threads.specs.declared.seat.Standing.{Standing}
use Rattle.bsp_threads.specs.declared.seat.Standing.TheVariants.{Going, Finished, Strayed, OutOfMemory}
use Rattle.bsp_threads.specs.Seats.{AreWithOthers}
use Rattle.bsp_threads.specs.Drives.{DriveEnds}
use Rattle.bsp_threads.specs.Alls.{AreNumbered, WasLed, HaveRun, AllFollow, AreEmptyFrom, AreOfPlan, AreAtEnd, IsLawfulRun}
use Rattle.bsp_threads.proofs.Doing.{none_put, none_taken, none_left}

-- what the node posted begins with what was put, and what was taken begins with what the node took
module _ {S : Type 0} (w : View S) (q : ℕ) where
  pub put_begins : (k : Standing) (acts mailed : List Act) → DriveEnds k w acts mailed → (rest : List Letter)
      × (put_to q acts ≡ put_to q mailed ++ rest)
  put_begins Going acts mailed h = ([], ap (put_to q) (sym h) ∙ sym (append-nil (put_to q mailed)))
  put_begins Finished acts mailed h = ([], ap (put_to q) (sym h.0) ∙ sym (append-nil (put_to q mailed)))
  put_begins Strayed acts mailed h = (
    [],
    sym (append-nil (put_to q acts)) ∙ sym (put_append q acts (Took h.2.from h.1 ∷ []))
        ∙ ap (put_to q) (sym h.2.mailed_is) ∙ sym (append-nil (put_to q mailed)),
  )
  put_begins OutOfMemory acts mailed h = ⊎_elim
      (λ (e : mailed ≡ acts). ([], ap (put_to q) (sym e) ∙ sym (append-nil (put_to q mailed))))
      (λ (e : (to : ℕ) × (x : Letter) × (acts ≡ mailed ++ Sent to x ∷ [])). (
        put_to q (Sent e.0 e.1 ∷ []),
        ap (put_to q) e.2
            ∙ put_append q mailed (Sent e.0 e.1 ∷ []),
      ))
      h

  pub take_begins : (k : Standing) (acts mailed : List Act) → DriveEnds k w acts mailed → (rest : List Letter)
      × (taken_of q mailed ≡ taken_of q acts ++ rest)
  take_begins Going acts mailed h = ([], ap (taken_of q) h ∙ sym (append-nil (taken_of q acts)))
  take_begins Finished acts mailed h = ([], ap (taken_of q) h.0 ∙ sym (append-nil (taken_of q acts)))
  take_begins Strayed acts mailed h = (
    taken_of q (Took h.2.from h.1 ∷ []),
    ap (taken_of q) h.2.mailed_is
        ∙ taken_append q acts (Took h.2.from h.1 ∷ []),
  )
  take_begins OutOfMemory acts mailed h = ⊎_elim
      (λ (e : mailed ≡ acts). ([], ap (taken_of q) e ∙ sym (append-nil (taken_of q acts))))
      (λ (e : (to : ℕ) × (x : Letter) × (acts ≡ mailed ++ Sent to x ∷ [])). (
        [],
        sym (append-nil (taken_of q mailed))
            ∙ sym (taken_append q mailed (Sent e.0 e.1 ∷ [])) ∙ ap (taken_of q) (sym e.2) ∙ sym (append-nil (taken_of q acts)),
      ))
      h

last_other : (me count from : ℕ) (x : Letter) (xs : List Act) → AreWithOthers me count (xs ++ Took from x ∷ []) → (from < count)
    × (from ≢ me)
last_other me count from x [] h = (h.0, h.1)
last_other me count from x (Sent to y ∷ xs) h = last_other me count from x xs h.2
last_other me count from x (Took q y ∷ xs) h = last_other me count from x xs h.2
last_other me count from x (Worked ∷ xs) h = last_other me count from x xs h

taken_same : (from : ℕ) (x : Letter) → taken_of from (Took from x ∷ []) ≡ x ∷ []
taken_same from x = grind (arith, nat_tests)

abbrev head_want : Wanted → List (ℕ × Wanted) → Wanted
head_want d [] = d
head_want d (x ∷ xs) = x.1

first_want : {a b : ℕ} {x y : Wanted} {xs ys : List (ℕ × Wanted)} → (a, x) ∷ xs ≡ (b, y) ∷ ys → x ≡ y
first_want {x = x} e = ap (λ (z : List (ℕ × Wanted)). head_want x z) e

next_in : (xs zs : List Letter) (x d : Letter) → get_or ((xs ++ x ∷ []) ++ zs) (length xs) d ≡ x
next_in [] zs x d = refl
next_in (y ∷ xs) zs x d = next_in xs zs x d

module _ {N S P : Type 0} (view : N → View S) (is : P → Type 0) (count : P → ℕ) (rows : P → ℕ → ℕ → Face) (holds : P → ℕ → ℕ → S → Type 0)
    (plan : P) (old new : List N) (mails : List MailSeat) (together : Standing) where
  abbrev works : View S → View S → Type 0
  works = WorksFor is count rows holds

  module _ (few : count plan ≤ 16) (begins : Begins (rows plan) (holds plan) (count plan) (map view old))
      (run : HaveRun view works old new mails together) where
    abbrev n : ℕ
    n = count plan

    abbrev sent : ℕ → ℕ → List Letter
    sent p q = put_to q (run.mailed p)

    abbrev taken : ℕ → ℕ → List Letter
    taken p q = taken_of p (run.acts q)

    long : length old ≡ n
    long = sym (length-map old view) ∙ begins.0

    long_new : length (map view new) ≡ n
    long_new = length-map new view ∙ run.count ∙ long

    node_at : (p : ℕ) → p < n → (x : N) × (y : N) × (slice_get old p ≡ Some x) × (slice_get new p ≡ Some y)
        × WasLed view works (length old) mails p x y (run.standings p) (run.acts p) (run.mailed p)
    node_at p low =
        let x = get_below old p (let e = long in omega arith) in
        let y = get_below new p (let e = long in let f = run.count in omega arith) in
        (x.0, y.0, x.1, y.1, run.led p x.0 y.0 x.1 y.1)

    pair_of : (p q : ℕ) → p < n → q < n → p ≢ q → IsPair p q
    pair_of p q a b apart = let f = few in ((let r : p < 16 = omega arith in r), ((let r : q < 16 = omega arith in r), λ e. apart (sym e)))

    sent_is : (p q : ℕ) → p < n → q < n → p ≢ q → sent_on mails p q ≡ sent p q
    sent_is p q a b apart = let o = node_at p a in o.4.sent q (pair_of p q a b apart)

    taken_is : (p q : ℕ) → p < n → q < n → p ≢ q → taken_on mails p q ≡ taken_of p (run.mailed q)
    taken_is p q a b apart = let o = node_at q b in o.4.taken p (pair_of q p b a (λ e. apart (sym e)))

    -- the premises of the law
    pub driven : AllDriven works (map view old) (map view new) sent taken
    driven p v w av aw =
        let low : p < n = let e = slice_get_within (map view old) p v av in let f = begins.0 in omega arith in
        let o = node_at p low in
        let k = o.4 in
        let ev : view o.0 ≡ v = let e : Some (view o.0) ≡ Some v = sym (get_map view old p o.0 o.2) ∙ av in cc in
        let ew : view o.1 ≡ w = let e : Some (view o.1) ≡ Some w = sym (get_map view new p o.1 o.3) ∙ aw in cc in
        record {
          acts = run.acts p;
          runs = subst (λ (z : View S). Follows works v (run.acts p) z) ew
              (subst (λ (z : View S). Follows works z (run.acts p) (view o.1)) ev k.follows);
          put = λ q. put_begins (view o.1) q (run.standings p) (run.acts p) (run.mailed p) k.tied;
          took = λ q. refl;
        }

    pub prefixes : PrefixesBelow n taken sent
    prefixes p q a b =
        let o = node_at q b in
        let t = take_begins (view o.1) p (run.standings q) (run.acts q) (run.mailed q) o.4.tied in
        ⊎_elim
        (λ (e : p ≡ q).
        let none : taken_of p (run.mailed q) ≡ [] = none_taken q (length old) p (run.mailed q) o.4.others (λ l apart. apart e) in
        let none' : taken_of p (run.acts q) ≡ [] = (none_left (taken_of p (run.acts q)) t.0 (sym t.1 ∙ none)).0 in
        (sent p q, ap (λ l. l ++ sent p q) (sym none')))
        (λ (apart : p ≢ q).
        let r = run.prefixes p q (pair_of p q a b apart) in (
          t.0 ++ r.0,
          sym (sent_is p q a b apart) ∙ r.1 ∙ ap (λ l. l ++ r.0) (taken_is p q a b apart ∙ t.1)
              ∙ append_assoc (taken p q) t.0 r.0,
        ))
        (cases_eq p q)

    module _ (lock : AreInLockstep (rows plan) (holds plan) n (map view new) sent taken) where
      -- apart letter strayed
      pub none_strayed : together ≢ Strayed
      none_strayed e =
          let s = run.strayed e in
          let q = s.0 in
          let b : q < n = let f = s.1 in let g = long in omega arith in
          let o = node_at q b in
          let w = view o.1 in
          let tied : DriveEnds Strayed w (run.acts q)
          (run.mailed q) = subst (λ (k : Standing). DriveEnds k w (run.acts q) (run.mailed q)) s.2
          o.4.tied in
          let h = tied.2 in
          let p = h.from in
          let other = last_other q (length old) p tied.1 (run.acts q) (subst (λ (l : List Act). AreWithOthers q (length old) l)
          h.mailed_is o.4.others) in
          let a : p < n = let f = other.0 in let g = long in omega arith in
          let xs = taken p q in
          let one : taken_of p (run.mailed q) ≡ xs ++ tied.1 ∷ [] = ap (taken_of p) h.mailed_is
          ∙ taken_append p (run.acts q) (Took p tied.1 ∷ []) ∙ ap (λ l. xs ++ l) (taken_same p tied.1) in
          let r = run.prefixes p q (pair_of p q a b other.1) in
          let all : sent p q ≡ (xs ++ tied.1 ∷ []) ++ r.0 = sym (sent_is p q a b other.1) ∙ r.1
          ∙ ap (λ l. l ++ r.0) (taken_is p q a b other.1 ∙ one) in
          let more : length xs < length (sent p q) = omega (
            arith,
            ap length all,
            length-append (xs ++ tied.1 ∷ []) r.0,
            length-append xs (tied.1 ∷ []),
          ) in
          let f = lock.fits p q a b w (get_map view new q o.1 o.3) h.next more in
          let wanted : f.0 ≡ tied.0 = first_want (sym f.2 ∙ h.due) in
          let fit : Fits f.0 tied.1 = subst (λ (x : Letter). Fits f.0 x) (ap (λ l. get_or l (length xs) tied.1) all
          ∙ next_in xs r.0 tied.1 tied.1) (f.3 tied.1) in
          h.misfit (subst (λ (k : Wanted). Fits k tied.1) wanted fit)

      pub of_plan : ((end t p q : ℕ) → IsEnd (rows plan) end → p < n → (rest : List Letter)
          × (upto (rows plan) p q end ≡ upto (rows plan) p q t ++ rest)) → AreOfPlan (rows plan) n mails
      of_plan within end p q at a b apart =
          let f = lock.prefix p q a b in
          let w = within end f.0 p q at a in (
            f.1 ++ w.0,
            w.1 ∙ ap (λ l. l ++ w.0) f.2 ∙ append_assoc (sent p q) f.1 w.0
                ∙ ap (λ l. l ++ (f.1 ++ w.0)) (sym (sent_is p q a b apart)),
          )

      done : together ≡ Finished → (p : ℕ) (v : View S) → slice_get (map view new) p ≡ Some v → next_of v.face ≡ Done
      done e p v av =
          let low : p < n = let w = slice_get_within (map view new) p v av in let f = long_new in omega arith in
          let o = node_at p low in
          let ev : view o.1 ≡ v = let k : Some (view o.1) ≡ Some v = sym (get_map view new p o.1 o.3) ∙ av in cc in
          let tied : DriveEnds Finished (view o.1) (run.acts p) (run.mailed p) =
          subst (λ (k : Standing). DriveEnds k (view o.1) (run.acts p) (run.mailed p)) (run.finished e p (let f = long in omega arith))
          o.4.tied in
          subst (λ (k : View S). next_of k.face ≡ Done) ev tied.1

      pub at_end : together ≡ Finished → AreAtEnd (rows plan) (holds plan) n (map view new) mails
      at_end e =
          let over = lock.over (done e) in record {
            phase = over.0;
            end = over.1;
            count = long_new;
            nodes = λ p v av. over.3 p v (let w = slice_get_within (map view new) p v av in let f = long_new in omega arith) av;
            sent = λ p q a b apart. sent_is p q a b apart ∙ (over.2 p q a b).0;
            taken = λ p q a b apart.
                let o = node_at q b in
                let tied : DriveEnds Finished (view o.1) (run.acts q) (run.mailed q) =
                subst (λ (k : Standing). DriveEnds k (view o.1) (run.acts q) (run.mailed q))
                (run.finished e q (let f = long in omega arith)) o.4.tied in
                taken_is p q a b apart ∙ ap (taken_of p) tied.0 ∙ (over.2 p q a b).1;
          }

      pub all_done : together ≡ Finished → AreDone view new
      all_done e p v av = done e p (view v) (get_map view new p v av)

    pub lawful_run : ((before after : List (View S)) (puts takes : ℕ → ℕ → List Letter)
        → Begins (rows plan) (holds plan) (count plan) before → length after ≡ count plan → AllDriven works before after puts takes
        → PrefixesBelow (count plan) takes puts → AreInLockstep (rows plan) (holds plan) (count plan) after puts takes)
        → ((end t p q : ℕ) → IsEnd (rows plan) end → p < count plan → (rest : List Letter)
        × (upto (rows plan) p q end ≡ upto (rows plan) p q t ++ rest))
        → IsLawfulRun view (rows plan) (holds plan) (count plan) new mails together
    lawful_run law within = let lock = law (map view old) (map view new) sent taken begins long_new driven prefixes in record {
      straight = none_strayed lock;
      of_plan = of_plan lock within;
      done = all_done lock;
      at_end = at_end lock;
    }

-- of equal lists
pub run_of : {N S : Type 0} (view : N → View S) (works : View S → View S → Type 0) (xs old ys new : List N) (mails : List MailSeat)
    (together : Standing) → xs ≡ old → new ≡ ys → HaveRun view works xs ys mails together → HaveRun view works old new mails together
run_of {N} view works xs old ys new mails together a b run =
    subst (λ (l : List N). HaveRun view works l new mails together) a
    (subst (λ (l : List N). HaveRun view works xs l mails together) (sym b) run)

module _ {N S : Type 0} (view : N → View S) (works : View S → View S → Type 0) (old new : List N) (mails : List MailSeat)
    (together : Standing) (run : HaveRun view works old new mails together) where
  pub run_follows : AllFollow view works old new
  run_follows = record { count = run.count; each = λ j x y ax ay. (run.acts j, (run.led j x y ax ay).follows) }

  there : (p : ℕ) → p < length old → (x : N) × (y : N) × (slice_get old p ≡ Some x) × (slice_get new p ≡ Some y)
  there p low = let x = get_below old p low in let y = get_below new p (let f = run.count in omega arith) in (x.0, y.0, x.1, y.1)

  pub run_empty : AreEmptyFrom (length old) mails
  run_empty p q pair far = (
    ⊎_elim
        (λ (a : p < length old).
        let o = there p a in let k = run.led p o.0 o.1 o.2 o.3 in
        k.sent q pair ∙ none_put p (length old) q (run.mailed p) k.others
        (λ l apart. ⊎_elim (λ (z : length old ≤ p). absurd (omega arith)) (λ (z : length old ≤ q). absurd (omega arith)) far))
        (λ (a : length old ≤ p). run.not_sent p q pair a)
        (cases_lt p (length old)),
    ⊎_elim
        (λ (a : q < length old).
        let o = there q a in let k = run.led q o.0 o.1 o.2 o.3 in
        k.taken p (pair.1.0, (pair.0, λ e. pair.1.1 (sym e))) ∙ none_taken q (length old) p (run.mailed q) k.others
        (λ l apart. ⊎_elim (λ (z : length old ≤ p). absurd (omega arith)) (λ (z : length old ≤ q). absurd (omega arith)) far))
        (λ (a : length old ≤ q). run.not_taken p q pair a)
        (cases_lt q (length old)),
  )

-- nothing has happened
module _ {N S : Type 0} (view : N → View S) (works : View S → View S → Type 0) (old : List N) (queues : Queues) (mails : List MailSeat)
    (fresh : IsFresh queues mails) where
  pub idle_follows : AllFollow view works old old
  idle_follows = record {
    count = refl;
    each = λ j x y ax ay. (
      [],
      ap view (let e : Some y ≡ Some x = sym ay ∙ ax in let f : y ≡ x = cc in
          f),
    );
  }

  pub idle_prefixes : ArePrefixes mails
  idle_prefixes p q pair = (sent_on mails p q, ap (λ l. l ++ sent_on mails p q) (sym (fresh.taken p q pair)))

  pub idle_empty : AreEmptyFrom (length old) mails
  idle_empty p q pair far = (fresh.sent p q pair, fresh.taken p q pair)

  pub idle_of_plan : (rows : ℕ → ℕ → Face) (holds : ℕ → ℕ → S → Type 0) (n : ℕ) → AreNumbered view old
      → Begins rows holds n (map view old) → AreOfPlan rows n mails
  idle_of_plan rows holds n numbers begins end p q at a b apart =
      let few : n ≤ 16 = omega (arith, length-map old view, begins.0, numbers.few) in
      let pair : IsPair p q = ((let r : p < 16 = omega arith in r), ((let r : q < 16 = omega arith in r), λ e. apart (sym e))) in
      (upto rows p q end, ap (λ l. l ++ upto rows p q end) (sym (fresh.sent p q pair)))
