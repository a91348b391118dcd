-- From the seats as a run begins to the seats as it ends.
use Rattle.std.proofs.Common.{◌≡◌, ℕ, zero, suc, ◌<◌, ◌≤◌, List, [], ◌∷◌, ◌++◌, length, map, get_or, take, Some, sym, refl, ap, ◌∙◌, subst}
use Rattle.std.proofs.Common.{⊎_elim, arith}
use Rattle.std.specs.List.{slice_get, All, AllZip}
use Rattle.std.proofs.lemmas.Bool.{cases_lt}
use Rattle.std.proofs.lemmas.List.{length-map}
use Rattle.std.proofs.lemmas.Option.{slice_get_within, slice_get-get_or}
use Rattle.std.proofs.lemmas.List.Elements.{AllZip-get_or, length_all_zip}
use Rattle.bsp_core.specs.Views.{Face, View, Meets}
use Rattle.bsp_core.specs.Turns.{Begins}
use Rattle.bsp_core.specs.Follows.{Act, put_to, taken_of}
use Rattle.bsp_core.proofs.Scene.{get_map}
use Rattle.bsp_core.proofs.Runs.{choose}
use Rattle.bsp_mail.specs.declared.seat.MailSeat.{MailSeat}
use Rattle.bsp_mail.specs.declared.queues.Queues.{Queues}
use Rattle.bsp_mail.specs.Seats.{IsPeer, IsOpenOn, sent_to, taken_from, hand_at, below}
use Rattle.bsp_mail.specs.Mails.{part, outs_of, ins_of, sent_on, taken_on, IsPair, IsWhole, IsFresh, SameLists, ArePrefixes}
use Rattle.bsp_mail.proofs.Lists.{get_there}
use Rattle.bsp_mail.proofs.Wholes.{part_got}
use Rattle.bsp_threads.specs.declared.seat.Standing.{Standing}
use Rattle.bsp_threads.specs.declared.seat.Standing.TheVariants.{Going, Finished, Strayed}
use Rattle.bsp_threads.specs.declared.seat.DriveSeat.{DriveSeat}
use Rattle.bsp_threads.specs.Seats.{AreWithOthers, IsReady, HasDone}
use Rattle.bsp_threads.specs.Drives.{DriveEnds}
use Rattle.bsp_threads.specs.Rounds.{HasCome, HasGone, HasFinished, SomeStrayed}
use Rattle.bsp_threads.specs.Alls.{AreSeated, AreBack, SameFrom, AreNumbered, WasLed, HaveRun}
use Rattle.bsp_threads.proofs.Acting.{done_none}

some_same : {A : Type 0} (x y : A) → Some x ≡ Some y → x ≡ y
some_same x y e = cc

pub take_whole : {A : Type 0} (ys zs : List A) (n : ℕ) → length ys ≡ n → take n (ys ++ zs) ≡ ys
take_whole [] zs zero e = refl
take_whole [] zs (suc n) e = absurd (omega arith)
take_whole (y ∷ ys) zs zero e = absurd (omega arith)
take_whole (y ∷ ys) zs (suc n) e = ap (λ l. y ∷ l) (take_whole ys zs n (omega arith))

got_map : {A B : Type 0} (f : A → B) (d : B) (xs : List A) (j : ℕ) (x : A) → slice_get xs j ≡ Some x → get_or (map f xs) j d ≡ f x
got_map f d [] j x e = absurd (cc)
got_map f d (z ∷ zs) zero x e = ap f (some_same z x e)
got_map f d (z ∷ zs) (suc j) x e = got_map f d zs j x e

-- nodes that begin a plan are numbered
pub numbered : {N S : Type 0} (view : N → View S) (rows : ℕ → ℕ → Face) (holds : ℕ → ℕ → S → Type 0) (n : ℕ) (ns : List N) → n ≤ 16
    → Meets n (rows 0) → Begins rows holds n (map view ns) → AreNumbered view ns
numbered view rows holds n ns few meets begins = let long : length ns ≡ n = sym (length-map ns view) ∙ begins.0 in record {
  few = subst (λ (k : ℕ). k ≤ 16) (sym long) few;
  each = λ j x at.
      let low : j < n = let w = slice_get_within ns j x at in omega arith in
      let face = (begins.1 j (view x) (get_map view ns j x at)).0 in
      (ap (λ (k : Face). k.me) face ∙ meets.me j low, ap (λ (k : Face). k.count) face ∙ meets.count j low ∙ sym long);
}

-- the lists of a pair are those of its seats
module _ (ms : List MailSeat) (j q : ℕ) (m : MailSeat) (at : slice_get ms j ≡ Some m) (me : m.me ≡ j) where
  pub sent_at : sent_on ms j q ≡ sent_to m q
  sent_at = ap (λ l. (hand_at l (below j q)).sent) (part_got outs_of [] ms j m at)
      ∙ ap (λ (k : ℕ). (hand_at m.outs.items (below k q)).sent) (sym me)

  pub taken_at : taken_on ms q j ≡ taken_from m q
  taken_at = ap (λ l. (hand_at l (below j q)).taken) (part_got ins_of [] ms j m at)
      ∙ ap (λ (k : ℕ). (hand_at m.ins.items (below k q)).taken) (sym me)

module _ {N S : Type 0} (view : N → View S) (works : View S → View S → Type 0) (queues : Queues) where
  pub all_ready : (ns : List N) (ms : List MailSeat) (xs : List (DriveSeat N)) → IsWhole queues ms → AreNumbered view ns
      → AreSeated ns ms xs → All (IsReady view queues) xs
  all_ready ns ms xs whole numbers seated k d fits =
      let s = get_or xs k d in
      let at = seated.each k s (slice_get-get_or xs k d fits) in
      let o = whole.each k s.mail at.1 in
      record { mail = o.1; number = (numbers.each k s.node at.0).0 ∙ sym o.0 }

  module _ (ns ns' : List N) (ms ms' ms2 ms3 : List MailSeat) (xs ys : List (DriveSeat N)) (fresh : IsFresh queues ms)
      (numbers : AreNumbered view ns) (seated : AreSeated ns ms xs) (rest : SameFrom (length ns) ms ms')
      (gone : AllZip (HasGone view works queues) xs ys) (back : AreBack ys ns' ms2) (rest' : SameFrom (length ys) ms' ms2) where
    long : length ys ≡ length ns
    long = sym (length_all_zip (HasGone view works queues) xs ys gone) ∙ seated.count

    -- the seat at a place, as it began and as it ended
    came : (j : ℕ) (t : DriveSeat N) → slice_get ys j ≡ Some t → (s : DriveSeat N) × (slice_get xs j ≡ Some s) × IsReady view queues t
        × HasCome view works s t
    came j t at =
        let low : j < length ys = slice_get_within ys j t at in
        let low' : j < length xs = let e = seated.count in let f = long in omega arith in
        let s = get_or xs j t in
        let here = slice_get-get_or xs j t low' in
        let is : get_or ys j t ≡ t = some_same (get_or ys j t) t (sym (slice_get-get_or ys j t low) ∙ at) in
        let g : HasGone view works queues s t = subst (λ (k : DriveSeat N). HasGone view works queues s k) is
        (AllZip-get_or (HasGone view works queues) xs ys j t t gone low') in
        let going = (seated.each j s here).2 in
        let begun : HasCome view works s s = subst (λ (k : Standing). HasDone view works s (DriveEnds k (view s.node)) s) (sym going)
        (done_none view works s) in
        (s, here, g.ready, g.come s begun)

    pub whole_again : IsWhole queues ms2
    whole_again = record {
      count = rest'.0 ∙ rest.0 ∙ fresh.whole.count;
      each = λ j m at. ⊎_elim
          (λ (x : j < length ys).
          let y = get_there ys j x in
          let c = came j y.0 y.1 in
          let is : y.0.mail ≡ m = some_same y.0.mail m (sym (back.each j y.0 y.1).1 ∙ at) in
          let o = seated.each j c.0 c.1 in
          subst (λ (k : MailSeat). (k.me ≡ j) × IsOpenOn queues k) is (c.3.mail.me ∙ (fresh.whole.each j c.0.mail o.1).0, c.2.mail))
          (λ (x : length ys ≤ j). fresh.whole.each j m (sym (rest.1 j (let e = long in omega arith)) ∙ sym (rest'.1 j x) ∙ at))
          (cases_lt j (length ys));
    }

    same_part : {A : Type 0} (f : MailSeat → A) (d : A) (j : ℕ) → j < 16 → length ns ≤ j → part f d ms2 j ≡ part f d ms j
    same_part f d j low far =
        let e : length ms ≡ 16 = fresh.whole.count in
        let m = get_there ms j (omega arith) in
        let at : slice_get ms2 j ≡ Some m.0 = rest'.1 j (let k = long in omega arith) ∙ rest.1 j far ∙ m.1 in
        part_got f d ms2 j m.0 at ∙ sym (part_got f d ms j m.0 m.1)

    module _ (same : SameLists ms2 ms3) where
      -- a seat with a node
      abbrev Led : ℕ → (List Act × List Act) → Type 0
      Led j both = (x y : N) (t : DriveSeat N) → slice_get ns j ≡ Some x → slice_get ns' j ≡ Some y → slice_get ys j ≡ Some t
          → WasLed view works (length ns) ms3 j x y t.standing both.0 both.1

      led_by : (j : ℕ) (s t : DriveSeat N) → slice_get xs j ≡ Some s → slice_get ys j ≡ Some t → (h : HasCome view works s t)
          → WasLed view works (length ns) ms3 j s.node t.node t.standing h.acts h.mailed
      led_by j s t at at' h =
          let o = seated.each j s at in
          let b = back.each j t at' in
          let me = (fresh.whole.each j s.mail o.1).0 in
          let me' : t.mail.me ≡ j = h.mail.me ∙ me in
          let low : j < 16 = let w = slice_get_within ms j s.mail o.1 in let e = fresh.whole.count in omega arith in
          let peer : (q : ℕ) → IsPair j q → IsPeer s.mail.me q = λ q p. (p.1.0, λ e. p.1.1 (e ∙ me)) in
          let turned : (q : ℕ) → IsPair j q → IsPair q j = λ q p. (p.1.0, (p.0, λ e. p.1.1 (sym e))) in
          let none_sent : (q : ℕ) → IsPair j q → sent_to s.mail q ≡ [] = λ q p. sym (sent_at ms j q s.mail o.1 me) ∙ fresh.sent j q p in
          let none_taken : (q : ℕ) → IsPair j q → taken_from s.mail q ≡ [] = λ q p. sym (taken_at ms j q s.mail o.1 me)
          ∙ fresh.taken q j (turned q p) in record {
            follows = h.follows;
            others = subst (λ (k : ℕ). AreWithOthers k (length ns) h.mailed) me (subst (λ (k : ℕ). AreWithOthers s.mail.me k h.mailed)
                (numbers.each j s.node o.0).1 h.mail.others);
            sent = λ q p. same.sent j q p ∙ sent_at ms2 j q t.mail b.1 me' ∙ h.mail.sent q (peer q p)
                ∙ ap (λ l. l ++ put_to q h.mailed) (none_sent q p);
            taken = λ q p. same.taken q j (turned q p) ∙ taken_at ms2 j q t.mail b.1 me' ∙ h.mail.taken q (peer q p)
                ∙ ap (λ l. l ++ taken_of q h.mailed) (none_taken q p);
            tied = h.tied;
          }

      led : (j : ℕ) → j < length ns → (both : List Act × List Act) × Led j both
      led j low =
          let g = get_there ys j (let e = long in omega arith) in
          let t = g.0 in
          let c = came j t g.1 in
          let s = c.0 in
          let h = c.3 in
          let o = seated.each j s c.1 in
          let b = back.each j t g.1 in (
            (h.acts, h.mailed),
            λ x y u ax ay au.
                let ex : s.node ≡ x = some_same s.node x (sym o.0 ∙ ax) in
                let ey : t.node ≡ y = some_same t.node y (sym b.0 ∙ ay) in
                let eu : t ≡ u = some_same t u (sym g.1 ∙ au) in
                subst (λ (k : N). WasLed view works (length ns) ms3 j k y u.standing h.acts h.mailed) ex
                (subst (λ (k : N). WasLed view works (length ns) ms3 j s.node k u.standing h.acts h.mailed) ey
                (subst (λ (k : DriveSeat N). WasLed view works (length ns) ms3 j s.node t.node k.standing h.acts h.mailed) eu
                (led_by j s t c.1 g.1 h))),
          )

      abbrev standing_at : ℕ → Standing
      standing_at j = get_or (map (λ (t : DriveSeat N). t.standing) ys) j Going

      stands : (j : ℕ) (t : DriveSeat N) → slice_get ys j ≡ Some t → standing_at j ≡ t.standing
      stands j t at = got_map (λ (k : DriveSeat N). k.standing) Going ys j t at

      pub have_run : (together : Standing) → ArePrefixes ms3 → (together ≡ Finished → All HasFinished ys)
          → (together ≡ Strayed → SomeStrayed ys) → HaveRun view works ns ns' ms3 together
      have_run together prefixes finished strayed =
          let chosen = choose Led (length ns) ([], []) led in record {
            acts = λ p. (chosen.0 p).0;
            mailed = λ p. (chosen.0 p).1;
            standings = standing_at;
            count = back.count ∙ long;
            led = λ p x y ax ay.
                let low : p < length ns = slice_get_within ns p x ax in
                let g = get_there ys p (let e = long in omega arith) in
                subst (λ (k : Standing). WasLed view works (length ns) ms3 p x y k (chosen.0 p).0 (chosen.0 p).1) (sym (stands p g.0 g.1))
                (chosen.1 p low x y g.0 ax ay g.1);
            not_sent = λ p q pair far. same.sent p q pair ∙ ap (λ l. (hand_at l (below p q)).sent) (same_part outs_of [] p pair.0 far)
                ∙ fresh.sent p q pair;
            not_taken = λ p q pair far. same.taken p q pair ∙ ap (λ l. (hand_at l (below q p)).taken) (same_part ins_of [] q pair.1.0 far)
                ∙ fresh.taken p q pair;
            prefixes = prefixes;
            finished = λ e p low.
                let g = get_there ys p (let k = long in omega arith) in
                let is : get_or ys p g.0 ≡ g.0 = let w = slice_get_within ys p g.0 g.1 in some_same (get_or ys p g.0) g.0
                (sym (slice_get-get_or ys p g.0 w) ∙ g.1) in
                stands p g.0 g.1 ∙ ap (λ (k : DriveSeat N). k.standing) (sym is) ∙ finished e p g.0 (slice_get_within ys p g.0 g.1);
            strayed = λ e. let s = strayed e in (
              s.0,
              (let w = slice_get_within ys s.0 s.1 s.2 in let k = long in omega arith),
              stands s.0 s.1 s.2 ∙ s.3,
            );
          }
