-- One seat of all changes.
use Rattle.std.proofs.Common.{◌≡◌, ◌≢◌, ℕ, ◌+◌, ◌*◌, ◌<◌, List, [], length, map, set, get_or, sym, ap, ◌∙◌, subst, ⊎_elim, arith}
use Rattle.std.proofs.Common.{Option, Some}
use Rattle.std.specs.List.{slice_get}
use Rattle.std.specs.declared.alloc.Global.{Global}
use Rattle.std.proofs.lemmas.List.{get_or-set_same, get_or-set_other, get_or-map, map-set, length-map}
use Rattle.std.proofs.lemmas.Bool.{cases_eq}
use Rattle.std.proofs.Math.ListN.{length-set}
use Rattle.atomic_blocks.specs.declared.web.Seat.{Seat}
use Rattle.crossbeam_queue.specs.SegTies.{IsSegPassOf}
use Rattle.crossbeam_queue.specs.declared.seg_queue.Going.{Going}
use Rattle.chaos_letter.specs.declared.letter.Letter.{Letter}
use Rattle.bsp_mail.specs.declared.hand.Hand.{Hand}
use Rattle.bsp_mail.specs.declared.end.End.{End}
use Rattle.bsp_mail.specs.declared.queues.Queue.{Queue}
use Rattle.bsp_mail.specs.declared.queues.Queues.{Queues}
use Rattle.bsp_mail.specs.declared.seat.MailSeat.{MailSeat}
use Rattle.bsp_mail.specs.Rule.{IsPrefix}
use Rattle.bsp_mail.specs.Seats.{below, IsPeer, hand_at, IsHeirOf}
use Rattle.bsp_mail.specs.Mails.{part, number_of, outs_of, ins_of, sent_on, taken_on, IsPair, IsShaped, IsOpenPair}
use Rattle.bsp_mail.specs.Mails.{SameLists, SameElse, AreRetired, AreUnited, Settling}

module _ {A : Type 0} (f : MailSeat → A) (d : A) where
  pub part_same : (xs : List MailSeat) (k : ℕ) (s : MailSeat) → k < length xs → part f d (set xs k s) k ≡ f s
  part_same xs k s h = rw (map-set f xs k s) (get_or-set_same (map f xs) k (f s) d (omega (arith, length-map xs f)))

  pub part_else : (xs : List MailSeat) (k j : ℕ) (s : MailSeat) → j ≢ k → part f d (set xs k s) j ≡ part f d xs j
  part_else xs k j s h = rw (map-set f xs k s) (get_or-set_other (map f xs) k j (f s) d h)

  pub part_read : (xs : List MailSeat) (k : ℕ) (s : MailSeat) → k < length xs → s ≡ get_or xs k s → part f d xs k ≡ f s
  part_read xs k s h is = get_or-map f xs k s d h ∙ ap f (sym is)

  pub part_kept : (xs : List MailSeat) (k : ℕ) (s t : MailSeat) → k < length xs → s ≡ get_or xs k s → f t ≡ f s → (j : ℕ)
      → part f d (set xs k t) j ≡ part f d xs j
  part_kept xs k s t h is same j = ⊎_elim
      (λ (e : j ≡ k). subst (λ (i : ℕ). part f d (set xs k t) i ≡ part f d xs i) (sym e) (part_same xs k t h ∙ same
      ∙ sym (part_read xs k s h is)))
      (λ (n : j ≢ k). part_else xs k j t n)
      (cases_eq j k)

-- The seat at place k is s. What is known of one of its two lists of ends is known of the Mail's.
module _ (queues : Queues) (xs : List MailSeat) (k : ℕ) (s : MailSeat) (shape : IsShaped queues xs) (low : k < 16)
    (is : s ≡ get_or xs k s) where
  pub seat_room : k < length xs
  seat_room = omega (arith, shape.count)

  pub number_is : s.me ≡ k
  number_is = sym (part_read number_of 16 xs k s seat_room is) ∙ shape.numbers k low

  -- as it stands
  pub seat_shape : (s.me < 16) × (length s.outs.items ≡ 15) × (length s.ins.items ≡ 15)
  seat_shape = (
    rw number_is low,
    ap length (sym (part_read outs_of [] xs k s seat_room is)) ∙ shape.outs k low,
    ap length (sym (part_read ins_of [] xs k s seat_room is)) ∙ shape.ins k low,
  )

  module _ (f : MailSeat → List End) where
    pub end_known : (F : ℕ → End → Type 0) (q : ℕ) → ((e : End) → slice_get (part f [] xs k) (below k q) ≡ Some e → F k e)
        → (e : End) → slice_get (f s) (below s.me q) ≡ Some e → F s.me e
    end_known F q h = subst (λ (j : ℕ). (e : End) → slice_get (f s) (below j q) ≡ Some e → F j e) (sym number_is)
        (λ e at. h e (ap (λ l. slice_get l (below k q)) (part_read f [] xs k s seat_room is) ∙ at))

    pub list_known : (g : Hand → List Letter) (q : ℕ) → g (hand_at (f s) (below s.me q)) ≡ g (hand_at (part f [] xs k) (below k q))
    list_known g q = ap (λ (j : ℕ). g (hand_at (f s) (below j q))) number_is
        ∙ ap (λ l. g (hand_at l (below k q))) (sym (part_read f [] xs k s seat_room is))

  -- once it has become t
  module _ (t : MailSeat) where
    pub shape_kept : t.me ≡ s.me → length t.outs.items ≡ 15 → length t.ins.items ≡ 15 → IsShaped queues (set xs k t)
    shape_kept me outs ins = record {
      lines = shape.lines;
      count = length-set _ _ _ ∙ shape.count;
      numbers = λ j m. part_kept number_of 16 xs k s t seat_room is me j ∙ shape.numbers j m;
      outs = λ j m. long outs_of outs j (shape.outs j m);
      ins = λ j m. long ins_of ins j (shape.ins j m);
    } where
      long : (f : MailSeat → List End) → length (f t) ≡ 15 → (j : ℕ) → length (part f [] xs j) ≡ 15 → length (part f [] (set xs k t) j)
          ≡ 15
      long f h j was = ⊎_elim
          (λ (e : j ≡ k). subst (λ (i : ℕ). length (part f [] (set xs k t) i) ≡ 15) (sym e) (ap length (part_same f [] xs k t seat_room)
          ∙ h))
          (λ (n : j ≢ k). ap length (part_else f [] xs k j t n) ∙ was)
          (cases_eq j k)

    module _ (f : MailSeat → List End) where
      pub part_stays : f t ≡ f s → (j : ℕ) → part f [] (set xs k t) j ≡ part f [] xs j
      part_stays same j = part_kept f [] xs k s t seat_room is same j

      pub list_kept : (g : Hand → List Letter) → t.me ≡ s.me
          → ((q : ℕ) → IsPeer s.me q → g (hand_at (f t) (below t.me q)) ≡ g (hand_at (f s) (below s.me q)))
          → (j q : ℕ) → IsPeer j q → g (hand_at (part f [] (set xs k t) j) (below j q)) ≡ g (hand_at (part f [] xs j) (below j q))
      list_kept g me h j q peer = ⊎_elim
          (λ (e : j ≡ k).
          let at : j ≡ s.me = e ∙ sym number_is in
          let a : part f [] (set xs k t) j ≡ f t = subst (λ (i : ℕ). part f [] (set xs k t) i ≡ f t) (sym e)
          (part_same f [] xs k t seat_room) in
          let b : part f [] xs j ≡ f s = subst (λ (i : ℕ). part f [] xs i ≡ f s) (sym e) (part_read f [] xs k s seat_room is) in
          ap (λ l. g (hand_at l (below j q))) a ∙ ap (λ (i : ℕ). g (hand_at (f t) (below i q))) (at ∙ sym me)
          ∙ h q (subst (λ (i : ℕ). IsPeer i q) at peer)
          ∙ ap (λ (i : ℕ). g (hand_at (f s) (below i q))) (sym at) ∙ ap (λ l. g (hand_at l (below j q))) (sym b))
          (λ (n : j ≢ k). ap (λ l. g (hand_at l (below j q))) (part_else f [] xs k j t n))
          (cases_eq j k)

      pub end_kept : (other : ℕ)
          → ((q : ℕ) → IsPeer s.me q → q ≢ other → slice_get (f t) (below s.me q) ≡ slice_get (f s) (below s.me q))
          → (j q : ℕ) → IsPeer j q → ((j ≡ k) × (q ≡ other) → ⊥)
          → slice_get (part f [] (set xs k t) j) (below j q) ≡ slice_get (part f [] xs j) (below j q)
      end_kept other h j q peer apart = ⊎_elim
          (λ (e : j ≡ k).
          let at : j ≡ s.me = e ∙ sym number_is in
          let same = subst (λ (i : ℕ). IsPeer i q → q ≢ other → slice_get (f t) (below i q) ≡ slice_get (f s) (below i q)) (sym at) (h q) in
          subst (λ (i : ℕ). part f [] (set xs k t) i ≡ f t → part f [] xs i ≡ f s
          → slice_get (part f [] (set xs k t) j) (below j q) ≡ slice_get (part f [] xs j) (below j q)) e
          (λ a b. ap (λ l. slice_get l (below j q)) a ∙ same peer (λ x. apart (e, x)) ∙ ap (λ l. slice_get l (below j q)) (sym b))
          (part_same f [] xs k t seat_room) (part_read f [] xs k s seat_room is))
          (λ (n : j ≢ k). ap (λ l. slice_get l (below j q)) (part_else f [] xs k j t n))
          (cases_eq j k)

turned : (p q : ℕ) → IsPair p q → IsPeer q p
turned p q pair = (pair.0, λ e. pair.1.1 (sym e))

-- one of a seat's two lists of ends has changed: that of one line alone, and no list of letters
abbrev pub Changes : (MailSeat → List End) → (Hand → List Letter) → ℕ → MailSeat → MailSeat → Type 0
Changes f g other s t = (length (f t) ≡ 15)
    × ((q : ℕ) → IsPeer s.me q → q ≢ other → slice_get (f t) (below s.me q) ≡ slice_get (f s) (below s.me q))
    × ((q : ℕ) → IsPeer s.me q → g (hand_at (f t) (below t.me q)) ≡ g (hand_at (f s) (below s.me q)))

module _ (queues : Queues) (xs : List MailSeat) (from to : ℕ) (s t : MailSeat) (shape : IsShaped queues xs) where
  -- the receiver's seat gave its right away
  pub are_retired : (low : to < 16) → (is : s ≡ get_or xs to s) → t.me ≡ s.me → t.outs ≡ s.outs → Changes ins_of (λ v. v.taken) from s t
      → AreRetired queues xs (set xs to t) from to
  are_retired low is me same h =
      let outs = part_stays queues xs to s shape low is t outs_of (ap (λ o. o.items) same) in
      record {
        shape = shape_kept queues xs to s shape low is t me
            (ap (λ o. length o.items) same ∙ (seat_shape queues xs to s shape low is).1) h.0;
        same = record {
          sent = λ p q pair. ap (λ l. (hand_at l (below p q)).sent) (outs p);
          taken = λ p q pair. list_kept queues xs to s shape low is t ins_of (λ v. v.taken) me h.2 q p (turned p q pair);
        };
        others = record {
          outs = λ p q pair no. ap (λ l. slice_get l (below p q)) (outs p);
          ins = λ p q pair no. end_kept queues xs to s shape low is t ins_of from h.1 q p (turned p q pair) (λ x. no (x.1, x.0));
        };
        outs = outs;
      }

  -- the sender's seat took that right in
  pub are_united : (low : from < 16) → (is : s ≡ get_or xs from s) → t.me ≡ s.me → t.ins ≡ s.ins → Changes outs_of (λ v. v.sent) to s t
      → AreUnited queues xs (set xs from t) from to
  are_united low is me same h =
      let ins = part_stays queues xs from s shape low is t ins_of (ap (λ o. o.items) same) in
      record {
        shape = shape_kept queues xs from s shape low is t me h.0
            (ap (λ o. length o.items) same ∙ (seat_shape queues xs from s shape low is).2);
        same = record {
          sent = λ p q pair. list_kept queues xs from s shape low is t outs_of (λ v. v.sent) me h.2 p q pair.1;
          taken = λ p q pair. ap (λ l. (hand_at l (below q p)).taken) (ins q);
        };
        others = record {
          outs = λ p q pair no. end_kept queues xs from s shape low is t outs_of to h.1 p q pair.1 no;
          ins = λ p q pair no. ap (λ l. slice_get l (below q p)) (ins q);
        };
      }

-- the heir of one line at the place of another name
pub heir_at : (queues : Queues) (j k : ℕ) (xs ys : List Letter) (pass : Seat (Option Letter) (Going Letter Hand) Global) → j ≡ k → xs ≡ ys
    → IsHeirOf queues j xs pass → IsHeirOf queues k ys pass
heir_at queues j k xs ys pass a b h = (
  subst (λ (i : ℕ). (queue : Queue) → slice_get queues.lines.items i ≡ Some queue
      → IsSegPassOf queue.line pass) a h.0,
  h.1,
  h.2 ∙ b,
)

pub lists_then : (xs ys zs : List MailSeat) → SameLists xs ys → SameLists ys zs → SameLists xs zs
lists_then xs ys zs a b = record {
  sent = λ p q pair. b.sent p q pair ∙ a.sent p q pair;
  taken = λ p q pair. b.taken p q pair
      ∙ a.taken p q pair;
}

pub else_then : (xs ys zs : List MailSeat) (from to : ℕ) → SameElse xs ys from to → SameElse ys zs from to → SameElse xs zs from to
else_then xs ys zs from to a b = record {
  outs = λ p q pair no. b.outs p q pair no ∙ a.outs p q pair no;
  ins = λ p q pair no. b.ins p q pair no ∙ a.ins p q pair no;
}

pub open_kept : (queues : Queues) (ys zs : List MailSeat) (from to p q : ℕ) → SameElse ys zs from to → IsPair p q
    → ((p ≡ from) × (q ≡ to) → ⊥) → IsOpenPair queues ys p q → IsOpenPair queues zs p q
open_kept queues ys zs from to p q same pair apart o = record {
  outs = λ e x. o.outs e (sym (same.outs p q pair apart) ∙ x);
  ins = λ e x. o.ins e (sym (same.ins p q pair apart) ∙ x);
}

prefix_kept : (ys zs : List MailSeat) (p q : ℕ) → SameLists ys zs → IsPair p q → IsPrefix (taken_on ys p q) (sent_on ys p q)
    → IsPrefix (taken_on zs p q) (sent_on zs p q)
prefix_kept ys zs p q same pair h = subst (λ (z : List Letter × List Letter). IsPrefix z.0 z.1)
    (λ i. (sym (same.taken p q pair) i, sym (same.sent p q pair) i)) h

pub settled_more : (queues : Queues) (xs ys zs : List MailSeat) (n from to : ℕ) → n ≡ 16 * from + to → to < 16 → Settling queues xs ys n
    → IsShaped queues zs → SameLists ys zs → SameElse ys zs from to
    → IsPrefix (taken_on zs from to) (sent_on zs from to) → Settling queues xs zs (n + 1)
settled_more queues xs ys zs n from to is small so shape lists other prefix = record {
  shape = shape;
  same = lists_then xs ys zs so.same lists;
  opened = λ p q pair later. let a : q < 16 = pair.1.0 in open_kept queues ys zs from to p q other pair (λ x. let e = x.0 in
      let f = x.1 in absurd (omega arith)) (so.opened p q pair (omega arith));
  settled = λ p q pair before. let a : q < 16 = pair.1.0 in ⊎_elim
      (λ (e : 16 * p + q ≡ n). let f : p ≡ from = omega arith in let g : q ≡ to = omega arith in
      subst (λ (z : ℕ × ℕ). IsPrefix (taken_on zs z.0 z.1) (sent_on zs z.0 z.1)) (λ i. (sym f i, sym g i)) prefix)
      (λ (no : 16 * p + q ≢ n). prefix_kept ys zs p q lists pair (so.settled p q pair (omega arith)))
      (cases_eq (16 * p + q) n);
}

pub settled_skip : (queues : Queues) (xs ys : List MailSeat) (n from to : ℕ) → n ≡ 16 * from + to → to < 16 → from ≡ to
    → Settling queues xs ys n → Settling queues xs ys (n + 1)
settled_skip queues xs ys n from to is small eq so = record {
  shape = so.shape;
  same = so.same;
  opened = λ p q pair later. so.opened p q pair (omega arith);
  settled = λ p q pair before. let a : q < 16 = pair.1.0 in ⊎_elim
      (λ (e : 16 * p + q ≡ n). let f : p ≡ from = omega arith in let g : q ≡ to = omega arith in absurd (pair.1.1 (g ∙ sym eq ∙ sym f)))
      (λ (no : 16 * p + q ≢ n). so.settled p q pair (omega arith))
      (cases_eq (16 * p + q) n);
}
