-- A whole Mail, seen by seats and by pairs.
use Rattle.std.proofs.Common.{◌≡◌, ℕ, zero, suc, ◌<◌, List, [], ◌∷◌, length, map, get_or, Some, sym, refl, ap, ◌∙◌, subst, arith}
use Rattle.std.specs.List.{All, slice_get, slice_index_or}
use Rattle.std.proofs.lemmas.Option.{slice_get_within, slice_get-get_or}
use Rattle.std.proofs.lemmas.Bool.Decides.{nat_tests}
use Rattle.bsp_mail.specs.declared.hand.Hand.{Hand}
use Rattle.bsp_mail.specs.declared.end.End.{End}
use Rattle.bsp_mail.specs.declared.queues.Queues.{Queues}
use Rattle.bsp_mail.specs.declared.seat.MailSeat.{MailSeat}
use Rattle.bsp_mail.specs.Rule.{nobody, sender, receiver}
use Rattle.bsp_mail.specs.Seats.{below, IsPeer, IsOpenOn, IsOutOf, IsInOf, view_of, hand_at}
use Rattle.bsp_mail.specs.Mails.{part, number_of, outs_of, ins_of, IsPair, IsShaped, IsOpenPair, IsWhole, IsFresh, Settling}
use Rattle.bsp_mail.specs.Opens.{outs_before, ins_before, IsOpening}
use Rattle.bsp_mail.proofs.Lists.{get_there}
use Rattle.bsp_mail.proofs.Seating.{below_fits, peer_back}

map_got : {A B : Type 0} (f : A → B) (d : B) (xs : List A) (j : ℕ) (x : A) → slice_get xs j ≡ Some x → slice_index_or (map f xs) j d ≡ f x
map_got f d [] j x e = absurd (cc)
map_got f d (z ∷ zs) zero x e = let is : z ≡ x = cc in ap f is
map_got f d (z ∷ zs) (suc j) x e = map_got f d zs j x e

module _ {A : Type 0} (f : MailSeat → A) (d : A) where
  pub part_got : (xs : List MailSeat) (j : ℕ) (m : MailSeat) → slice_get xs j ≡ Some m → part f d xs j ≡ f m
  part_got xs j m e = map_got f d xs j m e

module _ (queues : Queues) (xs : List MailSeat) (w : IsWhole queues xs) where
  seat_there : (j : ℕ) → j < 16 → (m : MailSeat) × (slice_get xs j ≡ Some m)
  seat_there j h = let c = w.count in get_there xs j (omega (arith, c, h))

  pub whole_shape : IsShaped queues xs
  whole_shape = record {
    lines = let g = seat_there 0 (omega arith) in (w.each 0 g.0 g.1).1.lines;
    count = w.count;
    numbers = λ j h. let g = seat_there j h in part_got number_of 16 xs j g.0 g.1 ∙ (w.each j g.0 g.1).0;
    outs = λ j h. let g = seat_there j h in ap length (part_got outs_of [] xs j g.0 g.1) ∙ (w.each j g.0 g.1).1.outs;
    ins = λ j h. let g = seat_there j h in ap length (part_got ins_of [] xs j g.0 g.1) ∙ (w.each j g.0 g.1).1.ins;
  }

  -- what holds of the ends of an open seat
  end_seen : (f : MailSeat → List End) (F : ℕ → ℕ → End → Type 0)
      → ((m : MailSeat) → IsOpenOn queues m → (q : ℕ) (e : End) → IsPeer m.me q → slice_get (f m) (below m.me q) ≡ Some e → F m.me q e)
      → (p q : ℕ) → p < 16 → IsPeer p q → (e : End) → slice_get (part f [] xs p) (below p q) ≡ Some e → F p q e
  end_seen f F ends p q low peer e at =
      let g = seat_there p low in
      let m = g.0 in
      let o = w.each p m g.1 in
      subst (λ (k : ℕ). IsPeer k q → slice_get (f m) (below k q) ≡ Some e → F k q e) o.0 (ends m o.1 q e) peer
      (subst (λ (l : List End). slice_get l (below p q) ≡ Some e) (part_got f [] xs p m g.1) at)

  pub whole_open : (p q : ℕ) → IsPair p q → IsOpenPair queues xs p q
  whole_open p q pair = record {
    outs = end_seen outs_of (λ j i e. IsOutOf queues j i e) (λ m o. o.out_ends) p q pair.0 pair.1;
    ins = end_seen ins_of (λ j i e. IsInOf queues j i e) (λ m o. o.in_ends) q p pair.1.0 (peer_back p q pair.0 pair.1);
  }

  pub settling_begins : Settling queues xs xs 0
  settling_begins = record {
    shape = whole_shape;
    same = record { sent = λ p q pair. refl; taken = λ p q pair. refl };
    opened = λ p q pair later. whole_open p q pair;
    settled = λ p q pair before. absurd (omega (arith, before));
  }

-- all lines are opened
outs_all : (j : ℕ) → j < 16 → outs_before 16 0 j ≡ 15
outs_all j h = grind (arith, nat_tests)

ins_all : (j : ℕ) → j < 16 → ins_before 16 0 j ≡ 15
ins_all j h = grind (arith, nat_tests)

module _ (queues : Queues) (xs : List MailSeat) (o : IsOpening queues xs 16 0) where
  small : (j : ℕ) (m : MailSeat) → slice_get xs j ≡ Some m → j < 16
  small j m at = let w = slice_get_within xs j m at in let c = o.count in omega (arith, w, c)

  seat_got : (j : ℕ) → j < 16 → (m : MailSeat) × (slice_get xs j ≡ Some m)
  seat_got j h = let c = o.count in get_there xs j (omega (arith, c, h))

  whole_seat : (j : ℕ) (m : MailSeat) → slice_get xs j ≡ Some m → (m.me ≡ j) × IsOpenOn queues m
  whole_seat j m at =
      let s = o.each j m at in
      let few = small j m at in
      let lines : length queues.lines.items ≡ 240 = o.lines in (
        s.me,
        record {
          me = let is = s.me in omega (arith, is, few);
          outs = s.out_count ∙ outs_all j few;
          ins = s.in_count ∙ ins_all j few;
          lines = lines;
          out_ends = λ q e. subst (λ (k : ℕ). IsPeer k q → slice_get m.outs.items (below k q) ≡ Some e → IsOutOf queues k q e) (sym s.me)
              (λ peer got. (s.out_ends q e peer got).0);
          in_ends = λ q e. subst (λ (k : ℕ). IsPeer k q → slice_get m.ins.items (below k q) ≡ Some e → IsInOf queues k q e) (sym s.me)
              (λ peer got. (s.in_ends q e peer got).0);
        },
      )

  fresh_out : (p q : ℕ) → IsPair p q → hand_at (part outs_of [] xs p) (below p q) ≡ sender
  fresh_out p q pair =
      let g = seat_got p pair.0 in
      let m = g.0 in
      let s = o.each p m g.1 in
      let count = s.out_count ∙ outs_all p pair.0 in
      let fits = below_fits p q pair.0 pair.1 in
      let e = get_there m.outs.items (below p q) (omega (arith, count, fits)) in
      ap (λ (l : List End). hand_at l (below p q)) (part_got outs_of [] xs p m g.1)
      ∙ map_got view_of nobody m.outs.items (below p q) e.0 e.1 ∙ (s.out_ends q e.0 pair.1 e.1).1

  fresh_in : (p q : ℕ) → IsPair p q → hand_at (part ins_of [] xs q) (below q p) ≡ receiver
  fresh_in p q pair =
      let back = peer_back p q pair.0 pair.1 in
      let g = seat_got q pair.1.0 in
      let m = g.0 in
      let s = o.each q m g.1 in
      let count = s.in_count ∙ ins_all q pair.1.0 in
      let fits = below_fits q p pair.1.0 back in
      let e = get_there m.ins.items (below q p) (omega (arith, count, fits)) in
      ap (λ (l : List End). hand_at l (below q p)) (part_got ins_of [] xs q m g.1)
      ∙ map_got view_of nobody m.ins.items (below q p) e.0 e.1 ∙ (s.in_ends p e.0 back e.1).1

  pub all_opened : IsFresh queues xs
  all_opened = record {
    whole = record { count = o.count; each = whole_seat };
    sent = λ p q pair. ap (λ (v : Hand). v.sent) (fresh_out p q pair);
    taken = λ p q pair. ap (λ (v : Hand). v.taken) (fresh_in p q pair);
    polls = λ p q pair. ap (λ (v : Hand). v.polls) (fresh_in p q pair);
  }

-- each seat of a whole Mail may put and take
pub all_open : (queues : Queues) (xs : List MailSeat) → IsWhole queues xs → All (IsOpenOn queues) xs
all_open queues xs w = λ k d h. (w.each k (get_or xs k d) (slice_get-get_or xs k d h)).1
