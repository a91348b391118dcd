-- One end of a seat changes, and the others stay.
use Rattle.std.proofs.Common.{◌≡◌, ◌≢◌, ℕ, ◌+◌, ◌<◌, List, [], ◌∷◌, ◌++◌, length, map, set, get_or, Option, Some, None, Result}
use Rattle.std.proofs.Common.{Ok, Err, MatchResult, MatchOption, sym, ap, ◌∙◌, subst, ⊎_elim, append-nil, arith}
use Rattle.std.specs.List.{slice_get}
use Rattle.std.proofs.lemmas.List.{get_or-set_same, get_or-set_other, get_or-map, map-set}
use Rattle.std.proofs.lemmas.Bool.Decides.{nat_tests}
use Rattle.std.proofs.lemmas.List.{length-map}
use Rattle.std.proofs.lemmas.Bool.{cases_eq}
use Rattle.std.proofs.lemmas.Option.{slice_get_read}
use Rattle.crossbeam_queue.specs.SegTies.{IsSegPassOf}
use Rattle.chaos_letter.specs.declared.letter.Letter.{Letter}
use Rattle.bsp_mail.specs.declared.hand.Hand.{Hand}
use Rattle.bsp_mail.specs.declared.end.End.{End}
use Rattle.bsp_mail.specs.declared.queues.Queue.{Queue}
use Rattle.bsp_mail.specs.declared.queues.Queues.{Queues}
use Rattle.bsp_mail.specs.declared.seat.MailSeat.{MailSeat}
use Rattle.bsp_mail.specs.Rule.{nobody, after_put, after_take, after_poll}
use Rattle.bsp_mail.specs.Seats.{below, place, IsPeer, IsOutOf, IsInOf, IsOpenOn, view_of, hand_at, only}
use Rattle.bsp_mail.proofs.Lists.{get_set}

-- two peers have two places
pub below_same : (me q r : ℕ) → IsPeer me q → IsPeer me r → below me q ≡ below me r → q ≡ r
below_same me q r a b e = grind (arith, nat_tests)

pub below_fits : (me q : ℕ) → me < 16 → IsPeer me q → below me q < 15
below_fits me q m a = grind (arith, nat_tests)

-- what holds of each end holds again once one of them has changed
fits_set : (F : ℕ → End → Type 0) (me : ℕ) (es : List End) (to : ℕ) (e : End) → IsPeer me to → F to e
    → ((q : ℕ) (u : End) → IsPeer me q → slice_get es (below me q) ≡ Some u → F q u)
    → (q : ℕ) (u : End) → IsPeer me q → slice_get (set es (below me to) e) (below me q) ≡ Some u → F q u
fits_set F me es to e peer here others q u p at =
    ⊎_elim (λ (x : (below me q ≡ below me to) × (e ≡ u)). subst (λ (y : ℕ × End). F y.0 y.1)
    (λ i. (sym (below_same me q to p peer x.0) i, x.1 i)) here)
    (λ (x : (below me q ≢ below me to) × (slice_get es (below me q) ≡ Some u)). others q u p x.1)
    (get_set es (below me to) (below me q) e u at)

hand_same : (es : List End) (k : ℕ) (e : End) → k < length es → hand_at (set es k e) k ≡ view_of e
hand_same es k e h = rw (map-set view_of es k e) (get_or-set_same (map view_of es) k (view_of e) nobody
    (omega (arith, length-map es view_of)))

hand_other : (es : List End) (k j : ℕ) (e : End) → j ≢ k → hand_at (set es k e) j ≡ hand_at es j
hand_other es k j e h = rw (map-set view_of es k e) (get_or-set_other (map view_of es) k j (view_of e) nobody h)

hand_read : (es : List End) (k : ℕ) (e : End) → k < length es → e ≡ get_or es k e → hand_at es k ≡ view_of e
hand_read es k e h is = get_or-map view_of es k e nobody h ∙ ap view_of (sym is)

module _ {A : Type 0} (f : Hand → A) (me : ℕ) (es : List End) (to : ℕ) (e d : End) where
  -- what the change of one end doesn't touch
  kept : IsPeer me to → below me to < length es → d ≡ get_or es (below me to) d → f (view_of e) ≡ f (view_of d)
      → (q : ℕ) → IsPeer me q → f (hand_at (set es (below me to) e) (below me q)) ≡ f (hand_at es (below me q))
  kept peer room is same q p = ⊎_elim
      (λ (h : q ≡ to). subst (λ (r : ℕ). f (hand_at (set es (below me to) e) (below me r)) ≡ f (hand_at es (below me r))) (sym h)
      (ap f (hand_same es (below me to) e room) ∙ same ∙ ap f (sym (hand_read es (below me to) d room is))))
      (λ (h : q ≢ to). ap f (hand_other es (below me to) (below me q) e (λ x. h (below_same me q to p peer x))))
      (cases_eq q to)

  others : IsPeer me to → (q : ℕ) → IsPeer me q → q ≢ to → f (hand_at (set es (below me to) e) (below me q))
      ≡ f (hand_at es (below me q))
  others peer q p h = ap f (hand_other es (below me to) (below me q) e (λ x. h (below_same me q to p peer x)))

  here : below me to < length es → f (hand_at (set es (below me to) e) (below me to)) ≡ f (view_of e)
  here room = ap f (hand_same es (below me to) e room)

only_here : (to : ℕ) (x : Letter) → only to to x ≡ x ∷ []
only_here to x = grind (arith, nat_tests)

only_else : (to q : ℕ) (x : Letter) → q ≢ to → only to q x ≡ []
only_else to q x h = grind (arith, nat_tests)

-- one list of one end gets a letter
grown : (f : Hand → List Letter) (me : ℕ) (es : List End) (to : ℕ) (e d : End) (x : Letter) → IsPeer me to → below me to < length es
    → d ≡ get_or es (below me to) d
    → f (view_of e) ≡ f (view_of d) ++ x ∷ []
    → (q : ℕ) → IsPeer me q → f (hand_at (set es (below me to) e) (below me q)) ≡ f (hand_at es (below me q)) ++ only to q x
grown f me es to e d x peer room is more q p = ⊎_elim
    (λ (h : q ≡ to). subst (λ (r : ℕ). f (hand_at (set es (below me to) e) (below me r)) ≡ f (hand_at es (below me r)) ++ only to r x)
    (sym h)
    (ap f (hand_same es (below me to) e room) ∙ more ∙ ap (λ (l : List Letter × List Letter). l.0 ++ l.1)
    (λ i. (ap f (sym (hand_read es (below me to) d room is)) i, sym (only_here to x) i))))
    (λ (h : q ≢ to). ap f (hand_other es (below me to) (below me q) e (λ y. h (below_same me q to p peer y)))
    ∙ sym (ap (λ l. f (hand_at es (below me q)) ++ l) (only_else to q x h) ∙ append-nil _))
    (cases_eq q to)

pub put_role : (r : Result (Unit {0}) Letter) (old new : Hand) (x : Letter) → MatchResult r (λ _. new ≡ after_put old x) (λ y. (y ≡ x)
    × (new ≡ old)) → new.sends ≡ old.sends
put_role (Ok u) old new x h = ap (λ (v : Hand). v.sends) h
put_role (Err y) old new x h = ap (λ (v : Hand). v.sends) h.1

pub take_role : (r : Option Letter) (old new : Hand) → MatchOption r (new ≡ after_poll old) (λ x. new ≡ after_take old x)
    → (new.takes ≡ old.takes) × (new.dropped ≡ old.dropped)
take_role None old new h = (ap (λ (v : Hand). v.takes) h, ap (λ (v : Hand). v.dropped) h)
take_role (Some x) old new h = (ap (λ (v : Hand). v.takes) h, ap (λ (v : Hand). v.dropped) h)

pub place_fits : (p q : ℕ) → p < 16 → IsPeer p q → place p q < 240
place_fits p q h a = let k = below_fits p q h a in omega arith

pub peer_back : (p q : ℕ) → p < 16 → IsPeer p q → IsPeer q p
peer_back p q h a = (h, λ e. a.1 (sym e))

module _ (me : ℕ) (es : List End) (to : ℕ) (e d : End) where
  put_lists : (x : Letter) (r : Result (Unit {0}) Letter) → IsPeer me to → below me to < length es → d ≡ get_or es (below me to) d
      → MatchResult r (λ _. view_of e ≡ after_put (view_of d) x) (λ y. (y ≡ x) × (view_of e ≡ view_of d))
      → MatchResult r
      (λ _. (q : ℕ) → IsPeer me q → (hand_at (set es (below me to) e) (below me q)).sent ≡ (hand_at es (below me q)).sent ++ only to q x)
      (λ y. (y ≡ x) × ((q : ℕ) → IsPeer me q → (hand_at (set es (below me to) e) (below me q)).sent ≡ (hand_at es (below me q)).sent))
  put_lists x (Ok u) peer room is h = grown (λ v. v.sent) me es to e d x peer room is (ap (λ (v : Hand). v.sent) h)
  put_lists x (Err y) peer room is h = (h.0, kept (λ v. v.sent) me es to e d peer room is (ap (λ (v : Hand). v.sent) h.1))

  take_lists : (r : Option Letter) → IsPeer me to → below me to < length es → d ≡ get_or es (below me to) d
      → MatchOption r (view_of e ≡ after_poll (view_of d)) (λ x. view_of e ≡ after_take (view_of d) x)
      → MatchOption r
      (((hand_at (set es (below me to) e) (below me to)).polls ≡ (hand_at es (below me to)).polls + 1)
      × ((q : ℕ) → IsPeer me q → (hand_at (set es (below me to) e) (below me q)).taken ≡ (hand_at es (below me q)).taken))
      (λ x. ((hand_at (set es (below me to) e) (below me to)).polls ≡ 0)
      × ((q : ℕ) → IsPeer me q → (hand_at (set es (below me to) e) (below me q)).taken ≡ (hand_at es (below me q)).taken
      ++ only to q x))
  take_lists None peer room is h = (
    here (λ v. v.polls) me es to e d room ∙ ap (λ (v : Hand). v.polls) h
        ∙ ap (λ (v : Hand). v.polls + 1) (sym (hand_read es (below me to) d room is)),
    kept (λ v. v.taken) me es to e d peer room is (ap (λ (v : Hand). v.taken) h),
  )
  take_lists (Some x) peer room is h = (
    here (λ v. v.polls) me es to e d room ∙ ap (λ (v : Hand). v.polls) h,
    grown (λ v. v.taken) me es to e d x peer room is (ap (λ (v : Hand). v.taken) h),
  )

-- The end at a place has changed from d to e; the place is told as the program has it.
module _ (me : ℕ) (es : List End) (to k : ℕ) (e d : End) (at : k ≡ below me to) (m : me < 16) (peer : IsPeer me to)
    (long : length es ≡ 15) (is : d ≡ get_or es k d) where
  room : below me to < length es
  room = let small = below_fits me to m peer in omega (arith, long)

  read : d ≡ get_or es (below me to) d
  read = subst (λ (i : ℕ). d ≡ get_or es i d) at is

  end_there : slice_get es (below me to) ≡ Some d
  end_there = slice_get_read es 15 (below me to) d (sym long) (below_fits me to m peer) read

  pub hand_there : hand_at es (below me to) ≡ view_of d
  hand_there = hand_read es (below me to) d room read

  pub kept_at : {A : Type 0} (f : Hand → A) → f (view_of e) ≡ f (view_of d) → (q : ℕ) → IsPeer me q
      → f (hand_at (set es k e) (below me q)) ≡ f (hand_at es (below me q))
  kept_at f same q p = rw at (kept f me es to e d peer room read same q p)

  pub others_at : {A : Type 0} (f : Hand → A) (q : ℕ) → IsPeer me q → q ≢ to
      → f (hand_at (set es k e) (below me q)) ≡ f (hand_at es (below me q))
  others_at f q p h = rw at (others f me es to e d peer q p h)

  pub put_at : (x : Letter) (r : Result (Unit {0}) Letter)
      → MatchResult r (λ _. view_of e ≡ after_put (view_of d) x) (λ y. (y ≡ x) × (view_of e ≡ view_of d))
      → MatchResult r
      (λ _. (q : ℕ) → IsPeer me q → (hand_at (set es k e) (below me q)).sent ≡ (hand_at es (below me q)).sent ++ only to q x)
      (λ y. (y ≡ x) × ((q : ℕ) → IsPeer me q → (hand_at (set es k e) (below me q)).sent ≡ (hand_at es (below me q)).sent))
  put_at x r h = rw at (put_lists me es to e d x r peer room read h)

  pub take_at : (r : Option Letter) → MatchOption r (view_of e ≡ after_poll (view_of d)) (λ x. view_of e ≡ after_take (view_of d) x)
      → MatchOption r
      (((hand_at (set es k e) (below me to)).polls ≡ (hand_at es (below me to)).polls + 1)
      × ((q : ℕ) → IsPeer me q → (hand_at (set es k e) (below me q)).taken ≡ (hand_at es (below me q)).taken))
      (λ x. ((hand_at (set es k e) (below me to)).polls ≡ 0)
      × ((q : ℕ) → IsPeer me q → (hand_at (set es k e) (below me q)).taken ≡ (hand_at es (below me q)).taken ++ only to q x))
  take_at r h = rw at (take_lists me es to e d r peer room read h)

-- the line of a pair stands at its place
pub line_there : (queues : Queues) (p q k : ℕ) (queue : Queue) → p < 16 → IsPeer p q → length queues.lines.items ≡ 240 → k ≡ place p q
    → queue ≡ get_or queues.lines.items k queue → slice_get queues.lines.items (place p q) ≡ Some queue
line_there queues p q k queue m peer long at is =
    slice_get_read queues.lines.items 240 (place p q) queue (sym long) (place_fits p q m peer)
    (subst (λ (i : ℕ). queue ≡ get_or queues.lines.items i queue) at is)

-- an end that has changed is an end of its line yet
module _ (queues : Queues) (s : MailSeat) (to k l : ℕ) (e d : End) (queue : Queue) (op : IsOpenOn queues s) (peer : IsPeer s.me to)
    (at : k ≡ below s.me to) (tie : IsSegPassOf queue.line e.pass) where
  pub out_ends_kept : l ≡ place s.me to → d ≡ get_or s.outs.items k d → queue ≡ get_or queues.lines.items l queue
      → (view_of e).sends ≡ (view_of d).sends
      → (q : ℕ) (u : End) → IsPeer s.me q → slice_get (set s.outs.items k e) (below s.me q) ≡ Some u → IsOutOf queues s.me q u
  out_ends_kept there is line sends =
      let was = op.out_ends to d peer (end_there s.me s.outs.items to k e d at op.me peer op.outs is) in
      let stands = line_there queues s.me to l queue op.me peer op.lines there line in
      rw at (fits_set (λ q u. IsOutOf queues s.me q u) s.me s.outs.items to e peer ((queue, stands, tie), sends ∙ was.1) op.out_ends)

  pub in_ends_kept : l ≡ place to s.me → d ≡ get_or s.ins.items k d → queue ≡ get_or queues.lines.items l queue
      → ((view_of e).takes ≡ (view_of d).takes) × ((view_of e).dropped ≡ (view_of d).dropped)
      → (q : ℕ) (u : End) → IsPeer s.me q → slice_get (set s.ins.items k e) (below s.me q) ≡ Some u → IsInOf queues s.me q u
  in_ends_kept there is line roles =
      let was = op.in_ends to d peer (end_there s.me s.ins.items to k e d at op.me peer op.ins is) in
      let stands = line_there queues to s.me l queue peer.0 (peer_back s.me to op.me peer) op.lines there line in
      rw at (fits_set (λ q u. IsInOf queues s.me q u) s.me s.ins.items to e peer
      ((queue, stands, tie), roles.0 ∙ was.1, roles.1 ∙ was.2) op.in_ends)

pub same_some : {A : Type 0} (o : Option A) (x y : A) → o ≡ Some x → o ≡ Some y → x ≡ y
same_some o x y a b = let e : Some x ≡ Some y = sym a ∙ b in cc
