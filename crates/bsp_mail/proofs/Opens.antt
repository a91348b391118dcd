-- The lines of a Mail are opened, pair by pair.
use Rattle.std.proofs.Common.{◌≡◌, ◌≢◌, ℕ, ◌+◌, ◌*◌, ◌<◌, List, [], ◌∷◌, ◌++◌, length, set, Some, sym, ap, ◌∙◌, subst, ⊎_elim, arith}
use Rattle.std.proofs.Common.{length-append}
use Rattle.std.specs.List.{slice_get}
use Rattle.std.proofs.lemmas.Option.{slice_get_within}
use Rattle.std.proofs.lemmas.Bool.Decides.{nat_tests}
use Rattle.std.proofs.Math.ListN.{length-set}
use Rattle.crossbeam_queue.specs.SegTies.{IsSegPassOf}
use Rattle.bsp_mail.specs.declared.hand.Hand.{Hand}
use Rattle.bsp_mail.specs.declared.end.End.{End}
use Rattle.bsp_mail.specs.declared.queues.Queue.{Queue}
use Rattle.bsp_mail.specs.declared.queues.Queues.{Queues}
use Rattle.bsp_mail.specs.declared.seat.MailSeat.{MailSeat}
use Rattle.bsp_mail.specs.Rule.{sender, receiver}
use Rattle.bsp_mail.specs.Seats.{below, place, IsPeer, IsEndOf, IsOutOf, IsInOf, view_of}
use Rattle.bsp_mail.specs.Mails.{IsPair}
use Rattle.bsp_mail.specs.Opens.{GetsOut, GetsIn, AreBare, IsSeated, outs_before, ins_before, IsOpening}
use Rattle.bsp_mail.proofs.Lists.{snoc_get, get_longer, get_last, get_set}
use Rattle.bsp_mail.proofs.Seating.{below_same, peer_back}

end_longer : (queues more : Queues) (queue : Queue) (k : ℕ) (e : End) → more.lines.items ≡ queues.lines.items ++ queue ∷ []
    → IsEndOf queues k e → IsEndOf more k e
end_longer queues more queue k e is h =
    (h.0, subst (λ (l : List Queue). slice_get l k ≡ Some h.0) (sym is) (get_longer queues.lines.items (queue ∷ []) h.0 k h.1), h.2)

seated_longer : (queues more : Queues) (queue : Queue) (j : ℕ) (m : MailSeat) (a b : ℕ) → more.lines.items ≡ queues.lines.items ++ queue
    ∷ [] → IsSeated queues j m a b → IsSeated more j m a b
seated_longer queues more queue j m a b is s = record {
  me = s.me;
  out_count = s.out_count;
  in_count = s.in_count;
  out_ends = λ q e p at. let o = s.out_ends q e p at in ((end_longer queues more queue (place j q) e is o.0.0, o.0.1), o.1);
  in_ends = λ q e p at. let o = s.in_ends q e p at in ((end_longer queues more queue (place q j) e is o.0.0, o.0.1, o.0.2), o.1);
}

recount : (queues : Queues) (j : ℕ) (m : MailSeat) (a b c d : ℕ) → a ≡ c → b ≡ d → IsSeated queues j m a b → IsSeated queues j m c d
recount queues j m a b c d ac bd s = record {
  me = s.me;
  out_count = s.out_count ∙ ac;
  in_count = s.in_count ∙ bd;
  out_ends = s.out_ends;
  in_ends = s.in_ends;
}

module _ (queues : Queues) (j q : ℕ) (m n : MailSeat) (e : End) (a b : ℕ) where
  seated_out : GetsOut m n e → IsPeer j q → a ≡ below j q → IsOutOf queues j q e × (view_of e ≡ sender) → IsSeated queues j m a b
      → IsSeated queues j n (a + 1) b
  seated_out g peer is here s =
      let kept : n.ins.items ≡ m.ins.items = ap (λ o. o.items) g.2 in
      record {
        me = g.0 ∙ s.me;
        out_count = ap length g.1 ∙ length-append m.outs.items (e ∷ []) ∙ ap (λ (k : ℕ). k + 1) s.out_count;
        in_count = ap length kept ∙ s.in_count;
        out_ends = λ r u p at. ⊎_elim
            (λ (h : slice_get m.outs.items (below j r) ≡ Some u). s.out_ends r u p h)
            (λ (h : (below j r ≡ length m.outs.items) × (e ≡ u)). let same : r ≡ q = below_same j r q p peer (h.0 ∙ s.out_count ∙ is) in
            subst (λ (y : ℕ × End). IsOutOf queues j y.0 y.1 × (view_of y.1 ≡ sender)) (λ i. (sym same i, h.1 i)) here)
            (snoc_get m.outs.items e u (below j r) (subst (λ (l : List End). slice_get l (below j r) ≡ Some u) g.1 at));
        in_ends = λ r u p at. s.in_ends r u p (subst (λ (l : List End). slice_get l (below j r) ≡ Some u) kept at);
      }

  seated_in : GetsIn m n e → IsPeer j q → b ≡ below j q → IsInOf queues j q e × (view_of e ≡ receiver) → IsSeated queues j m a b
      → IsSeated queues j n a (b + 1)
  seated_in g peer is here s =
      let kept : n.outs.items ≡ m.outs.items = ap (λ o. o.items) g.1 in
      record {
        me = g.0 ∙ s.me;
        out_count = ap length kept ∙ s.out_count;
        in_count = ap length g.2 ∙ length-append m.ins.items (e ∷ []) ∙ ap (λ (k : ℕ). k + 1) s.in_count;
        out_ends = λ r u p at. s.out_ends r u p (subst (λ (l : List End). slice_get l (below j r) ≡ Some u) kept at);
        in_ends = λ r u p at. ⊎_elim
            (λ (h : slice_get m.ins.items (below j r) ≡ Some u). s.in_ends r u p h)
            (λ (h : (below j r ≡ length m.ins.items) × (e ≡ u)). let same : r ≡ q = below_same j r q p peer (h.0 ∙ s.in_count ∙ is) in
            subst (λ (y : ℕ × End). IsInOf queues j y.0 y.1 × (view_of y.1 ≡ receiver)) (λ i. (sym same i, h.1 i)) here)
            (snoc_get m.ins.items e u (below j r) (subst (λ (l : List End). slice_get l (below j r) ≡ Some u) g.2 at));
      }

-- how many ends there are once a pair is opened
outs_step : (from to : ℕ) → to ≢ from → (outs_before from to from ≡ below from to)
    × (outs_before from to from + 1 ≡ outs_before from (to + 1) from)
    × ((j : ℕ) → j ≢ from → outs_before from to j ≡ outs_before from (to + 1) j)
outs_step from to h = (grind (arith, nat_tests), grind (arith, nat_tests), λ j other. grind (arith, nat_tests))

ins_step : (from to : ℕ) → to ≢ from → (ins_before from to to ≡ below to from) × (ins_before from to to + 1 ≡ ins_before from (to + 1) to)
    × ((j : ℕ) → j ≢ to → ins_before from to j ≡ ins_before from (to + 1) j)
ins_step from to h = (grind (arith, nat_tests), grind (arith, nat_tests), λ j other. grind (arith, nat_tests))

outs_skip : (from j : ℕ) → outs_before from from j ≡ outs_before from (from + 1) j
outs_skip from j = grind (arith, nat_tests)

ins_skip : (from j : ℕ) → ins_before from from j ≡ ins_before from (from + 1) j
ins_skip from j = grind (arith, nat_tests)

outs_row : (from j : ℕ) → from < 16 → outs_before from 16 j ≡ outs_before (from + 1) 0 j
outs_row from j h = grind (arith, nat_tests)

ins_row : (from j : ℕ) → j < 16 → ins_before from 16 j ≡ ins_before (from + 1) 0 j
ins_row from j h = grind (arith, nat_tests)

below_next : (from to : ℕ) → to ≢ from → below from (to + 1) ≡ below from to + 1
below_next from to h = grind (arith, nat_tests)

module _ (queues more : Queues) (queue : Queue) (xs : List MailSeat) (from to : ℕ) (s n t u : MailSeat) (a b : End) where
  -- the new line stands at the pair's place, and its passes are in the two seats
  pub pair_opened : IsPair from to → IsOpening queues xs from to → more.lines.items ≡ queues.lines.items ++ queue ∷ []
      → slice_get xs from ≡ Some s → GetsOut s n a → slice_get (set xs from n) to ≡ Some t → GetsIn t u b
      → IsSegPassOf queue.line a.pass → view_of a ≡ sender → IsSegPassOf queue.line b.pass → view_of b ≡ receiver
      → IsOpening more (set (set xs from n) to u) from (to + 1)
  pair_opened pair o is at_s out at_t ins tie_a is_a tie_b is_b =
      let apart : to ≢ from = pair.1.1 in
      let line : slice_get more.lines.items (place from to) ≡ Some queue = subst (λ (l : List Queue). slice_get l (place from to)
      ≡ Some queue) (sym is) (get_last queues.lines.items queue (place from to) (sym o.lines)) in
      let here : IsOutOf more from to a × (view_of a ≡ sender) = (((queue, line, tie_a), ap (λ (v : Hand). v.sends) is_a), is_a) in
      let there : IsInOf more to from b × (view_of b ≡ receiver) =
      (((queue, line, tie_b), ap (λ (v : Hand). v.takes) is_b, ap (λ (v : Hand). v.dropped) is_b), is_b) in
      let was_t : slice_get xs to ≡ Some t = ⊎_elim (λ (h : (to ≡ from) × (n ≡ t)). absurd (apart h.0))
      (λ (h : (to ≢ from) × (slice_get xs to ≡ Some t)). h.1) (get_set xs from to n t at_t) in
      let outs = outs_step from to apart in
      let inns = ins_step from to apart in
      let Now : ℕ → MailSeat → Type 0 = λ j m. IsSeated more j m (outs_before from (to + 1) j) (ins_before from (to + 1) j) in
      let old_s = seated_longer queues more queue from s _ _ is (o.each from s at_s) in
      let new_s : Now from n = recount more from n _ _ _ _ outs.1 (inns.2 from (λ e. apart (sym e)))
      (seated_out more from to s n a _ _ out pair.1 outs.0 here old_s) in
      let old_t = seated_longer queues more queue to t _ _ is (o.each to t was_t) in
      let new_t : Now to u = recount more to u _ _ _ _ (outs.2 to apart) inns.1
      (seated_in more to from t u b _ _ ins (peer_back from to pair.0 pair.1) inns.0 there old_t) in
      let next = below_next from to apart in
      let longer = length-append queues.lines.items (queue ∷ []) in
      record {
        lines = ap length is ∙ longer ∙ ap (λ (k : ℕ). k + 1) o.lines ∙ omega (arith, next);
        count = length-set _ _ _ ∙ length-set _ _ _ ∙ o.count;
        each = λ j m at. ⊎_elim
            (λ (h : (j ≡ to) × (u ≡ m)). subst (λ (y : ℕ × MailSeat). Now y.0 y.1) (λ i. (sym h.0 i, h.1 i)) new_t)
            (λ (h : (j ≢ to) × (slice_get (set xs from n) j ≡ Some m)). ⊎_elim
            (λ (k : (j ≡ from) × (n ≡ m)). subst (λ (y : ℕ × MailSeat). Now y.0 y.1) (λ i. (sym k.0 i, k.1 i)) new_s)
            (λ (k : (j ≢ from) × (slice_get xs j ≡ Some m)). recount more j m _ _ _ _ (outs.2 j k.0) (inns.2 j h.0)
            (seated_longer queues more queue j m _ _ is (o.each j m k.1)))
            (get_set xs from j n m h.1))
            (get_set (set xs from n) to j u m at);
      }

pub pair_skipped : (queues : Queues) (xs : List MailSeat) (from to : ℕ) → from ≡ to → IsOpening queues xs from to
    → IsOpening queues xs from (to + 1)
pair_skipped queues xs from to e o =
    subst (λ (k : ℕ). IsOpening queues xs from (k + 1)) e (
    let p = subst (λ (k : ℕ). IsOpening queues xs from k) (sym e) o in
    let same : below from from ≡ below from (from + 1) = grind (arith, nat_tests) in
    record {
      lines = p.lines ∙ ap (λ (k : ℕ). 15 * from + k) same;
      count = p.count;
      each = λ j m at. recount queues j m _ _ _ _ (outs_skip from j) (ins_skip from j) (p.each j m at);
    })

pub row_opened : (queues : Queues) (xs : List MailSeat) (from : ℕ) → from < 16 → IsOpening queues xs from 16
    → IsOpening queues xs (from + 1) 0
row_opened queues xs from h o =
    let same : place from 16 ≡ place (from + 1) 0 = grind (arith, nat_tests) in
    record {
      lines = o.lines ∙ same;
      count = o.count;
      each = λ j m at. let w = slice_get_within xs j m at in let c = o.count in
          recount queues j m _ _ _ _ (outs_row from j h) (ins_row from j (omega (arith, w, c))) (o.each j m at);
    }

pub bare_opening : (queues : Queues) (xs : List MailSeat) → queues.lines.items ≡ [] → AreBare xs 16 → IsOpening queues xs 0 0
bare_opening queues xs none bare = record {
  lines = ap length none;
  count = bare.count;
  each = λ j m at. let b = bare.each j m at in
      let outs : outs_before 0 0 j ≡ 0 = grind (arith, nat_tests) in
      let ins : ins_before 0 0 j ≡ 0 = grind (arith, nat_tests) in
      record {
        me = b.0;
        out_count = ap length b.1 ∙ sym outs;
        in_count = ap length b.2 ∙ sym ins;
        out_ends = λ q e p h. let no : slice_get [] (below j q) ≡ Some e = subst (λ (l : List End). slice_get l (below j q) ≡ Some e) b.1
            h in absurd (cc);
        in_ends = λ q e p h. let no : slice_get [] (below j q) ≡ Some e = subst (λ (l : List End). slice_get l (below j q) ≡ Some e) b.2
            h in absurd (cc);
      };
}

pub bare_more : (xs : List MailSeat) (n : ℕ) (m : MailSeat) → AreBare xs n → m.me ≡ n → m.outs.items ≡ [] → m.ins.items ≡ []
    → AreBare (xs ++ m ∷ []) (n + 1)
bare_more xs n m b me outs ins = record {
  count = length-append xs (m ∷ []) ∙ ap (λ (k : ℕ). k + 1) b.count;
  each = λ j k at. ⊎_elim
      (λ (h : slice_get xs j ≡ Some k). b.each j k h)
      (λ (h : (j ≡ length xs) × (m ≡ k)). subst (λ (y : MailSeat). (y.me ≡ j) × (y.outs.items ≡ []) × (y.ins.items ≡ [])) h.1 (
        me
            ∙ sym (h.0 ∙ b.count),
        outs,
        ins,
      ))
      (snoc_get xs m k j at);
}

pub bare_none : (xs : List MailSeat) → xs ≡ [] → AreBare xs 0
bare_none xs e = record {
  count = ap length e;
  each = λ j m at. let no : slice_get [] j ≡ Some m = subst
      (λ (l : List MailSeat). slice_get l j ≡ Some m) e at in absurd (cc);
}
