-- What a seat does, one action after another.
use Rattle.std.proofs.Common.{◌≡◌, ◌≢◌, ℕ, ◌+◌, ◌<◌, ◌≤◌, List, [], ◌∷◌, ◌++◌, ⊎_elim, arith, sym, refl, ap, ◌∙◌, subst, append-nil}
use Rattle.std.proofs.Common.{append_assoc}
use Rattle.std.proofs.lemmas.Bool.{cases_eq}
use Rattle.std.proofs.lemmas.Bool.Decides.{nat_tests}
use Rattle.chaos_letter.specs.declared.letter.Letter.{Letter}
use Rattle.bsp_core.specs.Follows.{Act, Sent, Took, Worked, put_to, taken_of}
use Rattle.bsp_core.proofs.Runs.{put_append, taken_append}
use Rattle.bsp_mail.specs.declared.seat.MailSeat.{MailSeat}
use Rattle.bsp_mail.specs.Seats.{IsPeer, sent_to, taken_from, polls_of, only}
use Rattle.bsp_threads.specs.Seats.{AreWithOthers, works_in, HasMailed}

same_taken : (s t : MailSeat) → t.me ≡ s.me → t.ins ≡ s.ins → (q : ℕ) → taken_from t q ≡ taken_from s q
same_taken s t m i q = rw (m, i)

same_sent : (s t : MailSeat) → t.me ≡ s.me → t.outs ≡ s.outs → (q : ℕ) → sent_to t q ≡ sent_to s q
same_sent s t m i q = rw (m, i)

same_polls : (s t : MailSeat) → t.me ≡ s.me → t.ins ≡ s.ins → (q : ℕ) → polls_of s q ≤ polls_of t q
same_polls s t m i q = rw (m, i) (omega arith)

put_only : (q to : ℕ) (x : Letter) → put_to q (Sent to x ∷ []) ≡ only to q x
put_only q to x = grind (arith, nat_tests)

taken_only : (q from : ℕ) (x : Letter) → taken_of q (Took from x ∷ []) ≡ only from q x
taken_only q from x = grind (arith, nat_tests)

one_taken : (from : ℕ) (x : Letter) → taken_of from (Took from x ∷ []) ≡ x ∷ []
one_taken from x = grind (arith, nat_tests)

-- nothing, a letter put, a letter taken
mailed_quiet : (count : ℕ) (s : MailSeat) (acts : List Act) → AreWithOthers s.me count acts → ((q : ℕ) → put_to q acts ≡ [])
    → ((q : ℕ) → taken_of q acts ≡ []) → HasMailed count s acts s
mailed_quiet count s acts others put taken = record {
  me = refl;
  others = others;
  sent = λ q p. sym (append-nil (sent_to s q)) ∙ ap (λ l. sent_to s q ++ l) (sym (put q));
  taken = λ q p. sym (append-nil (taken_from s q)) ∙ ap (λ l. taken_from s q ++ l) (sym (taken q));
  polls = λ q p none. omega arith;
}

pub mailed_none : (count : ℕ) (s : MailSeat) → HasMailed count s [] s
mailed_none count s = mailed_quiet count s [] tt (λ q. refl) (λ q. refl)

pub mailed_work : (count : ℕ) (s : MailSeat) → HasMailed count s (Worked ∷ []) s
mailed_work count s = mailed_quiet count s (Worked ∷ []) tt (λ q. refl) (λ q. refl)

pub mailed_put : (count : ℕ) (s t : MailSeat) (to : ℕ) (x : Letter) → (to < count) × (to ≢ s.me) → (t.me ≡ s.me) × (t.ins ≡ s.ins)
    → ((q : ℕ) → IsPeer s.me q → sent_to t q ≡ sent_to s q ++ only to q x) → HasMailed count s (Sent to x ∷ []) t
mailed_put count s t to x other same put = record {
  me = same.0;
  others = (other.0, other.1, tt);
  sent = λ q p. put q p ∙ ap (λ l. sent_to s q ++ l) (sym (put_only q to x));
  taken = λ q p. same_taken s t same.0 same.1 q ∙ sym (append-nil (taken_from s q));
  polls = λ q p none. same_polls s t same.0 same.1 q;
}

pub mailed_unput : (count : ℕ) (s t : MailSeat) → (t.me ≡ s.me) × (t.ins ≡ s.ins) → ((q : ℕ) → IsPeer s.me q → sent_to t q ≡ sent_to s q)
    → HasMailed count s [] t
mailed_unput count s t same put = record {
  me = same.0;
  others = tt;
  sent = λ q p. put q p ∙ sym (append-nil (sent_to s q));
  taken = λ q p. same_taken s t same.0 same.1 q ∙ sym (append-nil (taken_from s q));
  polls = λ q p none. same_polls s t same.0 same.1 q;
}

took_one : (from q : ℕ) (x : Letter) → q ≡ from → taken_of q (Took from x ∷ []) ≡ [] → ⊥
took_one from q x is none = let e : x ∷ [] ≡ [] = sym (one_taken from x) ∙ ap (λ k. taken_of k (Took from x ∷ [])) (sym is) ∙ none in cc

pub mailed_take : (count : ℕ) (s t : MailSeat) (from : ℕ) (x : Letter) → (from < count) × (from ≢ s.me) → (t.me ≡ s.me) × (t.outs ≡ s.outs)
    → ((q : ℕ) → IsPeer s.me q → q ≢ from → polls_of t q ≡ polls_of s q)
    → ((q : ℕ) → IsPeer s.me q → taken_from t q ≡ taken_from s q ++ only from q x)
    → HasMailed count s (Took from x ∷ []) t
mailed_take count s t from x other same rest take = record {
  me = same.0;
  others = (other.0, other.1, tt);
  sent = λ q p. same_sent s t same.0 same.1 q ∙ sym (append-nil (sent_to s q));
  taken = λ q p. take q p ∙ ap (λ l. taken_from s q ++ l) (sym (taken_only q from x));
  polls = λ q p none. let e = rest q p (λ is. took_one from q x is none) in omega arith;
}

pub mailed_poll : (count : ℕ) (s t : MailSeat) (from : ℕ) → (t.me ≡ s.me) × (t.outs ≡ s.outs)
    → ((q : ℕ) → IsPeer s.me q → q ≢ from → polls_of t q ≡ polls_of s q)
    → polls_of t from ≡ polls_of s from + 1 → ((q : ℕ) → IsPeer s.me q → taken_from t q ≡ taken_from s q) → HasMailed count s [] t
mailed_poll count s t from same rest poll take = record {
  me = same.0;
  others = tt;
  sent = λ q p. same_sent s t same.0 same.1 q ∙ sym (append-nil (sent_to s q));
  taken = λ q p. take q p ∙ sym (append-nil (taken_from s q));
  polls = λ q p none. ⊎_elim (λ (is : q ≡ from). subst (λ (k : ℕ). polls_of s k ≤ polls_of t k) (sym is) (let e = poll in omega arith))
      (λ (no : q ≢ from). let e = rest q p no in omega arith) (cases_eq q from);
}

-- several actions
pub works_append : (xs ys : List Act) → works_in (xs ++ ys) ≡ works_in xs + works_in ys
works_append [] ys = omega arith
works_append (Sent to x ∷ xs) ys = works_append xs ys
works_append (Took from x ∷ xs) ys = works_append xs ys
works_append (Worked ∷ xs) ys = let e = works_append xs ys in omega arith

others_append : (me count : ℕ) (xs ys : List Act) → AreWithOthers me count xs → AreWithOthers me count ys
    → AreWithOthers me count (xs ++ ys)
others_append me count [] ys a b = b
others_append me count (Sent to x ∷ xs) ys a b = (a.0, a.1, others_append me count xs ys a.2 b)
others_append me count (Took from x ∷ xs) ys a b = (a.0, a.1, others_append me count xs ys a.2 b)
others_append me count (Worked ∷ xs) ys a b = others_append me count xs ys a b

pub none_left : (xs ys : List Letter) → xs ++ ys ≡ [] → (xs ≡ []) × (ys ≡ [])
none_left [] ys e = (refl, e)
none_left (x ∷ xs) ys e = absurd (cc)

none_both : (q : ℕ) (xs ys : List Act) → taken_of q (xs ++ ys) ≡ [] → (taken_of q xs ≡ []) × (taken_of q ys ≡ [])
none_both q xs ys e = none_left (taken_of q xs) (taken_of q ys) (sym (taken_append q xs ys) ∙ e)

joined : (a b c d e f : List Letter) → b ≡ a ++ d → c ≡ b ++ e → f ≡ d ++ e → c ≡ a ++ f
joined a b c d e f p q r = q ∙ ap (λ l. l ++ e) p ∙ append_assoc a d e ∙ ap (λ l. a ++ l) (sym r)

pub mailed_append : (count : ℕ) (s t u : MailSeat) (xs ys : List Act) → HasMailed count s xs t → HasMailed count t ys u
    → HasMailed count s (xs ++ ys) u
mailed_append count s t u xs ys a b =
    let peer : (q : ℕ) → IsPeer s.me q → IsPeer t.me q = λ q p. (p.0, λ e. p.1 (e ∙ a.me)) in record {
      me = b.me ∙ a.me;
      others = others_append s.me count xs ys a.others (subst (λ (k : ℕ). AreWithOthers k count ys) a.me b.others);
      sent = λ q p. joined _ _ _ _ _ _ (a.sent q p) (b.sent q (peer q p)) (put_append q xs ys);
      taken = λ q p. joined _ _ _ _ _ _ (a.taken q p) (b.taken q (peer q p)) (taken_append q xs ys);
      polls = λ q p none. let n = none_both q xs ys none in let x = a.polls q p n.0 in let y = b.polls q (peer q p) n.1 in omega arith;
    }

-- nothing was put for a node, or taken from one, that isn't another below the count
pub none_put : (me count q : ℕ) (xs : List Act) → AreWithOthers me count xs → ((q < count) → (q ≢ me) → ⊥) → put_to q xs ≡ []
none_put me count q [] a far = refl
none_put me count q (Sent to x ∷ xs) a far = let t : to ≢ q = λ e. far (subst (λ (k : ℕ). k < count) e a.0) (λ f. a.1 (e ∙ f)) in let e =
    none_put me count q xs a.2 far in grind (arith, nat_tests)
none_put me count q (Took from x ∷ xs) a far = none_put me count q xs a.2 far
none_put me count q (Worked ∷ xs) a far = none_put me count q xs a far

pub none_taken : (me count q : ℕ) (xs : List Act) → AreWithOthers me count xs → ((q < count) → (q ≢ me) → ⊥) → taken_of q xs ≡ []
none_taken me count q [] a far = refl
none_taken me count q (Sent to x ∷ xs) a far = none_taken me count q xs a.2 far
none_taken me count q (Took from x ∷ xs) a far = let t : from ≢ q = λ e. far (subst (λ (k : ℕ). k < count) e a.0) (λ f. a.1 (e ∙ f)) in
    let e = none_taken me count q xs a.2 far in grind (arith, nat_tests)
none_taken me count q (Worked ∷ xs) a far = none_taken me count q xs a far
