-- Nodes and mail seats go into the list of seats and out of it.
use Rattle.std.proofs.Common.{◌≡◌, ◌≢◌, ℕ, zero, suc, ◌+◌, ◌<◌, List, [], ◌∷◌, ◌++◌, length, set, Some, sym, refl, ap, ◌∙◌, subst, ⊎_elim}
use Rattle.std.proofs.Common.{arith, length-append}
use Rattle.std.specs.List.{slice_get}
use Rattle.std.proofs.lemmas.Option.{slice_get_within}
use Rattle.std.proofs.Math.ListN.{length-set}
use Rattle.bsp_mail.specs.declared.seat.MailSeat.{MailSeat}
use Rattle.bsp_mail.proofs.Lists.{snoc_get, get_longer, get_last}
use Rattle.bsp_threads.specs.declared.seat.DriveSeat.{DriveSeat}
use Rattle.bsp_threads.specs.declared.seat.Standing.TheVariants.{Going}
use Rattle.bsp_threads.specs.Alls.{AreSeated, AreBack, SameFrom}

module _ {A : Type 0} where
  set_else : (xs : List A) (i j : ℕ) (x : A) → j ≢ i → slice_get (set xs i x) j ≡ slice_get xs j
  set_else [] i j x n = refl
  set_else (z ∷ zs) zero zero x n = absurd (n refl)
  set_else (z ∷ zs) zero (suc j) x n = refl
  set_else (z ∷ zs) (suc i) zero x n = refl
  set_else (z ∷ zs) (suc i) (suc j) x n = set_else zs i j x (λ e. n (ap suc e))

  set_here : (xs : List A) (i : ℕ) (x : A) → i < length xs → slice_get (set xs i x) i ≡ Some x
  set_here [] i x h = absurd (omega arith)
  set_here (z ∷ zs) zero x h = refl
  set_here (z ∷ zs) (suc i) x h = set_here zs i x (omega arith)

module _ {N : Type 0} where
  pub seated_more : (ns : List N) (ms : List MailSeat) (xs : List (DriveSeat N)) (node : N) (x : DriveSeat N) → AreSeated ns ms xs
      → x.node ≡ node → slice_get ms (length xs) ≡ Some x.mail → x.standing ≡ Going
      → AreSeated (ns ++ node ∷ []) ms (xs ++ x ∷ [])
  seated_more ns ms xs node x so a b d = let n = so.count in record {
    count = omega (arith, length-append xs (x ∷ []), length-append ns (node ∷ []));
    each = λ j s at. ⊎_elim
        (λ (h : slice_get xs j ≡ Some s). let o = so.each j s h in (get_longer ns (node ∷ []) s.node j o.0, o.1, o.2))
        (λ (h : (j ≡ length xs) × (x ≡ s)). subst (λ (k : DriveSeat N). (slice_get (ns ++ node ∷ []) j ≡ Some k.node)
        × (slice_get ms j ≡ Some k.mail) × (k.standing ≡ Going)) h.1
        (get_last ns node j (h.0 ∙ so.count) ∙ ap (λ (k : N). Some k) (sym a), ap (λ k. slice_get ms k) h.0 ∙ b, d))
        (snoc_get xs x s j at);
  }

  pub none_seated : (ms : List MailSeat) (xs : List (DriveSeat N)) → xs ≡ [] → AreSeated [] ms xs
  none_seated ms xs e = subst (λ (k : List (DriveSeat N)). AreSeated [] ms k) (sym e) record { count = refl; each = λ j s at. absurd (cc) }

pub same_more : (n k : ℕ) (xs ys : List MailSeat) (m : MailSeat) → k ≡ n → SameFrom n xs ys → SameFrom (n + 1) xs (set ys k m)
same_more n k xs ys m is same = (
  length-set _ _ _ ∙ same.0,
  λ j h. let d : j ≢ k = omega arith in set_else ys k j m d
      ∙ same.1 j (omega arith),
)

module _ {N : Type 0} where
  pub back_more : (ys : List (DriveSeat N)) (ns : List N) (ms : List MailSeat) (x : DriveSeat N) (k : ℕ) → k ≡ length ns → k < length ms
      → AreBack ys ns ms → AreBack (ys ++ x ∷ []) (ns ++ x.node ∷ []) (set ms k x.mail)
  back_more ys ns ms x k is room un = let n = un.count in record {
    count = omega (arith, length-append ns (x.node ∷ []), length-append ys (x ∷ []));
    each = λ j s at. ⊎_elim
        (λ (h : slice_get ys j ≡ Some s). let o = un.each j s h in let w = slice_get_within ys j s h in let d : j ≢ k = omega arith in
        (get_longer ns (x.node ∷ []) s.node j o.0, set_else ms k j x.mail d ∙ o.1))
        (λ (h : (j ≡ length ys) × (x ≡ s)). let jk : j ≡ k = let e = h.0 in omega arith in
        subst (λ (z : DriveSeat N). (slice_get (ns ++ x.node ∷ []) j ≡ Some z.node) × (slice_get (set ms k x.mail) j ≡ Some z.mail)) h.1
        (get_last ns x.node j (jk ∙ is), ap (λ i. slice_get (set ms k x.mail) i) jk ∙ set_here ms k x.mail room))
        (snoc_get ys x s j at);
  }
