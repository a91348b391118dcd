-- One round after another, and the halves of a list.
use Rattle.std.proofs.Common.{◌≤◌, ⊎_elim, zero, get_or, ◌≡◌, ◌≢◌, ℕ, ◌+◌, ◌<◌, List, [], ◌∷◌, ◌++◌, length, Result, sym, refl, ◌∙◌, subst}
use Rattle.std.proofs.Common.{arith, suc}
use Rattle.std.specs.List.{All, AllZip}
use Rattle.std.proofs.lemmas.Bool.{cases_lt}
use Rattle.std.proofs.lemmas.List.Elements.{AllZip-get_or, length_all_zip}
use Rattle.bsp_core.specs.Views.{View}
use Rattle.bsp_mail.specs.declared.queues.Queues.{Queues}
use Rattle.bsp_threads.specs.declared.drove.Drove.{Drove}
use Rattle.bsp_threads.specs.declared.drove.DriveFault.{DriveFault}
use Rattle.bsp_threads.specs.declared.seat.Standing.{Standing}
use Rattle.bsp_threads.specs.declared.seat.Standing.TheVariants.{Going}
use Rattle.bsp_threads.specs.declared.seat.DriveSeat.{DriveSeat}
use Rattle.bsp_threads.specs.Seats.{IsReady, HasDone}
use Rattle.bsp_threads.specs.Drives.{standing_after, DriveEnds, Answers}
use Rattle.bsp_threads.specs.Rounds.{HasGone}
use Rattle.bsp_threads.proofs.Acting.{then_done, ends_more, ends_of}

module _ {N S : Type 0} (view : N → View S) (works : View S → View S → Type 0) (queues : Queues) where
  pub gone_on : (s t : DriveSeat N) (r : Result Drove DriveFault) → s.standing ≡ Going → IsReady view queues t
      → t.standing ≡ standing_after r
      → HasDone view works s (Answers r (view t.node)) t → HasGone view works queues s t
  gone_on s t r going ready after done = record {
    ready = ready;
    stays = λ other. absurd (other going);
    come = λ start so.
        let w = view t.node in
        let moved = subst (λ (k : Standing). HasDone view works start (DriveEnds k (view s.node)) s) going so in
        then_done view works start s t (Answers r w) (DriveEnds t.standing w) moved done
        (λ xs acts mailed h. ends_more w t.standing xs acts mailed (subst (λ (k : Standing). DriveEnds k w acts mailed) (sym after)
        (ends_of w r acts mailed h)));
  }

  pub gone_not : (s : DriveSeat N) → IsReady view queues s → HasGone view works queues s s
  gone_not s ready = record { ready = ready; stays = λ other. refl; come = λ start so. so }

  pub gone_twice : (s t u : DriveSeat N) → HasGone view works queues s t → HasGone view works queues t u → HasGone view works queues s u
  gone_twice s t u a b = record {
    ready = b.ready;
    stays = λ other. b.stays (subst (λ (k : DriveSeat N). k.standing ≢ Going) (sym (a.stays other)) other) ∙ a.stays other;
    come = λ start so. b.come start (a.come start so);
  }

pub zip_append : {X : Type 0} (R : X → X → Type 0) (xs ys us vs : List X) → AllZip R xs us → AllZip R ys vs → AllZip R (xs ++ ys) (us ++ vs)
zip_append R [] ys [] vs a b = b
zip_append R [] ys (u ∷ us) vs a b = absurd a
zip_append R (x ∷ xs) ys [] vs a b = absurd a
zip_append R (x ∷ xs) ys (u ∷ us) vs a b = (a.0, zip_append R xs ys us vs a.1 b)

pub zip_trans : {X : Type 0} (R : X → X → Type 0) (xs ys zs : List X) → ((x y z : X) → R x y → R y z → R x z) → AllZip R xs ys
    → AllZip R ys zs → AllZip R xs zs
zip_trans R [] [] [] t a b = tt
zip_trans R [] [] (z ∷ zs) t a b = absurd b
zip_trans R [] (y ∷ ys) zs t a b = absurd a
zip_trans R (x ∷ xs) [] zs t a b = absurd a
zip_trans R (x ∷ xs) (y ∷ ys) [] t a b = absurd b
zip_trans R (x ∷ xs) (y ∷ ys) (z ∷ zs) t a b = (t x y z a.0 b.0, zip_trans R xs ys zs t a.1 b.1)

module _ {N S : Type 0} (view : N → View S) (works : View S → View S → Type 0) (queues : Queues) where
  pub ready_again : (xs ys : List (DriveSeat N)) → AllZip (HasGone view works queues) xs ys → All (IsReady view queues) ys
  ready_again xs ys h k d fits =
      (AllZip-get_or (HasGone view works queues) xs ys k d d h (let e = length_all_zip (HasGone view works queues) xs ys h in
      omega arith)).ready

  pub none_gone : (xs : List (DriveSeat N)) → All (IsReady view queues) xs → AllZip (HasGone view works queues) xs xs
  none_gone [] h = tt
  none_gone (x ∷ xs) h = (gone_not view works queues x (h 0 x (omega arith)), none_gone xs (λ k d fits. h (suc k) d (omega arith)))

  pub more_gone : (xs ys zs : List (DriveSeat N)) → AllZip (HasGone view works queues) xs ys → AllZip (HasGone view works queues) ys zs
      → AllZip (HasGone view works queues) xs zs
  more_gone xs ys zs a b = zip_trans (HasGone view works queues) xs ys zs (gone_twice view works queues) a b

-- what holds of the first elements and of the next holds of one more
get_any : {X : Type 0} (xs : List X) (i : ℕ) (d e : X) → i < length xs → get_or xs i d ≡ get_or xs i e
get_any [] i d e low = absurd (omega arith)
get_any (x ∷ xs) zero d e low = refl
get_any (x ∷ xs) (suc i) d e low = get_any xs i d e (omega arith)

pub seen_more : {X : Type 0} (P : X → Type 0) (xs : List X) (i : ℕ) (x : X) → i < length xs → x ≡ get_or xs i x → P x
    → ((k : ℕ) (d : X) → k < i → P (get_or xs k d)) → (k : ℕ) (d : X) → k < i + 1 → P (get_or xs k d)
seen_more {X} P xs i x low is here seen k d less = ⊎_elim
    (λ (a : k < i). seen k d a)
    (λ (b : i ≤ k).
    let e : i ≡ k = omega arith in
    subst (λ (j : ℕ). P (get_or xs j d)) e (subst P (is ∙ get_any xs i x d low) here))
    (cases_lt k i)
