-- What was sent, and the phase that it makes.
use Rattle.std.specs.Prelude.{◌≡◌, ℕ, ◌≤◌, ◌<◌, ◌^◌, ℤ, List, length, map, Result, Ok, Err, IfOk, Vec}
use Rattle.std.proofs.Common.{arith, subst}
use Rattle.std.proofs.lemmas.Result.{IfOk-weaker}
use Rattle.fd_words.specs.Lists.{list_at}
use Rattle.fd_words.specs.declared.wanting.Memory.{Memory}
use Rattle.plan_walk.specs.declared.stages.Naming.{Naming}
use Rattle.chaos_entering.specs.Coming.{CanStand, IsSoundActivity}
use Rattle.chaos_entering.specs.Entering.{ArePosted}
use Rattle.chaos_entering.specs.Sending.{AreSentBy, EntersBy, IsSomeOk, IsStagedBy}
use Rattle.chaos_entering.specs.StageLaws.{staged_stands}
use Rattle.chaos_entering.specs.declared.activity.Activity.{Activity}
use Rattle.chaos_entering.specs.declared.entered.Entered.{Entered}
use Rattle.chaos_entering.specs.declared.loops.Staged.{Staged}

-- what is told of what a call gives
pub told_of : {A E : Type 0} (P : A → Type 0) (r : Result A E) (x : A) → r ≡ Ok x → IfOk r P → P x
told_of P r x is h = subst (λ o. IfOk o P) is h

-- what was sent, from what is told of it in parts
pub all_sent : {Z : Type 0} (r : Result Staged Memory) (n : Naming) (me nodes : ℕ) (made : Result (List (List ℤ)) Memory)
    (known : Result (Vec ℕ Z) Memory) (lists : List (List ℤ)) (counts : Vec ℕ Z) (l : List ℕ)
    → made ≡ Ok lists → known ≡ Ok counts → l ≡ counts.items → IfOk r (λ x. x.own ≡ list_at lists me)
    → IfOk r (λ x. x.sizes ≡ map length lists) → IfOk r (λ x. ArePosted n me nodes lists l x.posted)
    → IfOk r (AreSentBy n me nodes made known)
all_sent (Ok x) n me nodes made known lists counts l made_is known_is is own sizes posted = record {
  lists = lists;
  counts = counts;
  made_is = made_is;
  known_is = known_is;
  sent = record { own = own; sizes = sizes; posted = subst (λ k. ArePosted n me nodes lists k x.posted) is posted };
}
all_sent (Err y) n me nodes made known lists counts l made_is known_is is own sizes posted = tt

module _ {Z : Type 0} (n : Naming) (me nodes : ℕ) (activity : Activity) (made : Result (List (List ℤ)) Memory)
    (known : Result (Vec ℕ Z) Memory) (left : ℕ) where
  pub enters_by : (r : Result Staged Memory) (q : Result Entered Memory) → IfOk r (AreSentBy n me nodes made known)
      → IfOk q (λ e. IsSomeOk r (λ x. IsStagedBy n activity left x e)) → IfOk q (EntersBy n me nodes activity made known left)
  enters_by (Ok x) (Ok e) h by = record {
    lists = h.lists;
    counts = h.counts;
    made_is = h.made_is;
    known_is = h.known_is;
    staged = by me nodes h.lists h.counts.items h.sent;
  }
  enters_by (Ok x) (Err y) h by = tt
  enters_by (Err z) (Ok e) h by = absurd by
  enters_by (Err z) (Err y) h by = tt

  pub stands_by : (r : Result Staged Memory) (q : Result Entered Memory) → left < 2 ^ 31 → IsSoundActivity activity
      → IfOk r (AreSentBy n me nodes made known) → IfOk q (λ e. IsSomeOk r (λ x. IsStagedBy n activity left x e))
      → IfOk q (CanStand me nodes)
  stands_by r q small sound h by =
      IfOk-weaker q (EntersBy n me nodes activity made known left) (CanStand me nodes)
      (λ e x. staged_stands n me nodes activity x.lists x.counts.items left e small sound x.staged) (enters_by r q h by)

  pub falls_by : (r : Result Staged Memory) (q : Result Entered Memory) → IfOk r (AreSentBy n me nodes made known)
      → IfOk q (λ e. IsSomeOk r (λ x. IsStagedBy n activity left x e)) → IfOk q (λ e. e.left ≤ left)
  falls_by r q h by =
      IfOk-weaker q (EntersBy n me nodes activity made known left) (λ e. e.left ≤ left)
      (λ e x. let same : e.left ≡ left = x.staged.left_is in omega (arith, same)) (enters_by r q h by)
