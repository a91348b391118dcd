-- At a stage: the letters that are due and owed, and what is in hand.
use Rattle.std.proofs.Common.{◌≡◌, ℕ, ℤ, List, sym, subst}
use Rattle.std.specs.Prelude.{IfSome}
use Rattle.chaos_hash.specs.Stamps.{Stamps}
use Rattle.plan_loop.specs.LoopLetters.{owed_in, sent_in}
use Rattle.chaos_inspect.specs.Inspecting.{InHand, IsDue, IsInspecting, IsOwed, phase_of}
use Rattle.chaos_inspect.specs.declared.inspection.Inspection.{Inspection}
use Rattle.chaos_inspect.specs.declared.stage.Stage.{Stage}

module _ (x : Inspection) (owners : List (List ℕ)) (store : List (List ℤ)) (stage : Stage) (at : x.stage ≡ stage) where
  pub due_at : (lists : List (List ℤ)) → IfSome (phase_of stage) (λ l. lists ≡ sent_in x.facts owners store l x.me)
      → IsDue x owners store lists
  due_at lists h = subst (λ s. IfSome (phase_of s) (λ l. lists ≡ sent_in x.facts owners store l x.me)) (sym at) h

  pub owed_at : (lists : List (List ℤ)) → IsOwed x owners store lists
      → IfSome (phase_of stage) (λ l. lists ≡ owed_in x.facts owners store l x.me)
  owed_at lists h = subst (λ s. IfSome (phase_of s) (λ l. lists ≡ owed_in x.facts owners store l x.me)) at h

  pub hand_at : (tables : List Stamps) → IsInspecting x owners store tables → InHand x owners store tables stage
  hand_at tables h = subst (InHand x owners store tables) at h.hand
