-- What is sent in a stage, before what the node does in it is put beside it.
use Rattle.std.specs.Prelude.{◌≡◌, ℕ, ℤ, List, length, map, Result, Ok, Err, Vec}
use Rattle.fd_words.specs.Lists.{list_at}
use Rattle.fd_words.specs.declared.wanting.Memory.{Memory}
use Rattle.plan_walk.specs.declared.stages.Naming.{Naming}
use Rattle.chaos_entering.specs.Entering.{ArePosted, IsStaged}
use Rattle.chaos_entering.specs.declared.activity.Activity.{Activity}
use Rattle.chaos_entering.specs.declared.entered.Entered.{Entered}
use Rattle.chaos_entering.specs.declared.loops.Staged.{Staged}

-- it is there, and of it this holds
abbrev pub IsSomeOk : Result Staged Memory → (Staged → Type 0) → Type 0
IsSomeOk (Ok x) P = P x
IsSomeOk (Err e) P = ⊥

-- these lists, by receiver, and these lengths, by sender
pub record AreSentHere (n : Naming) (me nodes : ℕ) (lists : List (List ℤ)) (counts : List ℕ) (x : Staged) : Type 0 where
  pub own : x.own ≡ list_at lists me
  pub sizes : x.sizes ≡ map length lists
  pub posted : ArePosted n me nodes lists counts x.posted

-- the lists and lengths that were made, where there was memory for them
pub record AreSentBy {Z : Type 0} (n : Naming) (me nodes : ℕ) (made : Result (List (List ℤ)) Memory) (known : Result (Vec ℕ Z) Memory)
    (x : Staged) : Type 0 where
  pub lists : List (List ℤ)
  pub counts : Vec ℕ Z
  pub made_is : made ≡ Ok lists
  pub known_is : known ≡ Ok counts
  pub sent : AreSentHere n me nodes lists counts.items x

-- whatever was sent, that is the phase
abbrev pub IsStagedBy : Naming → Activity → ℕ → Staged → Entered → Type 0
IsStagedBy n activity left x e =
    (me nodes : ℕ) (lists : List (List ℤ)) (counts : List ℕ) → AreSentHere n me nodes lists counts x
    → IsStaged n me nodes activity lists counts left e

-- the phase with what was made
pub record EntersBy {Z : Type 0} (n : Naming) (me nodes : ℕ) (activity : Activity) (made : Result (List (List ℤ)) Memory)
    (known : Result (Vec ℕ Z) Memory) (left : ℕ) (e : Entered) : Type 0 where
  pub lists : List (List ℤ)
  pub counts : Vec ℕ Z
  pub made_is : made ≡ Ok lists
  pub known_is : known ≡ Ok counts
  pub staged : IsStaged n me nodes activity lists counts.items left e
