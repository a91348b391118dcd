-- What a node alone did, and the letters of that.
use Rattle.std.proofs.Common.{get_or}
use Rattle.std.specs.Prelude.{◌≡◌, ◌==◌, ℕ, ◌<◌, List, [], ◌∷◌, ◌++◌, if◌then◌else◌, length, slice_get, Some}
use Rattle.chaos_letter.specs.declared.letter.Letter.{Letter}
use Rattle.chaos_letter.specs.declared.wanted.Wanted.{Wanted}
use Rattle.chaos_letter.specs.Fits.{Fits}
use Rattle.bsp_core.specs.declared.phased.Want.TheVariants.{Send, Take, Work, Done}
use Rattle.bsp_core.specs.Lockstep.{AllStand, IsOver, IsEnd, upto}
use Rattle.bsp_core.specs.Views.{Face, View, Posts, Takes, next_of}

-- what a node did
pub data Act : Type 0 where
  Sent : (to : ℕ) (x : Letter) → Act
  Took : (from : ℕ) (x : Letter) → Act
  Worked : Act

-- the letters put for q, in order
abbrev pub put_to : ℕ → List Act → List Letter
put_to q [] = []
put_to q (Sent to x ∷ ds) = if to == q then x ∷ put_to q ds else put_to q ds
put_to q (Took from x ∷ ds) = put_to q ds
put_to q (Worked ∷ ds) = put_to q ds

-- the letters taken from q, in order
abbrev pub taken_of : ℕ → List Act → List Letter
taken_of q [] = []
taken_of q (Sent to x ∷ ds) = taken_of q ds
taken_of q (Took from x ∷ ds) = if from == q then x ∷ taken_of q ds else taken_of q ds
taken_of q (Worked ∷ ds) = taken_of q ds

-- one action of a node, the one that is due. `works` is what is known of its work.
abbrev pub Does : {S : Type 0} → (View S → View S → Type 0) → View S → Act → View S → Type 0
Does {S} works v (Sent to x) w = (next_of v.face ≡ Send to) × Posts v x w
Does {S} works v (Took from x) w = (next_of v.face ≡ Take from) × Takes v x w
Does {S} works v Worked w = (next_of v.face ≡ Work) × works v w

-- the actions of a node, in order
abbrev pub Follows : {S : Type 0} → (View S → View S → Type 0) → View S → List Act → View S → Type 0
Follows works v [] w = w ≡ v
Follows {S} works v (d ∷ ds) w = (u : View S) × Does works v d u × Follows works u ds w

-- Of each node below n: what it did from the plan's start on, and where it is. Of each pair: what was sent, a prefix of
-- what was put, and begun by what was taken.
pub record AreHistories {S : Type 0} (rows : ℕ → ℕ → Face) (holds : ℕ → ℕ → S → Type 0) (works : View S → View S → Type 0) (n : ℕ)
    (acts : ℕ → List Act) (views : ℕ → View S) (sent : ℕ → ℕ → List Letter) : Type 0 where
  pub begun : (p : ℕ) → p < n → (start : View S) × (start.face ≡ rows 0 p) × holds 0 p start.state × Follows works start (acts p) (views p)
  pub put : (p q : ℕ) → p < n → q < n → (rest : List Letter) × (put_to q (acts p) ≡ sent p q ++ rest)
  pub taken : (p q : ℕ) → p < n → q < n → (rest : List Letter) × (sent p q ≡ taken_of p (acts q) ++ rest)

-- what each node knows at its place
abbrev pub KnowsBy : {S : Type 0} → (ℕ → ℕ → S → Type 0) → (ℕ → View S) → ℕ → ℕ → Type 0
KnowsBy holds views f p = holds f p (views p).state

-- What follows of them. The nodes stand in the plan, each put list is a prefix of the plan's, the next letter that was sent
-- to a node that waits for one fits, and where all are done, all is the plan's.
pub record AreLawful {S : Type 0} (rows : ℕ → ℕ → Face) (holds : ℕ → ℕ → S → Type 0) (n : ℕ)
    (acts : ℕ → List Act) (views : ℕ → View S) (sent : ℕ → ℕ → List Letter) : Type 0 where
  pub at : AllStand rows (KnowsBy holds views) n (λ p. (views p).face) (λ p q. put_to q (acts p)) (λ p q. length (taken_of p (acts q)))
      (λ p. length (acts p))
  pub prefix : (p q : ℕ) → p < n → q < n → (t : ℕ) × (rest : List Letter) × (upto rows p q t ≡ put_to q (acts p) ++ rest)
  pub fits : (p q : ℕ) → p < n → q < n → next_of (views q).face ≡ Take p → length (taken_of p (acts q)) < length (sent p q) →
      (wanted : Wanted) × (rest : List (ℕ × Wanted)) × ((views q).face.due ≡ (p, wanted) ∷ rest)
      × ((d : Letter) → Fits wanted (get_or (sent p q) (length (taken_of p (acts q))) d))
  pub over : ((p : ℕ) → p < n → next_of (views p).face ≡ Done) → (t : ℕ)
      × IsOver rows (KnowsBy holds views) n t (λ p. (views p).face) (λ p q. put_to q (acts p)) (λ p q. length (taken_of p (acts q)))
      (λ p. length (acts p))
      × ((p q : ℕ) → p < n → q < n → (sent p q ≡ upto rows p q t) × (taken_of p (acts q) ≡ upto rows p q t))

-- A node that was driven from x to y: what it did, of which the letters put begin with those sent, and the letters taken are these.
pub record WasDriven {S : Type 0} (works : View S → View S → Type 0) (p : ℕ) (x y : View S) (sent taken : ℕ → ℕ → List Letter) : Type 0
  where
    pub acts : List Act
    pub runs : Follows works x acts y
    pub put : (q : ℕ) → (rest : List Letter) × (put_to q acts ≡ sent p q ++ rest)
    pub took : (q : ℕ) → taken q p ≡ taken_of q acts

abbrev pub AllDriven : {S : Type 0} → (View S → View S → Type 0) → List (View S) → List (View S) → (ℕ → ℕ → List Letter)
    → (ℕ → ℕ → List Letter) → Type 0
AllDriven {S} works before after sent taken = (p : ℕ) (x y : View S) → slice_get before p ≡ Some x → slice_get after p ≡ Some y
    → WasDriven works p x y sent taken

abbrev pub ArePrefixes : ℕ → (ℕ → ℕ → List Letter) → (ℕ → ℕ → List Letter) → Type 0
ArePrefixes n taken sent = (p q : ℕ) → p < n → q < n → (rest : List Letter) × (sent p q ≡ taken p q ++ rest)

-- What follows for the pairs: what was sent is a prefix of the plan's letters, the next letter fits, and where all are done, all is the
-- plan's.
pub record AreInLockstep {S : Type 0} (rows : ℕ → ℕ → Face) (holds : ℕ → ℕ → S → Type 0) (n : ℕ) (after : List (View S)) (sent taken : ℕ
    → ℕ → List Letter) : Type 0 where
  pub prefix : (p q : ℕ) → p < n → q < n → (t : ℕ) × (rest : List Letter) × (upto rows p q t ≡ sent p q ++ rest)
  pub fits : (p q : ℕ) → p < n → q < n → (y : View S) → slice_get after q ≡ Some y → next_of y.face ≡ Take p
      → length (taken p q) < length (sent p q) →
      (wanted : Wanted) × (rest : List (ℕ × Wanted)) × (y.face.due ≡ (p, wanted) ∷ rest)
      × ((d : Letter) → Fits wanted (get_or (sent p q) (length (taken p q)) d))
  pub over : ((p : ℕ) (y : View S) → slice_get after p ≡ Some y → next_of y.face ≡ Done) → (t : ℕ) × IsEnd rows t
      × ((p q : ℕ) → p < n → q < n → (sent p q ≡ upto rows p q t) × (taken p q ≡ upto rows p q t))
      × ((p : ℕ) (y : View S) → p < n → slice_get after p ≡ Some y → (y.face ≡ rows t p) × holds t p y.state)
