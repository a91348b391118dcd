-- A World as plain lists, its place in a plan, and its turns.
use Rattle.std.specs.Prelude.{◌≡◌, ℕ, ◌+◌, ◌*◌, ◌/◌, ◌%◌, ◌^◌, ◌<◌, List, [], ◌∷◌, ◌++◌, ◌≤◌, ◌⊎◌, length, map, slice_get, slice_set, Some}
use Rattle.bsp_core.specs.declared.turned.Turned.{Turned}
use Rattle.bsp_core.specs.declared.turned.Turned.TheVariants.{Moved, NotReady, Done}
use Rattle.bsp_core.specs.declared.phased.Want.TheVariants.{Send, Take, Work, Done as AllDone}
use Rattle.std.proofs.Common.{get_or, suc, zero}
use Rattle.chaos_letter.specs.declared.letter.Letter.{Letter}
use Rattle.bsp_core.specs.Views.{Face, View, next_of, Posts, Takes}
use Rattle.bsp_core.specs.Lockstep.{AllStand, IsOver, times_in, AreBelow, sum_below}

-- the nodes, what was sent from p to q at p * n + q, how much of that was taken, and who moved
pub record WorldState (N : Type 0) : Type 0 where
  pub nodes : List N
  pub sent : List (List Letter)
  pub taken : List ℕ
  pub moved : List ℕ

abbrev pub world_state : {N : Type 0} → List N → List (List Letter) → List ℕ → List ℕ → WorldState N
world_state nodes sent taken moved = record { nodes = nodes; sent = sent; taken = taken; moved = moved }

abbrev pub face_of : {S : Type 0} → View S → Face
face_of v = v.face

-- the faces of a list of nodes; where there is none, d
abbrev pub faces_of : {S : Type 0} → Face → List (View S) → ℕ → Face
faces_of d views p = get_or (map face_of views) p d

abbrev pub sent_of : ℕ → List (List Letter) → ℕ → ℕ → List Letter
sent_of n sent p q = get_or sent (p * n + q) []

abbrev pub taken_of_pair : ℕ → List ℕ → ℕ → ℕ → ℕ
taken_of_pair n taken p q = get_or taken (p * n + q) 0

abbrev pub moves_of : List ℕ → ℕ → ℕ
moves_of moved p = times_in p moved

-- what node p of a list knows, if there is such a node
abbrev pub Knows : {S : Type 0} → (ℕ → ℕ → S → Type 0) → List (View S) → ℕ → ℕ → Type 0
Knows {S} holds views f p = (v : View S) → slice_get views p ≡ Some v → holds f p v.state

-- the World is at its place in the plan
pub record ListsInLockstep {S : Type 0} (rows : ℕ → ℕ → Face) (holds : ℕ → ℕ → S → Type 0) (n : ℕ) (views : List (View S))
    (sent : List (List Letter)) (taken : List ℕ) (moved : List ℕ) : Type 0 where
  pub views_len : length views ≡ n
  pub sent_len : length sent ≡ n * n
  pub taken_len : length taken ≡ n * n
  pub moved_in : AreBelow n moved
  pub stands : AllStand rows (Knows holds views) n (faces_of (rows 0 0) views) (sent_of n sent) (taken_of_pair n taken) (moves_of moved)

abbrev pub IsInLockstep : {N S : Type 0} → (N → View S) → (ℕ → ℕ → Face) → (ℕ → ℕ → S → Type 0) → ℕ → WorldState N → Type 0
IsInLockstep view rows holds n w = ListsInLockstep rows holds n (map view w.nodes) w.sent w.taken w.moved

-- the World is at the plan's end: no order of turns leads to another
pub record HasEnded {N S : Type 0} (view : N → View S) (rows : ℕ → ℕ → Face) (holds : ℕ → ℕ → S → Type 0) (n : ℕ)
    (w : WorldState N) : Type 0 where
  pub phases : ℕ
  pub is : IsOver rows (Knows holds (map view w.nodes)) n phases (faces_of (rows 0 0) (map view w.nodes)) (sent_of n w.sent)
      (taken_of_pair n w.taken) (moves_of w.moved)
  pub moves : length w.moved ≡ sum_below n (moves_of w.moved)

-- a number that falls at each action
abbrev pub weight : Face → ℕ
weight v = 33 * v.left + (length v.out + length v.due)

abbrev pub total : {S : Type 0} → List (View S) → ℕ
total [] = 0
total (v ∷ vs) = weight v.face + total vs

-- the node at p waits for a letter that isn't there
pub record Waits {N S : Type 0} (view : N → View S) (p : ℕ) (w : WorldState N) : Type 0 where
  pub node : N
  pub from : ℕ
  pub is : slice_get w.nodes p ≡ Some node
  pub due : next_of (view node).face ≡ Take from
  pub from_in : from < (view node).face.count
  pub empty : length (sent_of (length w.nodes) w.sent from p) ≤ taken_of_pair (length w.nodes) w.taken from p

-- the node at p is done
pub record IsDone {N S : Type 0} (view : N → View S) (p : ℕ) (w : WorldState N) : Type 0 where
  pub node : N
  pub is : slice_get w.nodes p ≡ Some node
  pub due : next_of (view node).face ≡ AllDone

-- the node at p can't move
abbrev pub IsStill : {N S : Type 0} → (N → View S) → ℕ → WorldState N → Type 0
IsStill view p w = Waits view p w ⊎ IsDone view p w

-- The next action of node p, which is v and becomes w.
pub data Acted {N S : Type 0} (view : N → View S) (p : ℕ) (v w : N) (old new : WorldState N) : Type 0 where
  Sends : (to : ℕ) (x : Letter) → next_of (view v).face ≡ Send to → Posts (view v) x (view w) → new.taken ≡ old.taken →
      new.sent ≡ slice_set old.sent (p * length old.nodes + to) (sent_of (length old.nodes) old.sent p to ++ x ∷ [])
      → Acted view p v w old new
  TakesUp : (from : ℕ) (x : Letter) → next_of (view v).face ≡ Take from → Takes (view v) x (view w) → new.sent ≡ old.sent →
      slice_get (sent_of (length old.nodes) old.sent from p) (taken_of_pair (length old.nodes) old.taken from p) ≡ Some x →
      new.taken ≡ slice_set old.taken (from * length old.nodes + p) (taken_of_pair (length old.nodes) old.taken from p + 1)
      → Acted view p v w old new
  Works : next_of (view v).face ≡ Work → new.sent ≡ old.sent → new.taken ≡ old.taken → Acted view p v w old new

-- a turn of p that moved: its next action, and no other node and no other list changes
pub record Moves {N S : Type 0} (view : N → View S) (p : ℕ) (old new : WorldState N) : Type 0 where
  pub node : N
  pub after : N
  pub is : slice_get old.nodes p ≡ Some node
  pub nodes : new.nodes ≡ slice_set old.nodes p after
  pub moved : new.moved ≡ old.moved ++ p ∷ []
  pub act : Acted view p node after old new

-- what a turn of p did
abbrev pub TurnIs : {N S : Type 0} → (N → View S) → ℕ → Turned → WorldState N → WorldState N → Type 0
TurnIs {N} {S} view p Moved old new = Moves view p old new × (total (map view new.nodes) < total (map view old.nodes))
TurnIs {N} {S} view p NotReady old new = (new ≡ old) × Waits view p old
TurnIs {N} {S} view p Done old new = (new ≡ old) × IsDone view p old

-- nothing that contracts see has changed
pub record IsUnchanged {N S : Type 0} (view : N → View S) (old new : WorldState N) : Type 0 where
  pub nodes : map view new.nodes ≡ map view old.nodes
  pub sent : new.sent ≡ old.sent
  pub taken : new.taken ≡ old.taken
  pub moved : new.moved ≡ old.moved

-- a turn of p: it moved, or it couldn't and nothing changed
abbrev pub Turn : {N S : Type 0} → (N → View S) → ℕ → WorldState N → WorldState N → Type 0
Turn view p old new = Moves view p old new ⊎ ((new ≡ old) × IsStill view p old)

-- these turns in order
abbrev pub Plays : {N S : Type 0} → (N → View S) → List ℕ → WorldState N → WorldState N → Type 0
Plays view [] old new = new ≡ old
Plays {N} view (p ∷ ps) old new = (mid : WorldState N) × Turn view p old mid × Plays view ps mid new

-- these turns in order, and then one that failed
abbrev pub Stops : {N S : Type 0} → (N → View S) → List ℕ → WorldState N → WorldState N → Type 0
Stops {N} view ps old new = (mid : WorldState N) × Plays view ps old mid × IsUnchanged view mid new

-- k rounds of the nodes below n
abbrev pub nodes_below : ℕ → List ℕ
nodes_below zero = []
nodes_below (suc n) = nodes_below n ++ n ∷ []

abbrev pub rounds : ℕ → ℕ → List ℕ
rounds zero n = []
rounds (suc k) n = rounds k n ++ nodes_below n

-- p is the first node that can move, from `from` on and counting round
pub record IsFirst {N S : Type 0} (view : N → View S) (from p : ℕ) (old : WorldState N) : Type 0 where
  pub steps : ℕ
  pub few : steps < length old.nodes
  pub is : p ≡ (from + steps) % length old.nodes
  pub before : (k : ℕ) → k < steps → IsStill view ((from + k) % length old.nodes) old

-- the next number of a seed, and the node that it draws
abbrev pub next_seed : ℕ → ℕ
next_seed s = (s * 6364136223846793005 + 1442695040888963407) % 2 ^ 64

abbrev pub drawn : ℕ → ℕ → ℕ
drawn n s = (s / 2 ^ 33) % n

-- these nodes move in order, each the first that can from the drawn one on
abbrev pub Draws : {N S : Type 0} → (N → View S) → ℕ → List ℕ → WorldState N → ℕ → WorldState N → Type 0
Draws view s [] old s' new = (s' ≡ s) × (new ≡ old)
Draws {N} view s (p ∷ ps) old s' new =
    (mid : WorldState N) × IsFirst view (drawn (length old.nodes) (next_seed s)) p old × Moves view p old mid
    × Draws view (next_seed s) ps mid s' new

-- all nodes are done
abbrev pub AreDone : {N S : Type 0} → (N → View S) → List N → Type 0
AreDone {N} {S} view nodes = (p : ℕ) (v : N) → slice_get nodes p ≡ Some v → next_of (view v).face ≡ AllDone

-- the nodes are those of the plan's first row
abbrev pub Begins : {S : Type 0} → (ℕ → ℕ → Face) → (ℕ → ℕ → S → Type 0) → ℕ → List (View S) → Type 0
Begins {S} rows holds n views = (length views ≡ n) × ((p : ℕ) (v : View S) → slice_get views p ≡ Some v → (v.face ≡ rows 0 p)
    × holds 0 p v.state)

-- the nodes are those of some plan's first row
abbrev pub AreTogether : {N S P : Type 0} → (N → View S) → (P → Type 0) → (P → ℕ) → (P → ℕ → ℕ → Face) → (P → ℕ → ℕ → S → Type 0) → List N
    → Type 0
AreTogether {N} {S} {P} view is count rows holds nodes = (plan : P) × is plan × Begins (rows plan) (holds plan) (count plan)
    (map view nodes)

-- a World of these nodes stands in whatever plan they begin
abbrev pub StandsWhereItBegan : {N S P : Type 0} → (N → View S) → (P → Type 0) → (P → ℕ) → (P → ℕ → ℕ → Face) → (P → ℕ → ℕ → S → Type 0)
    → List N → WorldState N → Type 0
StandsWhereItBegan {N} {S} {P} view is count rows holds nodes w =
    (plan : P) → is plan → Begins (rows plan) (holds plan) (count plan) (map view nodes) → IsInLockstep view (rows plan) (holds plan)
    (count plan) w

-- whatever plan the World stood in, it stands in
abbrev pub KeepsLockstep : {N S P : Type 0} → (N → View S) → (P → Type 0) → (P → ℕ) → (P → ℕ → ℕ → Face) → (P → ℕ → ℕ → S → Type 0)
    → WorldState N → WorldState N → Type 0
KeepsLockstep {N} {S} {P} view is count rows holds old new =
    (plan : P) → is plan → IsInLockstep view (rows plan) (holds plan) (count plan) old → IsInLockstep view (rows plan) (holds plan)
    (count plan) new

-- whatever plan the World stood in, it is at the end of
abbrev pub Ends : {N S P : Type 0} → (N → View S) → (P → Type 0) → (P → ℕ) → (P → ℕ → ℕ → Face) → (P → ℕ → ℕ → S → Type 0) → WorldState N
    → WorldState N → Type 0
Ends {N} {S} {P} view is count rows holds old new =
    (plan : P) → is plan → IsInLockstep view (rows plan) (holds plan) (count plan) old
    → HasEnded view (rows plan) (holds plan) (count plan) new
