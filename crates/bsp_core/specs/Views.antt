-- What a node is seen as, what its actions do to that, and what a row of a plan is.
use Rattle.std.specs.Prelude.{◌≡◌, ◌≢◌, ◌==◌, ℕ, ◌+◌, ◌<◌, ◌≤◌, List, [], ◌∷◌, ◌++◌, if◌then◌else◌, Result, Ok, Err}
use Rattle.chaos_letter.specs.declared.letter.Letter.{Letter}
use Rattle.chaos_letter.specs.declared.wanted.Wanted.{Wanted}
use Rattle.chaos_letter.specs.Fits.{Fits}
use Rattle.bsp_core.specs.declared.phased.Want.{Want}
use Rattle.bsp_core.specs.declared.phased.Want.TheVariants.{Send, Take, Work, Done}
use Rattle.bsp_core.specs.declared.phased.TakeFault.{TakeFault}
use Rattle.bsp_core.specs.declared.phased.TakeFault.TheVariants.{Stray}

-- What others can come to see of a node: its number, the count of nodes, the phases left, the letters that it has
-- prepared and not yet sent, by receiver, what it has still to take in this phase, by sender, and the letters that it
-- took in this phase.
pub record Face : Type 0 where
  pub me : ℕ
  pub count : ℕ
  pub left : ℕ
  pub out : List (ℕ × Letter)
  pub due : List (ℕ × Wanted)
  pub got : List Letter

-- A node: its face, and whatever else it knows, an S.
pub record View (S : Type 0) : Type 0 where
  pub face : Face
  pub state : S

-- the one action that is due
abbrev pub next_with : ℕ → List (ℕ × Wanted) → List (ℕ × Letter) → Want
next_with left due (x ∷ xs) = Send x.0
next_with left (x ∷ xs) [] = Take x.0
next_with left [] [] = if left == 0 then Done else Work

abbrev pub next_of : Face → Want
next_of v = next_with v.left v.due v.out

-- the face without its next letter
abbrev pub sent_from : Face → List (ℕ × Letter) → Face
sent_from v rest = record v { out = rest }

-- the face with one letter more
abbrev pub taken_into : Face → List (ℕ × Wanted) → Letter → Face
taken_into v rest x = record v { due = rest; got = v.got ++ x ∷ [] }

-- the next letter, and the node without it
abbrev pub Posts : {S : Type 0} → View S → Letter → View S → Type 0
Posts {S} v x w =
    (to : ℕ) × (rest : List (ℕ × Letter)) × (v.face.out ≡ (to, x) ∷ rest) × (w ≡ record { face = sent_from v.face rest; state = v.state })

-- the letter is the next that is taken
abbrev pub Takes : {S : Type 0} → View S → Letter → View S → Type 0
Takes {S} v x w =
    (from : ℕ) × (wanted : Wanted) × (rest : List (ℕ × Wanted)) × (v.face.due ≡ (from, wanted) ∷ rest) × Fits wanted x
    × (w ≡ record { face = taken_into v.face rest x; state = v.state })

-- a refusal comes where the letter isn't wanted, hands it back and changes nothing
abbrev pub IsStray : {S : Type 0} → View S → Letter → Result Unit TakeFault → View S → Type 0
IsStray {S} v x (Ok _) w = Unit {0}
IsStray {S} v x (Err (Stray wanted got)) w =
    (¬ Fits wanted x) × (got ≡ x) × (w ≡ v) × ((from : ℕ) × (rest : List (ℕ × Wanted)) × (v.face.due ≡ (from, wanted) ∷ rest))

-- of a list by nodes, what is for one node
abbrev pub for_node : {A : Type 0} → ℕ → List (ℕ × A) → List A
for_node q [] = []
for_node q (x ∷ xs) = if x.0 == q then x.1 ∷ for_node q xs else for_node q xs

-- the letters that the nodes of a row have prepared for q, by what q takes
abbrev pub incoming : (ℕ → Face) → ℕ → List (ℕ × Wanted) → List Letter
incoming row q [] = []
incoming row q (x ∷ xs) = for_node q (row x.0).out ++ incoming row q xs

-- the face of p once it has sent and taken all letters of the row
abbrev pub ready : (ℕ → Face) → ℕ → Face
ready row p = record (row p) { out = []; due = []; got = (row p).got ++ incoming row p (row p).due }

-- one letter for one want, and no letter where none is wanted
abbrev pub Serves : List Wanted → List Letter → Type 0
Serves [] [] = Unit {0}
Serves (w ∷ []) (x ∷ []) = Fits w x
Serves _ _ = ⊥

-- others below the count, ascending, each at most once
abbrev pub Ascends : ℕ → ℕ → ℕ → List ℕ → Type 0
Ascends me count low [] = Unit {0}
Ascends me count low (x ∷ xs) = (low ≤ x) × (x < count) × (x ≢ me) × Ascends me count (x + 1) xs

-- the numbers of the nodes in a list by nodes
abbrev pub nodes_in : {A : Type 0} → List (ℕ × A) → List ℕ
nodes_in [] = []
nodes_in (x ∷ xs) = x.0 ∷ nodes_in xs

-- The nodes below n are together as a phase begins: p sends to q exactly where q takes from p, and each letter fits.
pub record Meets (n : ℕ) (row : ℕ → Face) : Type 0 where
  pub me : (p : ℕ) → p < n → (row p).me ≡ p
  pub count : (p : ℕ) → p < n → (row p).count ≡ n
  pub left : (p : ℕ) → p < n → (row p).left ≡ (row 0).left
  pub got : (p : ℕ) → p < n → (row p).got ≡ []
  pub out : (p : ℕ) → p < n → Ascends p n 0 (nodes_in (row p).out)
  pub due : (p : ℕ) → p < n → Ascends p n 0 (nodes_in (row p).due)
  pub serves : (p q : ℕ) → p < n → q < n → Serves (for_node p (row q).due) (for_node q (row p).out)
  pub done : (p : ℕ) → p < n → (row 0).left ≡ 0 → ((row p).out ≡ []) × ((row p).due ≡ [])

-- what is told of a work: from the end of a phase to the beginning of the next, for whatever plan
abbrev pub WorksFor : {P S : Type 0} → (P → Type 0) → (P → ℕ) → (P → ℕ → ℕ → Face) → (P → ℕ → ℕ → S → Type 0) → View S → View S → Type 0
WorksFor {P} {S} is count rows holds v w =
    (plan : P) (t p : ℕ) → is plan → p < count plan → v.face ≡ ready (rows plan t) p → holds plan t p v.state →
    (w.face ≡ rows plan (t + 1) p) × holds plan (t + 1) p w.state

-- the other node of an action is below n
abbrev pub Below : Want → ℕ → Type 0
Below (Send to) n = to < n
Below (Take from) n = from < n
Below Work n = Unit {0}
Below Done n = Unit {0}
