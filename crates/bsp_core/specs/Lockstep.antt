-- Lockstep: the rows of a plan, phase by phase. In each phase all nodes post their letters, all letters are delivered, each
-- node takes its letters in order, and each works; that leads from one row to the next. Here is where a node stands in it
-- that is not as far as others.
use Rattle.std.proofs.Common.{suc, zero}
use Rattle.std.specs.Prelude.{◌≡◌, ◌==◌, ℕ, ◌+◌, ◌*◌, ◌<◌, List, [], ◌∷◌, ◌++◌, ◌⊎◌, if◌then◌else◌, length}
use Rattle.chaos_letter.specs.declared.letter.Letter.{Letter}
use Rattle.chaos_letter.specs.declared.wanted.Wanted.{Wanted}
use Rattle.bsp_core.specs.Views.{Face, for_node, incoming}

-- the letters that the plan has from p to q in the phases before t
abbrev pub upto : (ℕ → ℕ → Face) → ℕ → ℕ → ℕ → List Letter
upto rows p q zero = []
upto rows p q (suc t) = upto rows p q t ++ for_node q (rows t p).out

-- the sends and takes of p in phase t
abbrev pub moves_in : (ℕ → ℕ → Face) → ℕ → ℕ → ℕ
moves_in rows p t = length (rows t p).out + length (rows t p).due

-- the actions of p in the phases before t
abbrev pub moves_before : (ℕ → ℕ → Face) → ℕ → ℕ → ℕ
moves_before rows p zero = 0
moves_before rows p (suc t) = moves_before rows p t + moves_in rows p t + 1

-- Node p has done f works, has sent the letters `posted` of phase f, and has taken what it takes from `fetched`.
-- It has sent each q these lists, has taken so many letters of each q, and has done so many actions.
pub record StandsAt (rows : ℕ → ℕ → Face) (n p f : ℕ) (v : Face) (sent : ℕ → List Letter) (taken : ℕ → ℕ) (moves : ℕ) : Type 0 where
  pub posted : List (ℕ × Letter)
  pub fetched : List (ℕ × Wanted)
  pub is : v ≡ record (rows f p) { out = v.out; due = v.due; got = (rows f p).got ++ incoming (rows f) p fetched }
  pub out : posted ++ v.out ≡ (rows f p).out
  pub due : fetched ++ v.due ≡ (rows f p).due
  pub order : (v.out ≡ []) ⊎ (fetched ≡ [])
  pub sent_is : (q : ℕ) → q < n → sent q ++ for_node q v.out ≡ upto rows p q (suc f)
  pub taken_is : (q : ℕ) → q < n → taken q + length (for_node q v.due) ≡ length (upto rows q p (suc f))
  pub moves_are : moves + (length v.out + length v.due) ≡ moves_before rows p f + moves_in rows p f
  pub before : (t : ℕ) → t < f → 0 < (rows t 0).left

-- each node below n stands at its place in the plan, and knows there what is to be known
abbrev pub AllStand : (ℕ → ℕ → Face) → (ℕ → ℕ → Type 0) → ℕ → (ℕ → Face) → (ℕ → ℕ → List Letter) → (ℕ → ℕ → ℕ) → (ℕ → ℕ) → Type 0
AllStand rows knows n faces sent taken moves = (p : ℕ) → p < n → (f : ℕ) × StandsAt rows n p f (faces p) (sent p) (λ q. taken q p)
    (moves p) × knows f p

-- phase t is the plan's end: no phase is left, and before it some were
abbrev pub IsEnd : (ℕ → ℕ → Face) → ℕ → Type 0
IsEnd rows t = ((rows t 0).left ≡ 0) × ((s : ℕ) → s < t → 0 < (rows s 0).left)

-- the sum of f over the numbers below n
abbrev pub sum_below : ℕ → (ℕ → ℕ) → ℕ
sum_below zero f = 0
sum_below (suc n) f = sum_below n f + f n

-- how many letters the plan has before phase t
abbrev pub letters_before : (ℕ → ℕ → Face) → ℕ → ℕ → ℕ
letters_before rows n t = sum_below n (λ p. sum_below n (λ q. length (upto rows p q t)))

-- how often a number stands in a list
abbrev pub times_in : ℕ → List ℕ → ℕ
times_in p [] = 0
times_in p (x ∷ xs) = if x == p then times_in p xs + 1 else times_in p xs

-- all are below n
abbrev pub AreBelow : ℕ → List ℕ → Type 0
AreBelow n [] = Unit {0}
AreBelow n (x ∷ xs) = (x < n) × AreBelow n xs

-- The end of a plan, at its phase t: what was sent and taken, what was done, and where the nodes are.
pub record IsOver (rows : ℕ → ℕ → Face) (knows : ℕ → ℕ → Type 0) (n t : ℕ) (faces : ℕ → Face) (sent : ℕ → ℕ → List Letter) (taken : ℕ → ℕ
    → ℕ) (moves : ℕ → ℕ) : Type 0 where
  pub end : IsEnd rows t
  pub sent_is : (p q : ℕ) → p < n → q < n → sent p q ≡ upto rows p q t
  pub taken_is : (p q : ℕ) → p < n → q < n → taken p q ≡ length (upto rows p q t)
  pub faces_are : (p : ℕ) → p < n → faces p ≡ rows t p
  pub known : (p : ℕ) → p < n → knows t p
  pub moves_are : (p : ℕ) → p < n → moves p ≡ moves_before rows p t
  pub all_moves : sum_below n moves ≡ 2 * letters_before rows n t + n * t
