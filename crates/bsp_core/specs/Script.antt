-- Who moves: the moves that turns make in a plan, by the plan alone.
use Rattle.std.proofs.Common.{suc, zero}
use Rattle.std.specs.Prelude.{◌≡◌, ◌==◌, ℕ, nat_lt, ◌+◌, ◌-◌, ◌%◌, Bool, true, false, List, [], ◌∷◌, ◌++◌, if◌then◌else◌, length, drop}
use Rattle.std.specs.Prelude.{Option, Some, None}
use Rattle.chaos_letter.specs.declared.letter.Letter.{Letter}
use Rattle.chaos_letter.specs.declared.wanted.Wanted.{Wanted}
use Rattle.bsp_core.specs.declared.phased.Want.{Want}
use Rattle.bsp_core.specs.declared.phased.Want.TheVariants.{Send, Take, Work, Done}
use Rattle.bsp_core.specs.Views.{Face, View, for_node, next_with}
use Rattle.bsp_core.specs.Lockstep.{moves_in, times_in, upto}
use Rattle.bsp_core.specs.Turns.{WorldState, IsInLockstep, drawn, next_seed, rounds}

-- how far a node is after so many moves: its phase, and how many letters it has sent and taken in it
abbrev pub next_place : (ℕ → ℕ → Face) → ℕ → ℕ × ℕ → ℕ × ℕ
next_place rows p at = if at.1 == moves_in rows p at.0 then (at.0 + 1, 0) else (at.0, at.1 + 1)

abbrev pub place_after : (ℕ → ℕ → Face) → ℕ → ℕ → ℕ × ℕ
place_after rows p zero = (0, 0)
place_after rows p (suc moves) = next_place rows p (place_after rows p moves)

-- the letters of its phase that it hasn't sent, those that it hasn't taken, and the action that is due
abbrev pub out_at : (ℕ → ℕ → Face) → ℕ → ℕ × ℕ → List (ℕ × Letter)
out_at rows p at = drop at.1 (rows at.0 p).out

abbrev pub due_at : (ℕ → ℕ → Face) → ℕ → ℕ × ℕ → List (ℕ × Wanted)
due_at rows p at = drop (at.1 - length (rows at.0 p).out) (rows at.0 p).due

abbrev pub want_at : (ℕ → ℕ → Face) → ℕ → ℕ × ℕ → Want
want_at rows p at = next_with (rows at.0 p).left (due_at rows p at) (out_at rows p at)

-- how many letters p has sent to q, and q has taken of p
abbrev pub count_sent : (ℕ → ℕ → Face) → ℕ → ℕ → ℕ × ℕ → ℕ
count_sent rows p q at = length (upto rows p q (suc at.0)) - length (for_node q (out_at rows p at))

abbrev pub count_taken : (ℕ → ℕ → Face) → ℕ → ℕ → ℕ × ℕ → ℕ
count_taken rows p q at = length (upto rows p q (suc at.0)) - length (for_node p (due_at rows q at))

-- where p is after these moves
abbrev pub place_in : (ℕ → ℕ → Face) → List ℕ → ℕ → ℕ × ℕ
place_in rows moved p = place_after rows p (times_in p moved)

-- after these moves p can do this: send, work, or take a letter that was sent and not taken
abbrev pub can_do : (ℕ → ℕ → Face) → List ℕ → ℕ → Want → Bool
can_do rows moved p (Send to) = true
can_do rows moved p (Take from) =
    nat_lt (count_taken rows from p (place_in rows moved p)) (count_sent rows from p (place_in rows moved from))
can_do rows moved p Work = true
can_do rows moved p Done = false

abbrev pub can_move : (ℕ → ℕ → Face) → List ℕ → ℕ → Bool
can_move rows moved p = can_do rows moved p (want_at rows p (place_in rows moved p))

-- a turn of p: it moves if it can
abbrev pub turned_by : (ℕ → ℕ → Face) → List ℕ → ℕ → List ℕ
turned_by rows moved p = if can_move rows moved p then moved ++ p ∷ [] else moved

-- turns in order
abbrev pub moves_by : (ℕ → ℕ → Face) → List ℕ → List ℕ → List ℕ
moves_by rows [] moved = moved
moves_by rows (p ∷ turns) moved = moves_by rows turns (turned_by rows moved p)

-- the first node that can move, from this one on and counting round
abbrev pub first_can : (ℕ → ℕ → Face) → List ℕ → ℕ → ℕ → ℕ → Option ℕ
first_can rows moved n from zero = None
first_can rows moved n from (suc k) = if can_move rows moved (from % n) then Some (from % n) else first_can rows moved n (from + 1) k

abbrev pub with_first : List ℕ → Option ℕ → List ℕ
with_first moved None = moved
with_first moved (Some p) = moved ++ p ∷ []

abbrev pub draw : (ℕ → ℕ → Face) → ℕ → ℕ → List ℕ → List ℕ
draw rows n from moved = with_first moved (first_can rows moved n from n)

-- the seed after so many draws
abbrev pub seeds : ℕ → ℕ → ℕ
seeds zero seed = seed
seeds (suc k) seed = next_seed (seeds k seed)

-- so many draws
abbrev pub moves_drawn : (ℕ → ℕ → Face) → ℕ → ℕ → ℕ → List ℕ → List ℕ
moves_drawn rows n seed zero moved = moved
moves_drawn rows n seed (suc k) moved = draw rows n (drawn n (seeds (suc k) seed)) (moves_drawn rows n seed k moved)

-- ---- a World moves as the plan says

-- in whatever plan the World stood: these turns moved the nodes that the plan has them move
abbrev pub MovesBy : {N S P : Type 0} → (N → View S) → (P → Type 0) → (P → ℕ) → (P → ℕ → ℕ → Face) → (P → ℕ → ℕ → S → Type 0) →
    List ℕ → WorldState N → WorldState N → Type 0
MovesBy {N} {S} {P} view is count rows holds turns old new =
    (plan : P) → is plan → IsInLockstep view (rows plan) (holds plan) (count plan) old → new.moved ≡ moves_by (rows plan) turns old.moved

-- likewise so many draws by a seed
abbrev pub MovesDrawn : {N S P : Type 0} → (N → View S) → (P → Type 0) → (P → ℕ) → (P → ℕ → ℕ → Face) → (P → ℕ → ℕ → S → Type 0) →
    ℕ → ℕ → WorldState N → WorldState N → Type 0
MovesDrawn {N} {S} {P} view is count rows holds seed k old new =
    (plan : P) → is plan → IsInLockstep view (rows plan) (holds plan) (count plan) old →
    new.moved ≡ moves_drawn (rows plan) (count plan) seed k old.moved

-- ---- whole orders: all moves of a plan from its beginning, where there are so many

-- 0, 1 and so on, and 0 again: no more rounds are needed than there are moves, and one in which none moves
abbrev pub round_moves : (ℕ → ℕ → Face) → ℕ → ℕ → List ℕ
round_moves rows n total = moves_by rows (rounds (total + 1) n) []

-- drawn by a seed
abbrev pub drawn_moves : (ℕ → ℕ → Face) → ℕ → ℕ → ℕ → List ℕ
drawn_moves rows n seed total = moves_drawn rows n seed total []
