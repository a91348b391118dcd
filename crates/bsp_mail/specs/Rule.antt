-- What was sent on a line is what was taken, what was dropped, and what the line holds.
use Rattle.std.specs.Prelude.{◌≡◌, ℕ, ◌+◌, Bool, true, false, List, [], ◌∷◌, ◌++◌}
use mathlib.Core.Option.{some}
use lib.ListN.{get_elem?}
use Rattle.chaos_letter.specs.declared.letter.Letter.{Letter}
use Rattle.bsp_mail.specs.declared.hand.Hand.{Hand}

abbrev pub IsPrefix : List Letter → List Letter → Type 0
IsPrefix xs ys = (rest : List Letter) × (ys ≡ xs ++ rest)

abbrev pub hand : Bool → Bool → List Letter → List Letter → List Letter → ℕ → Hand
hand a b sent taken dropped n = record { sends = a; takes = b; sent = sent; taken = taken; dropped = dropped; polls = n }

-- a pass that may do nothing
abbrev pub nobody : Hand
nobody = hand false false [] [] [] 0

abbrev pub sender : Hand
sender = hand true false [] [] [] 0

abbrev pub receiver : Hand
receiver = hand false true [] [] [] 0

abbrev pub after_put : Hand → Letter → Hand
after_put v x = hand v.sends v.takes (v.sent ++ x ∷ []) v.taken v.dropped v.polls

abbrev pub after_take : Hand → Letter → Hand
after_take v x = hand v.sends v.takes v.sent (v.taken ++ x ∷ []) v.dropped 0

abbrev pub after_poll : Hand → Hand
after_poll v = hand v.sends v.takes v.sent v.taken v.dropped (v.polls + 1)

abbrev pub after_drop : Hand → Letter → Hand
after_drop v x = hand v.sends v.takes v.sent v.taken (v.dropped ++ x ∷ []) v.polls

-- the receiver's pass once its role is given away: it remembers its lists
abbrev pub retired : Hand → Hand
retired v = hand v.sends false v.sent v.taken v.dropped v.polls

abbrev pub heir : Hand → Hand
heir v = hand false true [] v.taken v.dropped v.polls

abbrev pub both_hands : Hand → Hand → Hand
both_hands v w = hand true true v.sent w.taken w.dropped w.polls

abbrev pub FitsRule : ℕ → ℕ → List Letter → List Letter → List Letter → ℕ → Hand → Type 0
FitsRule writer reader sent taken dropped pass v =
    (v.sends ≡ true → (pass ≡ writer) × (v.sent ≡ sent))
    × (v.takes ≡ true → (pass ≡ reader) × (v.taken ≡ taken) × (v.dropped ≡ dropped))

abbrev pub InOrder : List Letter → List Hand → Type 0
InOrder items views = (writer : ℕ) × (reader : ℕ) × (sent : List Letter) × (taken : List Letter) × (dropped : List Letter)
    × (sent ≡ (taken ++ dropped) ++ items)
    × ((pass : ℕ) (v : Hand) → get_elem? views pass ≡ some v → FitsRule writer reader sent taken dropped pass v)
