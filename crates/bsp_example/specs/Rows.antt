-- The plan of the voter. In phase 0 each node tells all others its flag. So all know whether one of them is set, and do as
-- it says: in phase 1 all tell all, if one is, else all tell node 0; phase 2, in which all tell node 0, is left out if none is.
use Rattle.std.proofs.Common.{suc, zero, get_or}
use Rattle.std.specs.Prelude.{◌≡◌, ◌==◌, ℕ, ◌-◌, ◌<◌, ◌≤◌, pos, Bool, true, false, List, [], ◌∷◌, if◌then◌else◌, length}
use Rattle.chaos_letter.specs.declared.letter.Letter.{Letter}
use Rattle.chaos_letter.specs.declared.wanted.Wanted.{Wanted}
use Rattle.chaos_letter.specs.declared.kind.Kind.TheVariants.{Gather}
use Rattle.bsp_core.specs.Views.{Face}
use Rattle.bsp_core.specs.Others.{others, each}

-- what a voter knows beside: its flag, and room in a list, which is as it happens to be
pub record VoterState : Type 0 where
  pub flag : Bool
  pub room : ℕ

-- the flag of each node
abbrev pub VoterPlan : Type 0
VoterPlan = List Bool

abbrev pub IsVoterPlan : VoterPlan → Type 0
IsVoterPlan plan = (0 < length plan) × (length plan ≤ 16)

abbrev pub either : Bool → Bool → Bool
either true b = true
either false b = b

-- whether a flag below n is set
abbrev pub any_below : ℕ → (ℕ → Bool) → Bool
any_below zero f = false
any_below (suc n) f = either (any_below n f) (f n)

abbrev pub flag_of : VoterPlan → ℕ → Bool
flag_of plan p = get_or plan p false

abbrev pub any_flag : VoterPlan → Bool
any_flag plan = any_below (length plan) (flag_of plan)

abbrev pub voter_letter : ℕ → Bool → Letter
voter_letter left flag = record { kind = Gather; execution = left; site = 0; numbers = if flag then pos 1 ∷ pos 1 ∷ [] else pos 1 ∷ [] }

abbrev pub voter_wanted : ℕ → Wanted
voter_wanted left = record { kind = Gather; execution = left; site = 0; group = 1; least = 1; most = 2 }

abbrev pub flag_in : Letter → Bool
flag_in x = length x.numbers == 2

-- the flag once these letters were read
abbrev pub heard : Bool → List Letter → Bool
heard b [] = b
heard b (x ∷ xs) = heard (either b (flag_in x)) xs

abbrev pub all_of : ℕ → Bool → Bool
all_of left flag = if left == 3 then true else if left == 2 then flag else false

abbrev pub to_whom : ℕ → Bool → ℕ → ℕ → List ℕ
to_whom left all me n = if left == 0 then [] else if all then others me n else if me == 0 then [] else 0 ∷ []

abbrev pub from_whom : ℕ → Bool → ℕ → ℕ → List ℕ
from_whom left all me n = if left == 0 then [] else if all then others me n else if me == 0 then others 0 n else []

abbrev pub voter_out : ℕ → Bool → Bool → ℕ → ℕ → List (ℕ × Letter)
voter_out left all flag me n = each (λ q. voter_letter left flag) (to_whom left all me n)

abbrev pub voter_due : ℕ → Bool → ℕ → ℕ → List (ℕ × Wanted)
voter_due left all me n = each (λ q. voter_wanted left) (from_whom left all me n)

-- the face of a voter as a phase begins
abbrev pub face_by : ℕ → ℕ → ℕ → Bool → Bool → Face
face_by n p left all flag = record {
  me = p;
  count = n;
  left = left;
  out = voter_out left all flag p n;
  due = voter_due left all p n;
  got = [];
}

abbrev pub new_left : ℕ → Bool → ℕ
new_left left flag = if left == 2 then (if flag then 1 else 0) else left - 1

abbrev pub new_flag : ℕ → Bool → List Letter → Bool
new_flag left flag got = if left == 3 then heard flag got else flag

abbrev pub left_of_vote : VoterPlan → ℕ → ℕ
left_of_vote plan zero = 3
left_of_vote plan (suc zero) = 2
left_of_vote plan (suc (suc zero)) = if any_flag plan then 1 else 0
left_of_vote plan (suc (suc (suc t))) = 0

abbrev pub flag_at : VoterPlan → ℕ → ℕ → Bool
flag_at plan zero p = flag_of plan p
flag_at plan (suc t) p = any_flag plan

abbrev pub voter_row : VoterPlan → ℕ → ℕ → Face
voter_row plan t p = face_by (length plan) p (left_of_vote plan t) (all_of (left_of_vote plan t) (any_flag plan)) (flag_at plan t p)

-- the room is free
abbrev pub voter_holds : VoterPlan → ℕ → ℕ → VoterState → Type 0
voter_holds plan t p s = (s.flag ≡ flag_at plan t p) × (4 ≤ s.room)
