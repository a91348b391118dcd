-- The moves of voters that take their turns in rounds.
use Rattle.std.specs.Prelude.{◌≡◌, ℕ, ◌+◌, ◌*◌, List, length}
use Rattle.bsp_core.specs.Lockstep.{IsEnd, letters_before}
use Rattle.bsp_core.specs.Script.{round_moves}
use Rattle.bsp_example.specs.Rows.{VoterPlan, voter_row}

-- how many moves the voters make before phase t: two for each letter, and one for each work
abbrev pub voter_moves : VoterPlan → ℕ → ℕ
voter_moves plan t = 2 * letters_before (voter_row plan) (length plan) t + length plan * t

-- these are all moves of the voters, in rounds
abbrev pub AreRounds : VoterPlan → List ℕ → Type 0
AreRounds plan moved = (t : ℕ) × IsEnd (voter_row plan) t × (moved ≡ round_moves (voter_row plan) (length plan) (voter_moves plan t))
