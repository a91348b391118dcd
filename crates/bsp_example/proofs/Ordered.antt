-- The moves of voters that took their turns in rounds, to the end.
use Rattle.std.proofs.Common.{◌≡◌, ℕ, ◌+◌, [], length, ap, ◌∙◌, arith}
use Rattle.bsp_core.specs.Script.{MovesBy, moves_by, round_moves}
use Rattle.bsp_core.specs.Turns.{HasEnded, IsInLockstep, WorldState, rounds}
use Rattle.bsp_core.specs.Views.{View}
use Rattle.bsp_example.specs.Orders.{AreRounds, voter_moves}
use Rattle.bsp_example.specs.Rows.{IsVoterPlan, VoterPlan, VoterState, voter_holds, voter_row}

pub in_rounds : (plan : VoterPlan) → IsVoterPlan plan → (k : ℕ) (old new : WorldState (View VoterState)) →
    MovesBy (λ (s : View VoterState). s) IsVoterPlan (λ (p : VoterPlan). length p) voter_row voter_holds
    (rounds (k + 1) (length old.nodes)) old new →
    IsInLockstep (λ (s : View VoterState). s) (voter_row plan) (voter_holds plan) (length plan) old → length old.nodes ≡ length plan
    → old.moved ≡ [] →
    length new.moved ≡ length old.moved + k → HasEnded (λ (s : View VoterState). s) (voter_row plan) (voter_holds plan) (length plan) new
    → AreRounds plan new.moved
in_rounds plan is k old new m at n e c over =
    let all : k ≡ voter_moves plan over.phases = (let a : length new.moved ≡ voter_moves plan over.phases = over.moves
    ∙ over.is.all_moves in let b : length old.moved ≡ 0 = ap length e in omega (arith, a, b, c)) in (
      over.phases,
      over.is.end,
      m plan is at ∙ ap (λ (z : ℕ). moves_by (voter_row plan) (rounds (k + 1) z) old.moved) n
          ∙ ap (moves_by (voter_row plan) (rounds (k + 1) (length plan))) e
          ∙ ap (round_moves (voter_row plan) (length plan)) all,
    )
