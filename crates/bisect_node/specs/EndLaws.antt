-- What the law functions say.
use Rattle.std.specs.Prelude.{◌≡◌, ℕ, ◌<◌}
use Rattle.bsp_core.specs.Lockstep.{IsEnd, upto}
use Rattle.bsp_core.specs.Views.{Meets}
use Rattle.bsp_desk.specs.Uniform.{letters_of}
use Rattle.bisect_node.specs.Plans.{BisectPlan, IsBisectPlan, bisect_rows, round_at}
use Rattle.bisect_node.specs.Stages.{phases_of}
use Rattle.bisect_node.specs.States.{BisectState, bisect_holds, text_on}

abbrev pub RowsMeet : Type 0
RowsMeet = (plan : BisectPlan) → IsBisectPlan plan → (t : ℕ) → Meets plan.nodes (bisect_rows plan t)

abbrev pub EndsBehindPhases : Type 0
EndsBehindPhases = (plan : BisectPlan) (end : ℕ) → IsEnd (bisect_rows plan) end → end ≡ phases_of plan.parts

abbrev pub LettersAreOfRounds : Type 0
LettersAreOfRounds =
    (plan : BisectPlan) (end p q : ℕ) → q < plan.nodes → IsEnd (bisect_rows plan) end
    → upto (bisect_rows plan) p q end ≡ letters_of (phases_of plan.parts) (round_at plan) p q

abbrev pub NodesEndWithTheMap : Type 0
NodesEndWithTheMap =
    (plan : BisectPlan) (end p : ℕ) (state : BisectState) → IsEnd (bisect_rows plan) end → bisect_holds plan end p state
    → state.work.text ≡ text_on plan p
