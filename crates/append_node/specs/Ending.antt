-- What nodes have at the end of a plan.
use Rattle.std.specs.Prelude.{◌≡◌, ℕ, suc, ◌+◌, ◌*◌, ◌==◌, if◌then◌else◌, []}
use Rattle.std.proofs.Common.{ap, ◌∙◌, subst, arith}
use Rattle.bsp_core.specs.Lockstep.{IsEnd}
use Rattle.bsp_desk.specs.Uniform.{uniform_end}
use Rattle.chaos_bins.specs.Bins.{lines_of}
use Rattle.chaos_bins.specs.Plan.{AppendPlan, append_rows, phases_of, round_at, stage_at, stage_after}
use Rattle.chaos_bins.specs.PlanLaws.{at_printing}
use Rattle.chaos_bins.specs.declared.stage.Stage.TheVariants.{Ended}
use Rattle.append_node.specs.Node.{AppendState, HasIn, append_holds}

-- at the end of a plan node 0 has the lines, the others have nothing
abbrev pub NodesEndWithTheLines : Type 0
NodesEndWithTheLines =
    (plan : AppendPlan) (end p : ℕ) (state : AppendState) → IsEnd (append_rows plan) end → append_holds plan end p state
    → state.text ≡ (if p == 0 then lines_of plan.bins plan.steps plan.particles else [])

at_end : (plan : AppendPlan) → stage_at plan.steps (phases_of plan) ≡ Ended
at_end plan =
    let last : 2 * (plan.steps + 1) + 1 ≡ suc (2 * (plan.steps + 1)) = omega arith in
    ap (stage_at plan.steps) last ∙ ap (stage_after plan.steps) (at_printing plan.steps)

pub nodes_end_with_the_lines : NodesEndWithTheLines
nodes_end_with_the_lines plan end p state is holds =
    let ended : stage_at plan.steps end ≡ Ended =
    ap (stage_at plan.steps) (uniform_end plan.nodes (phases_of plan) (round_at plan) end is) ∙ at_end plan in
    (subst (λ s. HasIn plan p s state) ended holds.has).text
