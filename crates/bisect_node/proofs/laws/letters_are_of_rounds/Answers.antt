use Rattle.std.proofs.Common.{◌∙◌, ap, arith}
use Rattle.bsp_core.specs.Lockstep.{upto}
use Rattle.bsp_desk.specs.Uniform.{uniform_end, uniform_letters}
use Rattle.bisect_node.specs.Plans.{bisect_rows, round_at}
use Rattle.bisect_node.specs.Stages.{phases_of}
use Rattle.bisect_node.proofs.laws.letters_are_of_rounds.Goals as goal

pub returns-clause-end : goal.returns-clause-end
returns-clause-end c plan end is = uniform_end plan.nodes (phases_of plan.parts) (round_at plan) end is

pub returns-clause-letters : goal.returns-clause-letters
returns-clause-letters c plan end p q less is =
    let phases = phases_of plan.parts in
    ap (upto (bisect_rows plan) p q) (uniform_end plan.nodes phases (round_at plan) end is)
    ∙ uniform_letters plan.nodes phases (round_at plan) p q phases less (omega arith)
