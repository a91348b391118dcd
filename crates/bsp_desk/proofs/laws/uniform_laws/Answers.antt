use Rattle.std.proofs.Common.{◌∙◌, ap, arith}
use Rattle.bsp_core.specs.Lockstep.{upto}
use Rattle.bsp_desk.specs.Uniform.{rows_of, uniform_meets, uniform_fall, uniform_end, uniform_letters}
use Rattle.bsp_desk.proofs.laws.uniform_laws.Goals as goal

pub returns-clause-meet : goal.returns-clause-meet
returns-clause-meet c = uniform_meets

pub returns-clause-fall : goal.returns-clause-fall
returns-clause-fall c = uniform_fall

pub returns-clause-letters : goal.returns-clause-letters
returns-clause-letters c n phases rounds end p q less is =
    ap (upto (rows_of n phases rounds) p q) (uniform_end n phases rounds end is)
    ∙ uniform_letters n phases rounds p q phases less (omega arith)
