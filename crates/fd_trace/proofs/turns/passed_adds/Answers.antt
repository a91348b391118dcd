use Rattle.fd_trace.specs.Sizes.{adds_faults}
use Rattle.fd_trace.specs.Way.{adds_by}
use Rattle.fd_trace.proofs.Ways.{values_way}
use Rattle.fd_trace.proofs.turns.passed_adds.Goals as goal

pub returns-clause-way : goal.returns-clause-way
returns-clause-way c =
    values_way c.args.left.now (adds_by c.args.variables.now c.args.references.now)
    (adds_faults c.args.variables.now c.args.references.now) c.adds.result c.adds.ensures
