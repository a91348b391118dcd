use Rattle.fd_program.specs.Scalars.{scalar_value}
use Rattle.fd_trace.specs.Sizes.{scalar_faults}
use Rattle.fd_trace.proofs.Values.{small_outcome}
use Rattle.fd_trace.proofs.Ways.{outcome_way, outcome_value}
use Rattle.fd_trace.proofs.turns.passed_value.Goals as goal

pub returns : goal.returns
returns c = record {
  value = outcome_value (scalar_value c.args.variables.now c.args.scalar.now) (scalar_faults c.args.variables.now c.args.scalar.now)
      c.value.result c.value.ensures;
  small = small_outcome c.args.variables.now c.args.scalar.now c.value.result c.requires c.value.ensures;
  way = outcome_way c.args.left.now (scalar_value c.args.variables.now c.args.scalar.now)
      (scalar_faults c.args.variables.now c.args.scalar.now) c.value.result c.value.ensures;
}
