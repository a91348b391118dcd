use Rattle.std.proofs.Common.{subst}
use Rattle.fd_program.specs.Terms.{IsTerm}
use Rattle.fd_trace.proofs.Values.{no_negate, no_binary}
use Rattle.fd_trace.proofs.scalars.term_value.Goals as goal

pub unreachable-requires : goal.unreachable-requires
unreachable-requires c = no_negate c.in-Negate.at c.in-Negate.inner (subst IsTerm c.in-Negate.is c.requires)

pub unreachable-requires-in-Binary : goal.unreachable-requires-in-Binary
unreachable-requires-in-Binary c = no_binary c.in-Binary.op c.in-Binary.at c.in-Binary.left c.in-Binary.right
    (subst IsTerm c.in-Binary.is c.requires)
