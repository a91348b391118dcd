use Rattle.std.proofs.Common.{◌++◌}
use Rattle.fd_scope.specs.Scalars.{within, large_faults}
use Rattle.fd_scope.proofs.Trees.{negated_value, negated_faults, binary_value, binary_faults, ok_value, ok_noted}
use Rattle.fd_scope.proofs.scalars.+declared_value.Goals as goal

pub returns-in_ok-value-in-Negate-clause-value : goal.returns-in_ok-value-in-Negate-clause-value
returns-in_ok-value-in-Negate-clause-value t c =
    negated_value c.args.names.now c.args.here c.in-Negate.at c.args.scalar.now c.in-Negate.inner c.get.result.now
    c.in_ok-value-in-Negate.value c.negate.result
    c.in-Negate.is c.get.ensures c.in_ok-value-in-Negate.ensures.value c.negate.ensures

pub returns-in_ok-value-in-Negate-clause-noted : goal.returns-in_ok-value-in-Negate-clause-noted
returns-in_ok-value-in-Negate-clause-noted t c =
    negated_faults c.args.names.now c.args.here c.args.loops.now c.in-Negate.at c.args.scalar.now c.in-Negate.inner c.get.result.now
    c.args.faults.now c.declared_value.new.faults
    c.in-Negate.is c.get.ensures c.in_ok-value-in-Negate.ensures.noted

pub returns-in_ok-right-in-Binary-clause-value : goal.returns-in_ok-right-in-Binary-clause-value
returns-in_ok-right-in-Binary-clause-value t c =
    ok_value c.settle-in-Binary.result (within c.operate.result) _
    (binary_value c.args.names.now c.args.here c.in-Binary.op c.in-Binary.at c.args.scalar.now c.in-Binary.left c.in-Binary.right
    c.get-in-Binary.result.now c.get-in-Binary-2.result.now
    c.in_ok-left-in-Binary.left c.in_ok-right-in-Binary.right c.operate.result
    c.in-Binary.is c.get-in-Binary.ensures c.get-in-Binary-2.ensures c.in_ok-left-in-Binary.ensures.value
    c.in_ok-right-in-Binary.ensures.value c.operate.ensures)
    c.settle-in-Binary.ensures.value

pub returns-in_ok-right-in-Binary-clause-noted : goal.returns-in_ok-right-in-Binary-clause-noted
returns-in_ok-right-in-Binary-clause-noted t c =
    ok_noted c.settle-in-Binary.result c.settle-in-Binary.new.faults (c.declared_value-in-Binary-2.new.faults
    ++ large_faults c.in-Binary.at c.operate.result) _
    (binary_faults c.args.names.now c.args.here c.args.loops.now c.in-Binary.op c.in-Binary.at c.args.scalar.now c.in-Binary.left
    c.in-Binary.right c.get-in-Binary.result.now c.get-in-Binary-2.result.now
    c.in_ok-left-in-Binary.left c.in_ok-right-in-Binary.right c.operate.result c.args.faults.now c.declared_value-in-Binary.new.faults
    c.declared_value-in-Binary-2.new.faults
    c.in-Binary.is c.get-in-Binary.ensures c.get-in-Binary-2.ensures c.in_ok-left-in-Binary.ensures.value
    c.in_ok-right-in-Binary.ensures.value c.operate.ensures
    c.in_ok-left-in-Binary.ensures.noted c.in_ok-right-in-Binary.ensures.noted)
    c.settle-in-Binary.ensures.noted
