use Rattle.std.proofs.Common.{ap, get_or}
use Rattle.fd_program.specs.declared.array.OutputName.{OutputName}
use Rattle.fd_trace.specs.Events.{Prints}
use Rattle.fd_trace.specs.Way.{output_event}
use Rattle.fd_trace.proofs.Ways.{outputs_stopped}
use Rattle.fd_trace.proofs.way.count_outputs.Goals as goal

pub returns-in-Err : goal.returns-in-Err
returns-in-Err c =
    let none : OutputName = record { array = 0; at = record { line = 0; column = 0 } } in
    outputs_stopped (output_event c.args.checked.now) c.args.outputs.now c.loop-output.output-index none _
    c.loop-output.left c.args.left.now c.print.new.self c.print.new.self c.in-Err.stop c.loop-output-test.true
    (ap (Prints (get_or c.args.outputs.now c.loop-output.output-index none).at) c.extent.ensures) c.in-Err.ensures c.loop-output.invariant
