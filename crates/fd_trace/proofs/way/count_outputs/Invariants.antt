use Rattle.std.proofs.Common.{◌≡◌, drop, map}
use Rattle.fd_trace.specs.Events.{along}
use Rattle.fd_trace.specs.Way.{output_event}
use Rattle.fd_trace.proofs.way.count_outputs.Given as goal

abbrev pub invariant-loop-output : goal.invariant-loop-output
invariant-loop-output l =
    along l.left (map (output_event l.checked) (drop l.output-index l.outputs)) ≡ along l.fn.left (map (output_event l.checked) l.outputs)
