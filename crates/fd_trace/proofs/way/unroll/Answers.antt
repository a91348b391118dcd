use Rattle.fd_trace.proofs.Ways.{unrolled_stop}
use Rattle.fd_trace.proofs.way.unroll.Goals as goal

pub returns-in-Err : goal.returns-in-Err
returns-in-Err c = unrolled_stop c.args.checked.now c.as_slice.result.now c.count_outputs.new.left c.in-Err.stop c.as_slice.ensures
    c.in-Err.ensures
