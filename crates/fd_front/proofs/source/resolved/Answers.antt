use Rattle.std.proofs.lemmas.Result.{err_from_is_err_and}
use Rattle.fd_front.proofs.Reading.{by_names, by_steps}
use Rattle.fd_front.proofs.source.resolved.Goals as goal

pub returns-in_err-checked : goal.returns-in_err-checked
returns-in_err-checked c =
    let p = err_from_is_err_and c.from_residual.result c.from_residual.ensures.1 in
    rw (p.1, p.2) (by_names c.args.program.now c.in_err-checked.field-0.0 c.in_err-checked.ensures.answer)

pub returns-in_err-trace : goal.returns-in_err-trace
returns-in_err-trace c =
    let p = err_from_is_err_and c.from_residual-in_err-trace.result c.from_residual-in_err-trace.ensures.1 in
    rw (p.1, p.2) (by_steps c.args.program.now c.in_ok-checked.checked c.in_err-trace.field-0.0 c.in_ok-checked.ensures.answer
    c.in_err-trace.ensures)
