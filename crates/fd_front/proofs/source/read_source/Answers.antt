use Rattle.fd_front.proofs.Filled.{program_filled}
use Rattle.fd_front.proofs.Reading.{by_parse, by_program}
use Rattle.fd_front.proofs.source.read_source.Goals as goal

pub returns-in-Err : goal.returns-in-Err
returns-in-Err c = by_parse c.args.text.now c.in-Err.stop c.in-Err.ensures

pub returns-in-Err-resolved : goal.returns-in-Err-resolved
returns-in-Err-resolved c = by_program c.args.text.now c.in-Ok.found.0 c.in-Ok.found.1 c.in-Err-resolved.stop c.in-Ok.ensures
    c.in-Err-resolved.ensures

pub returns-in-Ok-resolved : goal.returns-in-Ok-resolved
returns-in-Ok-resolved c = record {
  spelled = c.in-Ok.ensures;
  checked = c.in-Ok-resolved.ensures.checked;
  shaped = c.in-Ok-resolved.ensures.shaped;
  sound = c.in-Ok-resolved.ensures.sound (program_filled c.in-Ok.ensures.only.has);
  trace = c.in-Ok-resolved.ensures.trace;
}
