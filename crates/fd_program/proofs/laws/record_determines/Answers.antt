use Rattle.fd_program.specs.RecordLaws.{record_determines}
use Rattle.fd_program.proofs.laws.record_determines.Goals as goal

pub returns : goal.returns
returns c = record_determines
