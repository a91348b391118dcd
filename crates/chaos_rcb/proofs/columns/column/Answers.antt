use Rattle.fd_edge.specs.Readings.{files_read}
use Rattle.chaos_rcb.proofs.columns.column.Goals as goal

pub returns-in-Err-clause-read : goal.returns-in-Err-clause-read
returns-in-Err-clause-read g c =
    c.stop_for.ensures (files_read g.F.Files.contents g.F.Files.faults c.args.files.now c.read_numbers.new.files) c.args.count
    c.in-Err.ensures.read
