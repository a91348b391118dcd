use Rattle.std.proofs.Common.{codes, decimal}
use Rattle.fd_edge.specs.Lines.{record_text}
use Rattle.list_laws.specs.Pieces.{on_ok, four}
use Rattle.fd_edge.proofs.line.append_record.Goals as goal

pub returns : goal.returns
unfolding record_text
returns c =
    on_ok c.append-3.result
    (λ h. four c.args.text.now (codes "record ") (decimal c.args.row) (codes ": ") c.args.what.now
    c.append.new.self c.append_number.new.text c.append-2.new.self c.append-3.new.self
    c.in_ok-append.ensures.ok c.in_ok-append_number.ensures c.in_ok-append-2.ensures.ok h)
    c.append-3.ensures.ok
