use Rattle.std.proofs.Common.{codes, decimal}
use Rattle.fd_front.specs.Lines.{place_text}
use Rattle.list_laws.specs.Pieces.{on_ok, four}
use Rattle.fd_front.proofs.line.append_place.Goals as goal

pub returns : goal.returns
unfolding place_text
returns c =
    on_ok c.append_number-2.result
    (λ h. four c.args.text.now (codes "source: line ") (decimal c.args.at.line) (codes ", column ") (decimal c.args.at.column)
    c.append.new.self c.append_number.new.text c.append-2.new.self c.append_number-2.new.text
    c.in_ok-append.ensures.ok c.in_ok-append_number.ensures c.in_ok-append-2.ensures.ok h)
    c.append_number-2.ensures
