use Rattle.std.proofs.Common.{codes, decimal, [], ◌∷◌, ◌++◌}
use Rattle.fd_program.specs.Texts.{refused_range}
use Rattle.list_laws.specs.Pieces.{on_ok, two}
use Rattle.fd_report.proofs.Pieces.{first}
use Rattle.fd_report.proofs.refusal.append_range.Goals as goal

pub returns : goal.returns
unfolding refused_range
returns c = on_ok c.push.result
    (two c.args.text.now (codes " is outside 1 to " ++ decimal c.args.extent) (10 ∷ []) c.append_number.new.text c.push.new.self
    (first c.args.text.now (codes " is outside 1 to ") (decimal c.args.extent) c.append_number.new.text c.in_ok-append_number.ensures))
    c.push.ensures.ok
