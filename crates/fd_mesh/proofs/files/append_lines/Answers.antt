use Rattle.std.proofs.Common.{◌+◌}
use Rattle.fd_mesh.specs.Mesh.{number_at}
use Rattle.fd_mesh.proofs.Lines.{lines_none, lines_more}
use Rattle.fd_mesh.proofs.files.append_lines.Goals as goal

pub loop-before-init : goal.loop-before-init
loop-before-init c = lines_none c.args.text.now

pub loop-before-preserved : goal.loop-before-preserved
loop-before-preserved c =
    lines_more (number_at c.args.rule c.args.seed c.args.size) c.args.text.now c.loop-before.text c.append_line.new.text
    c.loop-before.before c.number-number.result
    c.loop-before.invariant c.number-number.ensures c.in_ok-append_line.ensures
