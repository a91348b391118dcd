use Rattle.std.proofs.Common.{◌≡◌, ◌++◌, map}
use Rattle.fd_mesh.specs.Mesh.{lines_of, number_at, one_to}
use Rattle.fd_mesh.proofs.files.append_lines.Given as goal

abbrev pub invariant-loop-before : goal.invariant-loop-before
invariant-loop-before l = l.text ≡ l.fn.text ++ lines_of (map (number_at l.rule l.seed l.size) (one_to l.before))
