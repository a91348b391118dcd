use Rattle.std.proofs.Common.{◌≡◌, take}
use Rattle.std.specs.List.{flat_map}
use Rattle.fd_mesh.specs.Mesh.{lines_of, numbers_by}
use Rattle.fd_mesh.specs.declared.rule.Rule.{Rule}
use Rattle.fd_mesh.proofs.files.file_by.Given as goal

abbrev pub invariant-loop-rule : goal.invariant-loop-rule
invariant-loop-rule l = l.content ≡ lines_of (flat_map (λ (r : Rule). numbers_by r l.seed l.size) (take l.rule-index l.rules))
