use Rattle.fd_mesh.specs.Source.{joined, declarations}
use Rattle.fd_mesh.proofs.source.append_declarations.Goals as goal

pub returns : goal.returns
unfolding joined declarations
returns c = c.append.ensures.ok
