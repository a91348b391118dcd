use Rattle.fd_mesh.specs.Source.{joined, reductions}
use Rattle.fd_mesh.proofs.source.append_reductions.Goals as goal

pub returns : goal.returns
unfolding joined reductions
returns c = c.append.ensures.ok
