use Rattle.fd_mesh.specs.Source.{joined, sweep, sweeps}
use Rattle.fd_mesh.proofs.source.append_sweeps.Goals as goal

pub returns : goal.returns
unfolding joined sweep sweeps
returns c = c.append.ensures.ok
