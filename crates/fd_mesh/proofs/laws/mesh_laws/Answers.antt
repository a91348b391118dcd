use Rattle.fd_mesh.specs.MeshLaws.{a_changed_sweep, map_of_eight, ends_of_eight}
use Rattle.fd_mesh.proofs.laws.mesh_laws.Goals as goal

pub returns : goal.returns
returns c = record { source = a_changed_sweep c.args.size; map = map_of_eight; ends = ends_of_eight }
