-- Requests as what is asked.
use Rattle.std.specs.Prelude.{◌≤◌, ◌<◌, ◌^◌}
use Rattle.fd_command.specs.Asked.{Asked, AskedOrigin, file, mesh}
use Rattle.fd_command.specs.declared.request.Origin.{Origin}
use Rattle.fd_command.specs.declared.request.Origin.TheVariants as origin
use Rattle.fd_command.specs.declared.request.Request.{Request}

abbrev pub shown_origin : Origin → AskedOrigin
shown_origin (origin.File source) = file source.now
shown_origin (origin.Mesh seed size) = mesh seed size

-- what a request says
abbrev pub shown : Request → Asked
shown request = record { origin = shown_origin request.origin; manner = request.manner }

-- the mesh, where there is one, has a seed of 32 bits and 8 to 100,000 points
abbrev pub HasMeshInRange : Origin → Type 0
HasMeshInRange (origin.File source) = Unit {0}
HasMeshInRange (origin.Mesh seed size) = (seed < 2 ^ 32) × (8 ≤ size) × (size ≤ 100000)
