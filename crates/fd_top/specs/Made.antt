-- What files that were made hold.
use Rattle.std.specs.Prelude.{ℕ, List, [], ◌∷◌, Option, Some, if◌then◌else◌, bytes_eq}
use Rattle.fd_mesh.specs.declared.files.FileData.{FileData}

abbrev pub made_content : List FileData → List ℕ → List ℕ
made_content [] name = []
made_content (file ∷ files) name = if bytes_eq file.name name then file.content else made_content files name

abbrev pub told_made : List FileData → List ℕ → Option (List ℕ)
told_made files name = Some (made_content files name)
