-- Words worked out: what they ask for, and which aren't taken.
use Rattle.std.proofs.Common.{◌≡◌, ℕ, true, false, List, [], ◌∷◌, Option, Some, None, codes, map, refl}
use Rattle.fd_command.specs.Options.{Text}
use Rattle.fd_command.specs.Uses.{uses_of}
use Rattle.fd_command.specs.Asked.{Asked, asked, file, mesh}
use Rattle.fd_command.specs.declared.request.Iterations.TheVariants.{Owner, Most}
use Rattle.fd_command.specs.declared.request.Manner.{Manner}
use Rattle.fd_command.specs.declared.request.Turns.TheVariants.{RoundRobin, Seeded}

abbrev b_fd : Text
b_fd = codes "b.fd"

-- where no option stands
abbrev usual : Manner
usual = record { nodes = 4; turns = RoundRobin; iterations = Owner; report = false; plain = false }

abbrev a_file : Manner → Option Asked
a_file manner = Some (record { origin = file b_fd; manner = manner })

abbrev a_mesh : ℕ → ℕ → Option Asked
a_mesh seed size = Some (record { origin = mesh seed size; manner = usual })

-- words, and what they ask for
abbrev AreAsked : List (List Text × Option Asked) → Type 0
AreAsked all = map (λ (w : List Text × Option Asked). asked w.0) all ≡ map (λ (w : List Text × Option Asked). w.1) all

files_are_asked : AreAsked (
    (b_fd ∷ [], a_file usual)
    ∷ (b_fd ∷ codes "--nodes=16" ∷ [], a_file (record usual { nodes = 16 }))
    ∷ (codes "--nodes" ∷ codes "2" ∷ b_fd ∷ [], a_file (record usual { nodes = 2 }))
    ∷ (b_fd ∷ codes "--plain" ∷ [], a_file (record usual { plain = true }))
    ∷ (codes "--turns=4294967295" ∷ b_fd ∷ [], a_file (record usual { turns = Seeded 4294967295 }))
    ∷ (b_fd ∷ codes "--iterations" ∷ codes "most" ∷ [], a_file (record usual { iterations = Most }))
    ∷ (codes "--iterations=owner" ∷ b_fd ∷ [], a_file usual)
    ∷ (codes "--report" ∷ b_fd ∷ codes "--turns=1" ∷ [], a_file (record usual { report = true; turns = Seeded 1 }))
    ∷ [])
unfolding uses_of
files_are_asked = refl

meshes_are_asked : AreAsked (
    (codes "--mesh" ∷ codes "0" ∷ codes "--size" ∷ codes "8" ∷ [], a_mesh 0 8)
    ∷ (codes "--mesh" ∷ codes "4294967295" ∷ codes "--size" ∷ codes "100000" ∷ [], a_mesh 4294967295 100000)
    ∷ (codes "--size=9" ∷ codes "--mesh=7" ∷ [], a_mesh 7 9)
    ∷ (
      codes "--mesh=7" ∷ codes "--size=8" ∷ codes "--plain" ∷ codes "--iterations=most" ∷ [],
      Some (record { origin = mesh 7 8; manner = record usual { plain = true; iterations = Most } }),
    )
    ∷ [])
unfolding uses_of
meshes_are_asked = refl

-- words that aren't taken
abbrev AreRefused : List (List Text) → Type 0
AreRefused all = map asked all ≡ map (λ (words : List Text). None) all

reports_iterations_turns : AreRefused (
    (b_fd ∷ codes "--report" ∷ codes "--plain" ∷ []) ∷ (codes "--report" ∷ b_fd ∷ codes "--report" ∷ [])
    ∷ (b_fd ∷ codes "--report=1" ∷ []) ∷ (b_fd ∷ codes "--reports" ∷ []) ∷ (b_fd ∷ codes "--iterations" ∷ codes "Most" ∷ [])
    ∷ (b_fd ∷ codes "--iterations=" ∷ []) ∷ (codes "--iterations=most" ∷ b_fd ∷ codes "--iterations=most" ∷ [])
    ∷ (b_fd ∷ codes "--iterations=-most" ∷ []) ∷ (b_fd ∷ codes "--plain" ∷ codes "--turns" ∷ codes "1" ∷ [])
    ∷ (b_fd ∷ codes "--turns" ∷ codes "4294967296" ∷ []) ∷ [])
unfolding uses_of
reports_iterations_turns = refl

nodes_and_sources : AreRefused (
    [] ∷ (b_fd ∷ codes "--nodes" ∷ codes "17" ∷ []) ∷ (b_fd ∷ codes "--nodes" ∷ codes "0" ∷ [])
    ∷ (b_fd ∷ codes "--nodes" ∷ codes "2" ∷ codes "--nodes=2" ∷ []) ∷ (b_fd ∷ codes "c.fd" ∷ []) ∷ (codes "--" ∷ b_fd ∷ [])
    ∷ (codes "-" ∷ []) ∷ ([] ∷ []) ∷ (b_fd ∷ codes "--nodes=" ∷ []) ∷ (b_fd ∷ codes "--nodes" ∷ [])
    ∷ (b_fd ∷ codes "--nodes" ∷ codes "--plain" ∷ []) ∷ (b_fd ∷ codes "--nodes" ∷ codes "04" ∷ [])
    ∷ (b_fd ∷ codes "--nodes" ∷ codes "+4" ∷ []) ∷ (b_fd ∷ codes "--plain=1" ∷ [])
    ∷ (b_fd ∷ codes "--plain" ∷ codes "--plain" ∷ []) ∷ [])
unfolding uses_of
nodes_and_sources = refl

meshes_refused : AreRefused (
    (codes "--mesh" ∷ codes "0" ∷ []) ∷ (codes "--size" ∷ codes "8" ∷ [])
    ∷ (codes "--mesh" ∷ codes "4294967296" ∷ codes "--size" ∷ codes "8" ∷ [])
    ∷ (codes "--size" ∷ codes "7" ∷ codes "--mesh" ∷ codes "0" ∷ [])
    ∷ (codes "--size" ∷ codes "100001" ∷ codes "--mesh" ∷ codes "0" ∷ [])
    ∷ (b_fd ∷ codes "--mesh" ∷ codes "0" ∷ codes "--size" ∷ codes "8" ∷ []) ∷ [])
unfolding uses_of
meshes_refused = refl
