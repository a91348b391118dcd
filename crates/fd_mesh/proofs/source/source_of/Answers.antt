use Rattle.std.proofs.Common.{ℕ, List, [], ◌∷◌, ◌++◌, ◌∙◌, codes, ap, sym}
use Rattle.fd_mesh.specs.Source.{joined, sizes, declarations, sweeps, reductions}
use Rattle.list_laws.specs.Pieces.{five}
use Rattle.fd_mesh.proofs.Pieces.{source_in_parts}
use Rattle.fd_mesh.proofs.source.source_of.Goals as goal

pub returns : goal.returns
returns c =
    five [] (codes "PROGRAM MESH\n") (sizes c.args.size ++ 10 ∷ []) (joined declarations) (joined sweeps) (joined reductions)
    c.append.new.self c.append_sizes.new.text c.append_declarations.new.text c.append_sweeps.new.text c.append_reductions.new.text
    (c.in_ok-append.ensures.ok ∙ ap (λ (l : List ℕ). l ++ codes "PROGRAM MESH\n") c.new-text.ensures)
    c.in_ok-append_sizes.ensures c.in_ok-append_declarations.ensures c.in_ok-append_sweeps.ensures c.in_ok-append_reductions.ensures
    ∙ sym (source_in_parts c.args.size)
