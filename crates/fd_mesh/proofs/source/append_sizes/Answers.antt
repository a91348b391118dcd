use Rattle.std.proofs.Common.{ℕ, ◌*◌, List, [], ◌∷◌, ◌++◌, ◌∙◌, codes, decimal, ap, sym}
use Rattle.fd_mesh.specs.Source.{sizes}
use Rattle.list_laws.specs.Pieces.{on_ok, five}
use Rattle.fd_mesh.proofs.Pieces.{ended}
use Rattle.fd_mesh.proofs.source.append_sizes.Goals as goal

pub returns : goal.returns
unfolding sizes
returns c =
    on_ok c.append-3.result
    (λ h. five c.args.text.now (codes "PARAMETER (NP = ") (decimal c.args.size) (codes ", NE = ") (decimal (2 * c.args.size)) (codes ")\n")
    c.append.new.self c.append_number.new.text c.append-2.new.self c.append_number-2.new.text c.append-3.new.self
    c.in_ok-append.ensures.ok c.in_ok-append_number.ensures c.in_ok-append-2.ensures.ok c.in_ok-append_number-2.ensures h
    ∙ ap (λ (l : List ℕ). c.args.text.now ++ l)
    (sym (ended (codes "PARAMETER (NP = ") (decimal c.args.size) (codes ", NE = ") (decimal (2 * c.args.size)) (codes ")") (10 ∷ []))))
    c.append-3.ensures.ok
