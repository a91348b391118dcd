use Rattle.std.proofs.Common.{codes, ℕ, List, [], ◌∷◌, ◌++◌, ◌∙◌, ap}
use Rattle.fd_edge.specs.Lines.{unread_line}
use Rattle.list_laws.specs.Pieces.{three}
use Rattle.fd_edge.proofs.line.unread_line.Goals as goal

pub returns : goal.returns
unfolding unread_line
returns c = three [] (codes "cannot read ") c.args.name.now (10 ∷ []) c.append.new.self c.append-2.new.self c.push.new.self
    (c.in_ok-append.ensures.ok ∙ ap (λ (l : List ℕ). l ++ codes "cannot read ") c.new-line.ensures)
    (c.in_ok-append-2.ensures.ok ∙ ap (λ (l : List ℕ). c.append.new.self ++ l) c.as_bytes.ensures.value) c.in_ok-push.ensures.ok
