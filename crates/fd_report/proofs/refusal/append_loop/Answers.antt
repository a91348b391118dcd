use Rattle.std.proofs.Common.{codes, decimal, rules, ap, ◌∙◌, ◌++◌, ℤ}
use Rattle.std.specs.Fmt.{signed_decimal}
use Rattle.std.specs.Int.{w64}
use Rattle.std.specs.Prelude.{FitsSigned}
use Rattle.std.proofs.lemmas.Int.{to_z-of_z}
use Rattle.fd_program.specs.Texts.{refused_loop}
use Rattle.list_laws.specs.Pieces.{on_ok}
use Rattle.fd_report.proofs.Pieces.{first, next_two}
use Rattle.fd_report.proofs.refusal.append_loop.Goals as goal

pub returns : goal.returns
unfolding refused_loop
returns c =
    let fits : FitsSigned w64 c.args.iteration = search rules in
    on_ok c.append_number-2.result
    (λ h. next_two c.args.text.now (codes "refused: line " ++ decimal c.args.line) (codes ", iteration ") (signed_decimal c.args.iteration)
    c.append_number.new.text c.append_number-2.new.text
    (first c.args.text.now (codes "refused: line ") (decimal c.args.line) c.append_number.new.text c.in_ok-append_number.ensures)
    (h ∙ ap (λ (z : ℤ). (c.append_number.new.text ++ codes ", iteration ") ++ signed_decimal z) (to_z-of_z w64 c.args.iteration fits)))
    c.append_number-2.ensures
