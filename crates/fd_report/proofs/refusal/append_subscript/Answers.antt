use Rattle.std.proofs.Common.{codes, rules, ap, ◌∙◌, ◌++◌, ℤ}
use Rattle.std.specs.Fmt.{signed_decimal}
use Rattle.std.specs.Int.{w128}
use Rattle.std.specs.Prelude.{FitsSigned}
use Rattle.std.proofs.lemmas.Int.{to_z-of_z}
use Rattle.fd_program.specs.Texts.{refused_subscript}
use Rattle.list_laws.specs.Pieces.{on_ok, two}
use Rattle.fd_report.proofs.Pieces.{first}
use Rattle.fd_report.proofs.refusal.append_subscript.Goals as goal

pub returns : goal.returns
unfolding refused_subscript
returns c =
    let fits : FitsSigned w128 c.args.subscript = search rules in
    let one = first c.args.text.now (codes ": subscript ") (signed_decimal c.args.subscript) c.append_number.new.text
    (c.in_ok-append_number.ensures ∙ ap (λ (z : ℤ). (c.args.text.now ++ codes ": subscript ") ++ signed_decimal z)
    (to_z-of_z w128 c.args.subscript fits)) in
    let of = two c.args.text.now (codes ": subscript " ++ signed_decimal c.args.subscript) (codes " of ") c.append_number.new.text
    c.append.new.self one c.in_ok-append.ensures.ok in
    on_ok c.append-2.result
    (λ h. two c.args.text.now ((codes ": subscript " ++ signed_decimal c.args.subscript) ++ codes " of ") c.args.name.now
    c.append.new.self c.append-2.new.self of
    (h ∙ ap (λ n. c.append.new.self ++ n) c.as_slice.ensures))
    c.append-2.ensures.ok
