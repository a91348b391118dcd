use Rattle.std.proofs.Common.{◌≡◌, ℤ, List, [], ◌∷◌, ◌++◌, sym, ◌∙◌, ap, subst, rules, of_z, to_z}
use Rattle.std.specs.Prelude.{FitsSigned, ◌-ℤ◌}
use Rattle.std.specs.Int.{w64, w128}
use Rattle.std.specs.Result.{OnOk}
use Rattle.std.proofs.lemmas.Int.{to_z-of_z}
use Rattle.chaos_print.specs.Printing.{is_row, number_if, own_row, row_of}
use Rattle.chaos_print.proofs.rows.push_row.Goals as goal

pub returns-in-Some : goal.returns-in-Some
returns-in-Some c =
    let number : FitsSigned w64 c.in-Some.number = search rules in
    let value : FitsSigned w64 c.args.value = search rules in
    let element : FitsSigned w64 c.args.element = search rules in
    let offset : FitsSigned w64 c.args.facts.now.offset = search rules in
    let wide : FitsSigned w128 c.difference.result = search rules in
    let apart : c.difference.result ≡ c.args.element -ℤ c.args.facts.now.offset =
    c.difference.ensures ∙ ap (λ z. z -ℤ to_z w64 (of_z w64 c.args.facts.now.offset)) (to_z-of_z w64 c.args.element element)
    ∙ ap (λ z. c.args.element -ℤ z) (to_z-of_z w64 c.args.facts.now.offset offset) in
    let row : to_z w64 (of_z w64 c.in-Some.number) ∷ to_z w64 (of_z w64 c.args.value) ∷ [] ≡ own_row c.args.facts.now c.args.element
    c.args.value =
    ap (λ (z : ℤ). z ∷ to_z w64 (of_z w64 c.args.value) ∷ []) (to_z-of_z w64 c.in-Some.number number)
    ∙ ap (λ (z : ℤ). c.in-Some.number ∷ z ∷ []) (to_z-of_z w64 c.args.value value)
    ∙ ap (λ o. row_of o c.args.value) (sym c.in-Some.is ∙ c.row_number.ensures ∙ ap (λ z. number_if (is_row c.args.facts.now.extent z) z)
    (to_z-of_z w128 c.difference.result wide ∙ apart)) in
    subst (λ (l : List ℤ). OnOk c.push_pair.result (c.push_pair.new.rows ≡ c.args.rows.now ++ l)) row c.push_pair.ensures
