use Rattle.std.proofs.Common.{rules, ◌∙◌, ◌+◌, ◌*◌, ap, set, FitsSigned, w64, to_z, of_z}
use Rattle.std.proofs.lemmas.Int.{to_z-of_z}
use Rattle.chaos_move.specs.Moves.{changed, number_at}
use Rattle.chaos_execute.proofs.Numbering.{number_there}
use Rattle.chaos_execute.proofs.numbered_rows.change_at.Goals as goal

pub returns : goal.returns
returns c =
    let a = c.args in
    let xs = a.rows.now.items in
    let at = 2 * a.number + 1 in
    let fits_joined : FitsSigned w64 c.change.result = search rules in
    let fits_old : FitsSigned w64 c.index.result.now = search rules in
    let fits_value : FitsSigned w64 a.value = search rules in
    ap (set xs at) (to_z-of_z w64 c.change.result fits_joined ∙ c.change.ensures
    ∙ ap (λ v. changed a.operator v (to_z w64 (of_z w64 a.value))) (to_z-of_z w64 c.index.result.now fits_old
    ∙ number_there xs at c.index.result.now c.requires c.index.ensures)
    ∙ ap (changed a.operator (number_at xs at)) (to_z-of_z w64 a.value fits_value))
