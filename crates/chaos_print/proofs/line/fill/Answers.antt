use Rattle.std.proofs.Common.{◌∙◌, rules, of_z, to_z}
use Rattle.std.specs.Prelude.{FitsSigned}
use Rattle.std.specs.Int.{w64}
use Rattle.std.proofs.lemmas.Int.{to_z-of_z}
use Rattle.chaos_print.specs.Printing.{filled_by_rows}
use Rattle.chaos_print.proofs.Walks.{fill_kept, fill_ended}
use Rattle.chaos_print.proofs.line.fill.Goals as goal

pub loop-k-preserved : goal.loop-k-preserved
loop-k-preserved c =
    let first : FitsSigned w64 c.at-element.result = search rules in
    let second : FitsSigned w64 c.at-value.result = search rules in
    fill_kept c.loop-k.values c.set.new.self c.args.rows.now (filled_by_rows c.args.values.now c.args.rows.now) c.loop-k.k c.place.result
    (to_z w64 (of_z w64 c.at-element.result)) (to_z w64 (of_z w64 c.at-value.result)) c.loop-k-test.true
    (to_z-of_z w64 c.at-element.result first ∙ c.at-element.ensures) (to_z-of_z w64 c.at-value.result second ∙ c.at-value.ensures)
    c.place.ensures c.loop-k.invariant c.set.ensures

pub returns : goal.returns
returns c = fill_ended c.loop-k.values c.args.rows.now (filled_by_rows c.args.values.now c.args.rows.now) c.loop-k.k c.loop-k-test.false
    c.loop-k.invariant
