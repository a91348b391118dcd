use Rattle.std.proofs.Common.{◌<◌, ◌∙◌, length, arith, rules, of_z, to_z}
use Rattle.std.specs.Prelude.{FitsSigned}
use Rattle.std.specs.Int.{w64}
use Rattle.std.proofs.lemmas.Int.{to_z-of_z}
use Rattle.chaos_print.specs.Printing.{rows_owned}
use Rattle.chaos_print.proofs.Walks.{rows_kept, rows_ended}
use Rattle.chaos_print.proofs.rows.rows_on.Goals as goal

pub loop-k-preserved : goal.loop-k-preserved
loop-k-preserved c =
    let first : FitsSigned w64 c.at-element.result = search rules in
    let second : FitsSigned w64 c.at-value.result = search rules in
    let in_elements : c.loop-k.k < length c.args.elements.now = omega (arith, c.loop-k-test.true, c.min-count.ensures) in
    let in_part : c.loop-k.k < length c.args.part.now = omega (arith, c.loop-k-test.true, c.min-count.ensures) in
    rows_kept c.args.facts.now c.args.elements.now c.args.part.now c.loop-k.rows c.push_row.new.rows
    (rows_owned c.args.facts.now c.args.elements.now c.args.part.now) c.loop-k.k
    (to_z w64 (of_z w64 c.at-element.result)) (to_z w64 (of_z w64 c.at-value.result)) in_elements in_part
    (to_z-of_z w64 c.at-element.result first ∙ c.at-element.ensures) (to_z-of_z w64 c.at-value.result second ∙ c.at-value.ensures)
    c.loop-k.invariant c.in_ok-push_row.ensures

pub returns : goal.returns
returns c =
    rows_ended c.args.facts.now c.args.elements.now c.args.part.now c.loop-k.rows
    (rows_owned c.args.facts.now c.args.elements.now c.args.part.now) c.loop-k.k
    (omega (arith, c.loop-k-test.false, c.min-count.ensures)) c.loop-k.invariant
