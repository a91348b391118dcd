use Rattle.std.proofs.Common.{◌∙◌, ap}
use Rattle.std.proofs.Common.{ℤ, List}
use Rattle.chaos_print.specs.Printing.{filled_by_rows, filled_all}
use Rattle.chaos_print.proofs.Walks.{letters_kept, letters_ended, numbers_of}
use Rattle.chaos_print.proofs.line.values_of.Goals as goal

pub letters-preserved : goal.letters-preserved
letters-preserved c =
    letters_kept c.letters.values c.fill-in-letters.new.values c.as_slice-in-letters.result.now
    (filled_all c.fill.new.values (numbers_of c.args.letters.now)) c.args.letters.now c.letters.letter-index c.letter-item.result
    c.letters-test.true c.letter-item.is c.as_slice-in-letters.ensures c.letters.invariant c.fill-in-letters.ensures

pub returns : goal.returns
returns c =
    letters_ended c.letters.values (filled_all c.fill.new.values (numbers_of c.args.letters.now)) c.args.letters.now
    c.letters.letter-index c.letters-test.false c.letters.invariant
    ∙ ap (λ (l : List ℤ). filled_all l (numbers_of c.args.letters.now)) (c.fill.ensures
    ∙ ap (filled_by_rows c.in_ok-values.values) c.as_slice.ensures
    ∙ ap (λ (l : List ℤ). filled_by_rows l c.args.own.now) c.in_ok-values.ensures)
