use Rattle.bsp_example.specs.Laws.{heard_next}
use Rattle.bsp_example.proofs.reading.with_letters.Goals as goal

pub letters-preserved : goal.letters-preserved
letters-preserved c =
    heard_next c.args.flag c.args.letters.now c.letters.letter-index c.letter-item.result c.letters.is c.with_letter-is.result
    c.letters-test.true c.letter-item.is c.letters.invariant c.with_letter-is.ensures
