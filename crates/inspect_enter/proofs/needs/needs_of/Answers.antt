use Rattle.inspect_enter.proofs.ByFormula.{needs_more}
use Rattle.inspect_enter.proofs.needs.needs_of.Goals as goal

pub loop-at-preserved : goal.loop-at-preserved
loop-at-preserved c =
    needs_more c.args.placed.now c.args.references.now c.loop-at.at _ _ c.loop-at.needs c.note.new.needs c.loop-at-test.true
    c.requires.each c.loop-at.invariant c.in_ok-note.ensures
