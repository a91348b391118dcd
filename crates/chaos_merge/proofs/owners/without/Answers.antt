use Rattle.chaos_merge.proofs.Steps.{kept_step}
use Rattle.chaos_merge.proofs.owners.without.Goals as goal

pub loop-entry-preserved : goal.loop-entry-preserved
loop-entry-preserved c =
    kept_step c.args.mask c.args.found.now c.loop-entry.entry-index _ c.loop-entry.more c.keep.new.more c.loop-entry-test.true
    c.loop-entry.invariant c.in_ok-keep.ensures
