use Rattle.std.proofs.Common.{◌∙◌}
use Rattle.inspect_enter.proofs.entries.clear_own.Goals as goal

pub clear_one-requires-clause-tables : goal.clear_one-requires-clause-tables
clear_one-requires-clause-tables c = c.loop-reference.invariant.count ∙ c.requires.tables
