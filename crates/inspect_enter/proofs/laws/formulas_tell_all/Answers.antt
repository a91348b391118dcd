use Rattle.inspect_enter.proofs.NoMap.{formulas_tell_all}
use Rattle.inspect_enter.proofs.laws.formulas_tell_all.Goals as goal

pub returns : goal.returns
returns c = formulas_tell_all
