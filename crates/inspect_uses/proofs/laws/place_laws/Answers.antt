use Rattle.inspect_uses.specs.PlaceLaws.{formula_tells, each_is_owned}
use Rattle.inspect_uses.proofs.laws.place_laws.Goals as goal

pub returns-clause-formula : goal.returns-clause-formula
returns-clause-formula c = formula_tells

pub returns-clause-owned : goal.returns-clause-owned
returns-clause-owned c = each_is_owned
