use Rattle.inspect_uses.specs.ReachedLaws.{uses_are_reached, values_are_behind}
use Rattle.inspect_uses.proofs.laws.reached_laws.Goals as goal

pub returns-clause-uses : goal.returns-clause-uses
returns-clause-uses c = uses_are_reached

pub returns-clause-behind : goal.returns-clause-behind
returns-clause-behind c = values_are_behind
