use Rattle.inspect_uses.specs.KnownLaws.{firsts_are_behind, firsts_are_reached, known_are_reached}
use Rattle.inspect_uses.proofs.laws.known_laws.Goals as goal

pub returns-clause-known : goal.returns-clause-known
returns-clause-known c = known_are_reached

pub returns-clause-behind : goal.returns-clause-behind
returns-clause-behind c = firsts_are_behind

pub returns-clause-firsts : goal.returns-clause-firsts
returns-clause-firsts c = firsts_are_reached
