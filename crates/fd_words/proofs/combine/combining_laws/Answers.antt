use Rattle.fd_words.specs.CombineLaws.{combined_assoc}
use Rattle.fd_words.proofs.combine.combining_laws.Goals as goal

pub returns-clause-associative : goal.returns-clause-associative
returns-clause-associative c = combined_assoc c.args.op
