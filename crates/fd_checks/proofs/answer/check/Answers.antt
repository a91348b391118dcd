use Rattle.fd_checks.proofs.Checked.{answered_checked}
use Rattle.fd_checks.proofs.Shapes.{answered_terms, answered_shapes}
use Rattle.fd_checks.proofs.answer.check.Goals as goal

pub returns-clause-terms : goal.returns-clause-terms
returns-clause-terms c = answered_terms c.args.program.now c.resolve_all.result c.resolve_all.ensures

pub returns-clause-shaped : goal.returns-clause-shaped
returns-clause-shaped c = answered_shapes c.args.program.now c.resolve_all.result c.resolve_all.ensures

pub returns-clause-answer : goal.returns-clause-answer
returns-clause-answer c = c.resolve_all.ensures

pub returns-clause-checked : goal.returns-clause-checked
returns-clause-checked c = λ filled. answered_checked c.args.program.now c.resolve_all.result c.resolve_all.ensures filled
