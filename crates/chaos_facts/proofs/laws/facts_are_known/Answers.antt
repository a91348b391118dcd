use Rattle.fd_program.specs.StepLaws.{steps_are_in}
use Rattle.chaos_facts.proofs.Exact.{facts_are_exact, facts_are_accepted}
use Rattle.chaos_facts.proofs.laws.facts_are_known.Goals as goal

pub returns-clause-exact : goal.returns-clause-exact
returns-clause-exact c = facts_are_exact

pub returns-clause-accepted : goal.returns-clause-accepted
returns-clause-accepted c = facts_are_accepted

pub returns-clause-steps : goal.returns-clause-steps
returns-clause-steps c = steps_are_in
