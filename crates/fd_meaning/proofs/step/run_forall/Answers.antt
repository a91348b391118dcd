use Rattle.std.proofs.Common.{arith}
use Rattle.fd_meaning.proofs.Runs.{no_site_done, no_site_right}
use Rattle.fd_meaning.proofs.step.run_forall.Goals as goal

pub returns-in-None-clause-offence : goal.returns-in-None-clause-offence
returns-in-None-clause-offence c = let h = c.in-None.ensures.value in grind (arith, no_site_right)

pub returns-in-None-clause-store : goal.returns-in-None-clause-store
returns-in-None-clause-store c = let h = c.in-None.ensures.value in grind (arith, no_site_done)
