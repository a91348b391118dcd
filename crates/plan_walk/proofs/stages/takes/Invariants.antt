use Rattle.std.proofs.Common.{◌≡◌}
use Rattle.plan_run.specs.Phases.{is_sent}
use Rattle.plan_walk.specs.Letters.{number_in, wanted_in}
use Rattle.plan_run.specs.Picks.{picked}
use Rattle.plan_walk.proofs.stages.takes.Given as goal

abbrev pub invariant-loop-q : goal.invariant-loop-q
invariant-loop-q l = l.due.items ≡ picked (λ q. wanted_in l.naming (number_in l.counts q)) (λ q. is_sent l.naming.stage q l.me) 0 l.q
