use Rattle.std.proofs.Common.{◌≡◌}
use Rattle.fd_words.specs.Lists.{list_at}
use Rattle.plan_run.specs.Phases.{is_sent}
use Rattle.plan_walk.specs.Letters.{letter_in}
use Rattle.plan_run.specs.Picks.{picked}
use Rattle.plan_walk.proofs.stages.sends.Given as goal

abbrev pub invariant-loop-q : goal.invariant-loop-q
invariant-loop-q l = l.out.items ≡ picked (λ q. letter_in l.naming (list_at l.lists q)) (λ q. is_sent l.naming.stage l.me q) 0 l.q
