use Rattle.std.proofs.Common.{◌≡◌}
use Rattle.bsp_core.specs.Others.{others}
use Rattle.bsp_example.proofs.phase.others_of.Given as goal

abbrev pub invariant-loop-q : goal.invariant-loop-q
invariant-loop-q l = l.all.items ≡ others l.me l.q
