use Rattle.std.proofs.Common.{◌≡◌}
use Rattle.fd_words.specs.Lists.{list_at}
use Rattle.bsp_desk.specs.Picks.{picked}
use Rattle.bsp_desk.specs.Ways.{letter_as, sends}
use Rattle.bsp_desk.proofs.builds.each_out.Given as goal

abbrev pub invariant-loop-q : goal.invariant-loop-q
invariant-loop-q l = l.out.items ≡ picked (λ q. letter_as l.wanted (list_at l.lists q)) (λ q. sends l.way l.me q) 0 l.q
