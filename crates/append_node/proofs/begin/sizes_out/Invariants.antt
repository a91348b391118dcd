use Rattle.std.proofs.Common.{◌≡◌, ◌/◌, length}
use Rattle.fd_words.specs.Lists.{list_at}
use Rattle.bsp_desk.specs.Picks.{picked}
use Rattle.bsp_desk.specs.Ways.{sends}
use Rattle.bsp_desk.specs.declared.way.Way.TheVariants.{ToAll}
use Rattle.append_node.specs.Telling.{size_told}
use Rattle.append_node.proofs.begin.sizes_out.Given as goal

abbrev pub invariant-loop-q : goal.invariant-loop-q
invariant-loop-q l = l.out.items ≡ picked (λ q. size_told l.round (length (list_at l.lists q) / 2)) (λ q. sends ToAll l.seat.me q) 0 l.q
