use Rattle.std.proofs.Common.{◌≡◌}
use Rattle.bsp_desk.specs.Picks.{picked}
use Rattle.bsp_desk.specs.Ways.{sends}
use Rattle.bsp_desk.specs.declared.way.Way.TheVariants.{ToAll}
use Rattle.chaos_bins.specs.Coming.{told}
use Rattle.chaos_bins.specs.Plan.{append_wanted}
use Rattle.append_node.specs.Telling.{size_in}
use Rattle.append_node.proofs.begin.appends_due.Given as goal

abbrev pub invariant-loop-q : goal.invariant-loop-q
invariant-loop-q l =
    l.due.items ≡ picked (λ q. append_wanted l.round (size_in (told l.seat.me l.got q))) (λ q. sends ToAll q l.seat.me) 0 l.q
