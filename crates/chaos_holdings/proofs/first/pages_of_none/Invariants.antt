use Rattle.std.proofs.Common.{◌≡◌}
use Rattle.chaos_holdings.specs.Starting.{no_pages}
use Rattle.chaos_holdings.proofs.first.pages_of_none.Given as goal

abbrev pub invariant-loop-layout : goal.invariant-loop-layout
invariant-loop-layout l = l.pages ≡ no_pages l._layout
