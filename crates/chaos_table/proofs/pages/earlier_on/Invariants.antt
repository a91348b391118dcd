use Rattle.std.proofs.Common.{◌≡◌, ◌≤◌, ◌*◌}
use Rattle.chaos_table.specs.Pages.{earlier}
use Rattle.chaos_table.proofs.pages.earlier_on.Given as goal

abbrev pub invariant-loop-before : goal.invariant-loop-before
invariant-loop-before l = record {
  sum : l.sum ≡ earlier l.extent l.counts l.before l.node;
  small : l.sum ≤ l.before * 4294967296;
}
