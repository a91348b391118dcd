use Rattle.std.proofs.Common.{◌≡◌, ◌≤◌, ◌+◌, ℕ, take}
use Rattle.std.specs.List.{AllZip}
use Rattle.std.specs.FinMap as fin
use Rattle.chaos_localise.specs.Local.{bare, after_items, IsLocal, KeepsSlots}
use Rattle.chaos_localise.proofs.references.localise.Given as goal

abbrev pub invariant-loop-item : goal.invariant-loop-item
invariant-loop-item l = record {
  seen : (q : ℕ) → bare (fin.get l.table.held q) ≡ after_items l.me q (take l.item-index l.items) (bare (fin.get l.fn.table.held q));
  local : AllZip (IsLocal l.me l.table.held) (take l.item-index l.items) l.refs;
  keeps : KeepsSlots l.fn.table.held l.table.held;
  few : fin.len l.table.held ≤ fin.len l.fn.table.held + l.item-index;
}
