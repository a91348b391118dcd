use Rattle.std.proofs.Common.{◌≡◌, take, length}
use Rattle.std.specs.List.{AllZip}
use Rattle.inspect_enter.specs.Placed.{IsFound, HaveGrown, AllCome}
use Rattle.inspect_enter.proofs.entries.enter_all.Given as goal

abbrev pub invariant-loop-item : goal.invariant-loop-item
invariant-loop-item l = record {
  found : AllZip (IsFound l.facts l.me l.tables) (take l.item-index l.placed) l.references;
  grown : HaveGrown l.fn.tables l.tables;
  come : AllCome l.facts l.me l.fn.tables (take l.item-index l.placed) l.tables;
  count : length l.tables ≡ length l.fn.tables;
}
