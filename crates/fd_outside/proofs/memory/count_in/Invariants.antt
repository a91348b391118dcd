use Rattle.std.proofs.Common.{◌≡◌, ◌++◌, ◌-◌, drop, take, length}
use Rattle.fd_outside.specs.Named.{changed_in, marked}
use Rattle.fd_outside.proofs.memory.count_in.Given as goal

abbrev pub invariant-loop-place : goal.invariant-loop-place
invariant-loop-place l = record {
  same : l.files.items ≡ l.initial.files.items;
  left : take l.place l.files.items ++ changed_in marked (drop l.place l.files.items) l.name ≡ changed_in marked l.initial.files.items
      l.name;
}

abbrev pub decreases-loop-place : goal.decreases-loop-place
decreases-loop-place l = length l.files.items - l.place
