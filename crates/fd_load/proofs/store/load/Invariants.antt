use Rattle.std.proofs.Common.{◌≡◌, ◌+◌, ◌*◌, ◌≤◌, take}
use Rattle.fd_outside.specs.Causes.{NoneFell}
use Rattle.fd_load.proofs.Loading.{Loaded}
use Rattle.fd_load.proofs.store.load.Given as goal

abbrev pub invariant-loop-number : goal.invariant-loop-number
invariant-loop-number g l = record {
  loaded : Loaded (g.F.Files.contents l.fn.files) l.checked (take l.number-index l.reads) l.store;
  contents : g.F.Files.contents l.files ≡ g.F.Files.contents l.fn.files;
  faults : NoneFell (g.F.Files.faults l.fn.files) (g.F.Files.faults l.files);
  reads : g.F.Files.reads l.files ≤ g.F.Files.reads l.fn.files + l.number-index * 33554434;
}
