use Rattle.std.proofs.Common.{◌≡◌, map, string_bytes, take}
use Rattle.fd_outside.specs.Causes.{NoneFell}
use Rattle.chaos_rcb.specs.Columns.{AreRead}
use Rattle.chaos_rcb.proofs.columns.columns.Given as goal

abbrev pub invariant-loop-name : goal.invariant-loop-name
invariant-loop-name g l = record {
  read : AreRead (g.F.Files.contents l.fn.files) l.count (map string_bytes (take l.name-index l.names)) l.columns;
  contents : g.F.Files.contents l.files ≡ g.F.Files.contents l.fn.files;
  faults : NoneFell (g.F.Files.faults l.fn.files) (g.F.Files.faults l.files);
}
