use Rattle.std.proofs.Common.{◌≡◌, take}
use Rattle.fd_parser.specs.Depth.{Shallow, depth_after, no_depth}
use Rattle.fd_parser.proofs.depth.first_too_deep.Given as goal

abbrev pub invariant-loop-place : goal.invariant-loop-place
invariant-loop-place l = record {
  shallow : Shallow no_depth (take l.place l.tokens);
  depth : l.depth ≡ depth_after no_depth (take l.place l.tokens);
}
