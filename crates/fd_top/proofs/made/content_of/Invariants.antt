use Rattle.std.proofs.Common.{◌≡◌, length}
use Rattle.fd_top.specs.Made.{made_content}
use Rattle.fd_top.proofs.made.content_of.Given as goal

abbrev pub invariant-loop-rest : goal.invariant-loop-rest
invariant-loop-rest l = made_content l.rest l.name ≡ made_content l.files l.name

abbrev pub decreases-loop-rest : goal.decreases-loop-rest
decreases-loop-rest l = length l.rest
