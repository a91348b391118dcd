use Rattle.std.proofs.Common.{◌≡◌, replicate, None}
use Rattle.chaos_count.proofs.noting.none_latest.Given as goal

abbrev pub invariant-loop-site : goal.invariant-loop-site
invariant-loop-site l = l.latest ≡ replicate l._site None
