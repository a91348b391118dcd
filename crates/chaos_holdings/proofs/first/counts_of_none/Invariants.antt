use Rattle.std.proofs.Common.{◌≡◌, replicate}
use Rattle.fd_program.specs.Reports.{no_count}
use Rattle.chaos_holdings.proofs.first.counts_of_none.Given as goal

abbrev pub invariant-loop-site : goal.invariant-loop-site
invariant-loop-site l = l.counts ≡ replicate l._site no_count
