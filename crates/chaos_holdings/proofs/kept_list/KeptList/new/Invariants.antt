use Rattle.std.proofs.Common.{◌≡◌, replicate}
use Rattle.chaos_holdings.specs.Keeping.{no_kept}
use Rattle.chaos_holdings.proofs.kept_list.KeptList.new.Given as goal

abbrev pub invariant-loop-site : goal.invariant-loop-site
invariant-loop-site l = l.items.items ≡ replicate l._site no_kept
