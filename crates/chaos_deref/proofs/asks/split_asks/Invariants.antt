use Rattle.std.proofs.Common.{◌≡◌, take}
use Rattle.list_laws.specs.Dealt.{dealt}
use Rattle.chaos_deref.specs.Asking.{page_for}
use Rattle.chaos_deref.proofs.asks.split_asks.Given as goal

abbrev pub invariant-loop-i : goal.invariant-loop-i
invariant-loop-i l = l.lists ≡ dealt (page_for l.extent l.nodes) (λ v. v) l.nodes (take l.i l.all)
