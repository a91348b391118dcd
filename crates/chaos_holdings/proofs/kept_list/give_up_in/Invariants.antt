use Rattle.std.proofs.Common.{◌≡◌, length}
use Rattle.chaos_holdings.specs.Keeping.{with_given_up}
use Rattle.chaos_holdings.proofs.KeptLists.{given_to}
use Rattle.chaos_holdings.proofs.kept_list.give_up_in.Given as goal

abbrev pub invariant-loop-site : goal.invariant-loop-site
invariant-loop-site l =
    (length l.items ≡ length l.initial.items)
    × (given_to l.checked l.decomposition l.site l.items ≡ with_given_up l.checked l.decomposition l.initial.items)
