use Rattle.std.proofs.Common.{◌∙◌, ap}
use Rattle.std.proofs.lemmas.List.Sorted.{IsNonDecreasingBy-from_sort}
use Rattle.chaos_bins.specs.Bins.{pair_le, sorted_by}
use Rattle.append_node.specs.Keys.{sorted_keys}
use Rattle.append_node.proofs.pairs.Pairs.sorted.Goals as goal

pub invariant_of-result : goal.invariant_of-result
invariant_of-result c = IsNonDecreasingBy-from_sort (λ x. x) c.sort_unstable.new.self.items c.sort_unstable.ensures.sorted

pub returns : goal.returns
returns c =
    sorted_keys c.self.inside.keys.items c.sort_unstable.new.self.items
    (IsNonDecreasingBy-from_sort (λ x. x) c.sort_unstable.new.self.items c.sort_unstable.ensures.sorted) c.sort_unstable.ensures.permutation
    ∙ ap (sorted_by pair_le) c.self.view_is
