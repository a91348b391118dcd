use Rattle.std.specs.Prelude.{◌≡◌, nat_lt, map}
use Rattle.std.proofs.Common.{arith, rules, of_calls, ap, sym, subst, ◌∙◌}
use Rattle.std.specs.List.Sorted.{IsNonDecreasingBy}
use Rattle.std.proofs.lemmas.List.Sorted.{IsPartitionPoint-from_clause, IsPartitionedBy-ltb}
use Rattle.chaos_bins.specs.Ascending.{IsAscending}
use Rattle.chaos_bins.specs.Bins.{pair_le}
use Rattle.chaos_bins.specs.Lines.{through}
use Rattle.append_node.specs.Keys.{count_by-point, keys_ascend, limit, pair_of, through_keys}
use Rattle.append_node.proofs.pairs.SortedPairs.through.Goals as goal

pub returns-clause-is : goal.returns-clause-is
returns-clause-is c =
    let xs = c.as_slice.result.now in
    let same : xs ≡ c.self.inside.keys.items = c.as_slice.ensures.value in
    let up : IsNonDecreasingBy (λ x. x) xs = subst (IsNonDecreasingBy (λ x. x)) (sym same) c.self.invariant in
    let below = limit c.args.bin in
    let point =
    IsPartitionPoint-from_clause (λ k. nat_lt k below) xs c.partition_point.result c.partition_point.ensures.partitioned
    (IsPartitionedBy-ltb (λ x. x) xs below up) (λ a r q k. search (rules, of_calls)) in
    sym (count_by-point (λ k. nat_lt k below) xs c.partition_point.result c.partition_point.ensures.bound
    (λ k d l. point.0 k d (omega arith) l) (λ k d l m. point.1 k d l m))
    ∙ sym (through_keys c.args.bin xs)
    ∙ ap (λ l. through c.args.bin (map pair_of l)) same
    ∙ ap (through c.args.bin) c.self.view_is

pub returns-clause-up : goal.returns-clause-up
returns-clause-up c = subst (IsAscending pair_le) c.self.view_is (keys_ascend c.self.inside.keys.items c.self.invariant)
