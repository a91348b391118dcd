use Rattle.std.proofs.Common.{ℕ, subst, rules, nat_eq}
use Rattle.std.specs.Prelude.{IsPermutation}
use Rattle.std.proofs.lemmas.List.Sorted.{IsNonDecreasingBy-from_sort_by_key}
use Rattle.std.proofs.lemmas.Map.Made.{IsDistinct-keys_filter}
use Rattle.list_laws.proofs.Ascending.{sorted-entries}
use Rattle.chaos_hash.specs.declared.held.Held.{Held}
use Rattle.chaos_hash.specs.Stamps.{meets}
use Rattle.chaos_hash.proofs.table.chosen_in_order.Goals as goal

pub returns : goal.returns
returns c =
    let es = c.args.table.now.entries in
    let ys = c.sort_unstable_by_key.new.self.items in
    sorted-entries (λ (h : Held). meets h.mask c.args.mask) es ys c.chosen.ensures.unique
    (IsDistinct-keys_filter nat_eq (λ (e : ℕ × Held). meets e.1.mask c.args.mask) es c.chosen.ensures.unique)
    (subst (λ xs. IsPermutation xs ys) c.in_ok-found.ensures.items c.sort_unstable_by_key.ensures.permutation)
    (IsNonDecreasingBy-from_sort_by_key (λ (e : ℕ × Held). e.0) ys c.sort_unstable_by_key.ensures.sorted (λ a r q k. search rules))
