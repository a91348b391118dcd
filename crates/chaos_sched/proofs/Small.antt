-- What holds of each item stays true in order.
use Rattle.std.proofs.Common.{ℕ, ◌<◌, ◌^◌, Bool, true, false, cond, ◌&&◌, ◌==◌, List, [], ◌∷◌, map, filter, sym, subst, ◌∙◌, Ordering, Less}
use Rattle.std.proofs.Common.{Equal, Greater, rules}
use Rattle.std.specs.List.{All, AllByRecursion, dedup, dedup_from}
use Rattle.std.specs.FinMap as fin
use Rattle.std.specs.FinMap.Entries.{put, by_order, same_entries}
use Rattle.std.specs.Cmp.{IsTotalOrder, nat_cmp_total, on_total, then_total}
use Rattle.std.proofs.lemmas.List.Elements.{recursion_from_All, All-from_recursion}
use Rattle.fd_words.specs.declared.place.Role.{Role}
use Rattle.list_laws.specs.Order.{alone, ascending}
use Rattle.chaos_sched.specs.declared.item.Item.{Item}
use Rattle.chaos_sched.specs.declared.need.Need.{Need}
use Rattle.chaos_sched.specs.Scheduled.{item_cmp, same_element, same_role, item_of, in_order, needed_items, needed_from, IsSmall}

module _ {K : Type 0} (P : K → Type 0) where
  abbrev pub OfKeys : List (K × Unit {0}) → Type 0
  OfKeys es = AllByRecursion (λ (e : K × Unit {0}). P e.0) es

  all_keys : (es : List (K × Unit {0})) → OfKeys es → AllByRecursion P (map (λ e. e.0) es)
  all_keys [] h = tt
  all_keys (e ∷ es) h = (h.0, all_keys es h.1)

  pub all_dedup_from : (E : K → K → Bool) (k : K) (xs : List K) → P k → AllByRecursion P xs → AllByRecursion P (dedup_from E k xs)
  all_dedup_from E k [] p h = (p, tt)
  all_dedup_from E k (x ∷ xs) p h =
      elim (E x k) as (λ b. AllByRecursion P (cond b (dedup_from E k xs) (k ∷ dedup_from E x xs))) [
        | true ↦ all_dedup_from E k xs p h.1
        | false ↦ (p, all_dedup_from E x xs h.0 h.1)
      ]

  pub all_dedup : (E : K → K → Bool) (xs : List K) → AllByRecursion P xs → AllByRecursion P (dedup E xs)
  all_dedup E [] h = tt
  all_dedup E (x ∷ xs) h = all_dedup_from E x xs h.0 h.1

  module _ (R : K → K → Ordering) where
    all_put : (k : K) (es : List (K × Unit {0})) → P k → OfKeys es → OfKeys (put R k tt es)
    all_put k [] p h = (p, tt)
    all_put k (e ∷ es) p h =
        elim (R k e.0) as (λ r. OfKeys (by_order r ((k, tt) ∷ e ∷ es) ((e.0, tt) ∷ es) (e ∷ put R k tt es))) [
          | Less ↦ (p, h)
          | Equal ↦ h
          | Greater ↦ (h.0, all_put k es p h.1)
        ]

    all_entries : (o : IsTotalOrder R) (same : fin.IsAntisymmetric R) (xs : List K) → AllByRecursion P xs
        → OfKeys (fin.entries (fin.from_entries {R = R} (alone xs)))
    all_entries o same [] h =
        subst OfKeys (same_entries R o same [] (fin.entries (fin.empty {R = R})) tt (fin.entries_sorted (fin.empty {R = R}))
        (λ q. sym (fin.get-empty R q) ∙ fin.get-entries (fin.empty {R = R}) q)) tt
    all_entries o same (x ∷ xs) h =
        subst OfKeys (sym (fin.entries-insert o (fin.from_entries {R = R} (alone xs)) x tt))
        (all_put x (fin.entries (fin.from_entries {R = R} (alone xs))) h.0 (all_entries o same xs h.1))

    pub all_ascending : (o : IsTotalOrder R) (same : fin.IsAntisymmetric R) (xs : List K) → AllByRecursion P xs
        → AllByRecursion P (ascending R xs)
    all_ascending o same xs h = all_keys (fin.entries (fin.from_entries {R = R} (alone xs))) (all_entries o same xs h)

pub item_cmp_total : IsTotalOrder item_cmp
item_cmp_total =
    then_total (on_total (λ (i : Item). i.array) nat_cmp_total) (then_total (on_total (λ (i : Item). i.element) nat_cmp_total)
    (then_total (on_total (λ (i : Item). i.local) nat_cmp_total) (on_total (λ (i : Item). i.slot) nat_cmp_total)))

pub item_cmp-IsAntisymmetric : fin.IsAntisymmetric item_cmp
item_cmp-IsAntisymmetric = search rules

module _ (P : Item → Type 0) where
  all_items : (role : Role) (owner : ℕ) (needs : List Need) → AllByRecursion (λ n. P (item_of n)) needs
      → AllByRecursion P (needed_items role owner needs)
  all_items role owner [] h = tt
  all_items role owner (n ∷ needs) h =
      let rest = all_items role owner needs h.1 in
      let kept = filter (λ (n : Need). same_role n.role role && (n.place.owner == owner)) needs in
      elim (same_role n.role role && (n.place.owner == owner)) as (λ b. AllByRecursion P (map item_of (cond b (n ∷ kept) kept)))
      [ true ↦ (h.0, rest) | false ↦ rest ]

  pub all_needed : (role : Role) (owner : ℕ) (needs : List Need) → AllByRecursion (λ n. P (item_of n)) needs
      → AllByRecursion P (needed_from role owner needs)
  unfolding in_order needed_from
  all_needed role owner needs h =
      all_dedup P same_element (ascending item_cmp (needed_items role owner needs))
      (all_ascending P item_cmp item_cmp_total item_cmp-IsAntisymmetric (needed_items role owner needs) (all_items role owner needs h))

small_each : (needs : List Need) → AllByRecursion (λ n. n.element < 2 ^ 63) needs → AllByRecursion (λ n. n.place.local < 2 ^ 63) needs
    → AllByRecursion (λ n. IsSmall (item_of n)) needs
small_each [] e l = tt
small_each (n ∷ needs) e l = ((e.0, l.0), small_each needs e.1 l.1)

pub needed_small : (role : Role) (owner : ℕ) (needs : List Need) → All (λ n. n.element < 2 ^ 63) needs
    → All (λ n. n.place.local < 2 ^ 63) needs → All IsSmall (needed_from role owner needs)
needed_small role owner needs e l =
    All-from_recursion IsSmall (needed_from role owner needs)
    (all_needed IsSmall role owner needs (small_each needs (recursion_from_All (λ n. n.element < 2 ^ 63) needs e)
    (recursion_from_All (λ n. n.place.local < 2 ^ 63) needs l)))
