use Rattle.std.proofs.Common.{◌≡◌, ◌<◌, ◌^◌, ℕ, ◌≤◌, List, map, filter, length, take}
use Rattle.std.specs.List.{AllByRecursion}
use Rattle.inspect_enter.specs.Placed.{MayBeStamped, is_mapped, placed_at}
use Rattle.inspect_enter.specs.declared.placed.Placed.{Placed}
use Rattle.inspect_uses.specs.Accepted.{AreOwners}
use Rattle.inspect_uses.specs.Reached.{place_met}
use Rattle.inspect_enter.proofs.placing.place_all.Given as goal

abbrev pub invariant-loop-used : goal.invariant-loop-used
invariant-loop-used l = record {
  kept : AllByRecursion (λ (x : Placed). MayBeStamped l.facts x.used) l.placed;
  locals : AllByRecursion (λ (x : Placed). x.place.local < 2 ^ 63) l.placed;
  next : l.next ≡ length (filter (is_mapped l.facts) (take l.used-index l.uses));
  few : l.next ≤ l.used-index;
  places : (owners : List (List ℕ)) → AreOwners l.facts owners → l.places ≡ map (place_met l.facts owners)
      (filter (is_mapped l.facts) l.uses)
      → l.placed ≡ map (placed_at l.facts owners) (take l.used-index l.uses);
}
