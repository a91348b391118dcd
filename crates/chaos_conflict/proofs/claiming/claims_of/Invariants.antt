use Rattle.std.proofs.Common.{◌≡◌, map}
use Rattle.std.specs.List.{range_with_len}
use Rattle.chaos_conflict.specs.Rows.{claims_to}
use Rattle.chaos_conflict.proofs.claiming.claims_of.Given as goal

abbrev pub invariant-loop-owner : goal.invariant-loop-owner
invariant-loop-owner l = l.lists ≡ map (λ q. claims_to q l.claims) (range_with_len 0 l.owner)
