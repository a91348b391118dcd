use Rattle.std.proofs.Common.{◌≡◌, take}
use Rattle.std.specs.List.{flat_map}
use Rattle.chaos_inspect.proofs.homes.joined.Given as goal

abbrev pub invariant-loop-letter : goal.invariant-loop-letter
invariant-loop-letter l = l.rows ≡ flat_map (λ n. n) (take l.letter-index l.letters)
