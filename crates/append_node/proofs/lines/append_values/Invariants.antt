use Rattle.std.proofs.Common.{◌≡◌, ◌++◌, ◌∷◌, take}
use Rattle.std.specs.List.{flat_map}
use Rattle.std.specs.Fmt.{signed_decimal}
use Rattle.append_node.specs.Keys.{pair_of}
use Rattle.append_node.proofs.lines.append_values.Given as goal

abbrev pub invariant-loop-key : goal.invariant-loop-key
invariant-loop-key l = l.text ≡ l.fn.text ++ flat_map (λ k. 32 ∷ signed_decimal (pair_of k).1) (take l.key-index l.keys)
