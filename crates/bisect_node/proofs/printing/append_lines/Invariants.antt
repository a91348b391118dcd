use Rattle.std.proofs.Common.{◌≡◌, ◌++◌, ◌%◌, take}
use Rattle.std.specs.Prelude.{◌==◌}
use Rattle.std.specs.List.{flat_map}
use Rattle.bisect_node.specs.Indexed.{filter_from}
use Rattle.bisect_node.specs.Printing.{number_line}
use Rattle.bisect_node.proofs.printing.append_lines.Given as goal

abbrev pub invariant-loop-k : goal.invariant-loop-k
invariant-loop-k l = l.text ≡ l.fn.text ++ flat_map number_line (filter_from (λ k. k % 2 == 1) 0 (take l.k l.rows))
