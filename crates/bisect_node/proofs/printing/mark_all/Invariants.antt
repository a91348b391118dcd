use Rattle.std.proofs.Common.{◌≡◌, take}
use Rattle.bisect_node.specs.Printing.{marked_all}
use Rattle.bisect_node.proofs.printing.mark_all.Given as goal

abbrev pub invariant-loop-element : goal.invariant-loop-element
invariant-loop-element l = l.parts ≡ marked_all l.layout.extent l.layout.nodes l.part l.fn.parts (take l.element-index l.elements)
