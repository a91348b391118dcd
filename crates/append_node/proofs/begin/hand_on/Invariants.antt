use Rattle.std.proofs.Common.{vec_len}
use Rattle.append_node.proofs.Handing.{HandedFrom}
use Rattle.append_node.proofs.begin.hand_on.Given as goal

abbrev pub invariant-loop-list : goal.invariant-loop-list
invariant-loop-list l = HandedFrom l.fn.lists l.me l.round l.rest.items l.own l.next.items

abbrev pub decreases-loop-list : goal.decreases-loop-list
decreases-loop-list l = vec_len l.rest
