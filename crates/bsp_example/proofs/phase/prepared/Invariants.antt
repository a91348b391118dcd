use Rattle.std.proofs.Common.{◌≡◌, take}
use Rattle.bsp_core.specs.Others.{each}
use Rattle.bsp_example.specs.Rows.{voter_letter, voter_wanted}
use Rattle.bsp_example.proofs.phase.prepared.Given as goal

abbrev pub invariant-outs : goal.invariant-outs
invariant-outs l = l.out.items ≡ each (λ q. voter_letter l.left l.flag) (take l.q-index l.q-items)

abbrev pub invariant-dues : goal.invariant-dues
invariant-dues l = l.due.items ≡ each (λ q. voter_wanted l.left) (take l.q-index l.q-items)
