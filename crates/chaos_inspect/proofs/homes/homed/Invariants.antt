use Rattle.std.proofs.Common.{◌≡◌, drop, replicate, []}
use Rattle.list_laws.specs.Rows.{dealt_onto}
use Rattle.chaos_inspect.specs.Walking.{Homed, homed_through}
use Rattle.chaos_inspect.proofs.homes.homed.Given as goal

abbrev pub invariant-loop-i : goal.invariant-loop-i
invariant-loop-i l =
    dealt_onto (λ (h : Homed). h.home) (λ (h : Homed). h.row) l.lists (homed_through l.facts (drop l.i-index l.iterations) l.rest l.places)
    ≡ dealt_onto (λ (h : Homed). h.home) (λ (h : Homed). h.row) (replicate l.facts.nodes [])
    (homed_through l.facts l.iterations l.values l.told)
