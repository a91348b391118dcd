use Rattle.std.proofs.Common.{◌≡◌, ◌++◌, ◌<◌, ◌^◌, All, take}
use Rattle.std.specs.List.{flat_map}
use Rattle.chaos_sched.specs.declared.need.Need.{Need}
use Rattle.chaos_section.specs.Sections.{asked_at}
use Rattle.chaos_section.proofs.asks.add_needs.Given as goal

abbrev pub invariant-loop-i : goal.invariant-loop-i
invariant-loop-i l = record {
  needs : l.needs ≡ l.fn.needs ++ flat_map (asked_at l.facts l.me l.reference) (take l.i-index l.own);
  elements : All (λ (n : Need). n.element < 2 ^ 63) l.needs;
  locals : All (λ (n : Need). n.place.local < 2 ^ 63) l.needs;
}
