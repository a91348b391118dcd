use Rattle.std.proofs.Common.{◌≡◌, ◌<◌, ◌^◌, All, take}
use Rattle.std.specs.List.{flat_map}
use Rattle.chaos_sched.specs.declared.need.Need.{Need}
use Rattle.chaos_section.specs.Sections.{asked_by}
use Rattle.chaos_section.proofs.asks.needs.Given as goal

abbrev pub invariant-loop-reference : goal.invariant-loop-reference
invariant-loop-reference l = record {
  needs : l.needs ≡ flat_map (asked_by l.facts l.me) (take l.reference-index l.references);
  elements : All (λ (n : Need). n.element < 2 ^ 63) l.needs;
  locals : All (λ (n : Need). n.place.local < 2 ^ 63) l.needs;
}
