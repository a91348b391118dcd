use Rattle.std.proofs.Common.{◌≡◌, take, map}
use Rattle.chaos_section.specs.Sections.{owner_at}
use Rattle.chaos_section.specs.declared.section.SectionReference.{SectionReference}
use Rattle.chaos_section.proofs.homes.most.Given as goal

abbrev pub invariant-loop-reference : goal.invariant-loop-reference
invariant-loop-reference l =
    l.owners.items ≡ map (λ (r : SectionReference). owner_at l.facts.nodes r l.i) (take l.reference-index l.references)
