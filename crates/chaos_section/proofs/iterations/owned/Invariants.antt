use Rattle.std.proofs.Common.{◌≡◌, take}
use Rattle.std.specs.List.{flat_map}
use Rattle.chaos_section.specs.Sections.{own_on}
use Rattle.chaos_section.proofs.iterations.owned.Given as goal

abbrev pub invariant-loop-reference : goal.invariant-loop-reference
invariant-loop-reference l = l.list ≡ flat_map (own_on l.facts l.me) (take l.reference-index l.references)
