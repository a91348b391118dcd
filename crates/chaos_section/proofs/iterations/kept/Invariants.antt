use Rattle.std.proofs.Common.{◌≡◌, ◌==◌, filter, take}
use Rattle.chaos_section.specs.Sections.{home_on}
use Rattle.chaos_section.proofs.iterations.kept.Given as goal

abbrev pub invariant-loop-i : goal.invariant-loop-i
invariant-loop-i l = l.kept ≡ filter (λ i. home_on l.facts i == l.me) (take l.i-index l.list)
