use Rattle.std.proofs.Common.{◌≡◌, ℤ, map, take, to_z, of_z, ap, ◌∙◌, arith}
use Rattle.std.specs.Int.{w64}
use Rattle.std.proofs.lemmas.Int.{ints}
use Rattle.std.proofs.lemmas.List.{take_all}
use Rattle.chaos_dist.specs.Homes.{most_of}
use Rattle.chaos_section.specs.Sections.{owner_at}
use Rattle.chaos_section.specs.declared.section.SectionReference.{SectionReference}
use Rattle.chaos_section.proofs.homes.most.Goals as goal

pub returns : goal.returns
returns c =
    let l = c.args.facts.now in
    let rs = c.args.references.now in
    let same : to_z w64 (of_z w64 c.args.i) ≡ c.args.i = omega (arith, ints) in
    c.home_by_most.ensures.home
    ∙ ap (most_of l.nodes) (c.as_slice.ensures
    ∙ c.loop-reference.invariant
    ∙ ap (λ (i : ℤ). map (λ (r : SectionReference). owner_at l.nodes r i) (take c.loop-reference.reference-index rs)) same
    ∙ ap (map (λ (r : SectionReference). owner_at l.nodes r c.args.i)) (take_all c.loop-reference.reference-index rs
    c.loop-reference-test.false))
