use Rattle.std.proofs.Common.{◌≡◌, ℕ, ℤ, map, arith, ap, ◌∙◌, of_z, rules, to_z}
use Rattle.std.specs.Prelude.{FitsSigned}
use Rattle.std.specs.Int.{w64}
use Rattle.std.proofs.lemmas.Int.{to_z-of_z}
use Rattle.chaos_dist.specs.Counting.{below, map-below-one}
use Rattle.chaos_dist.specs.Layout.{element_of}
use Rattle.chaos_dist.specs.declared.shape.Shape.TheVariants.{Block}
use Rattle.fd_program.specs.Checks.{layout_extent}
use Rattle.fd_program.specs.Places.{value_on}
use Rattle.fd_program.specs.declared.array.ArrayFacts.{ArrayFacts}
use Rattle.chaos_engine.proofs.Blocked.{part_by_place}
use Rattle.chaos_engine.proofs.pieces.part_on.Goals as goal

pub loop-local-preserved : goal.loop-local-preserved
loop-local-preserved c =
    let value : ℕ → ℤ = λ k. value_on c.args.checked.now.arrays c.args.store.now c.args.array
    (element_of Block c.extent_of-extent.result c.args.nodes c.args.node k) in
    let fits : FitsSigned w64 c.value_for.result = search rules in
    map-below-one value c.loop-local.local c.loop-local.part c.push.new.self (to_z w64 (of_z w64 c.value_for.result)) c.loop-local.invariant
    (to_z-of_z w64 c.value_for.result fits ∙ c.value_for.ensures ∙ ap (value_on c.args.checked.now.arrays c.args.store.now c.args.array)
    c.global_of-element.ensures.element)
    c.in_ok-push.ensures.ok

pub returns : goal.returns
returns c =
    let value : ℕ → ℤ = λ k. value_on c.args.checked.now.arrays c.args.store.now c.args.array
    (element_of Block c.extent_of-extent.result c.args.nodes c.args.node k) in
    let all : c.loop-local.local ≡ c.length_on-local-end.result = omega (arith, c.loop-local-test.false, c.loop-local.auto.local-end) in
    c.loop-local.invariant
    ∙ ap (λ n. map value (below n)) (all ∙ c.length_on-local-end.ensures.length)
    ∙ part_by_place c.args.checked.now.arrays c.args.checked.now.layouts c.args.store.now c.args.nodes c.args.node c.args.array
    c.extent_of-extent.result
    (c.extent_of-extent.ensures ∙ ap (λ (a : ArrayFacts). layout_extent c.args.checked.now.layouts a.decomposition) c.requires.facts)
