use Rattle.std.proofs.Common.{◌≡◌, ◌-◌, ℕ, ℤ, map, arith, ap, ◌∙◌, of_z, rules, to_z}
use Rattle.std.specs.Prelude.{FitsSigned}
use Rattle.std.specs.Int.{w64}
use Rattle.std.proofs.lemmas.Int.{to_z-of_z}
use Rattle.chaos_dist.specs.Counting.{below, map-below-one}
use Rattle.chaos_dist.specs.Layout.{element_of, length_of}
use Rattle.chaos_dist.specs.declared.shape.Shape.TheVariants.{Block}
use Rattle.chaos_bins.specs.Rows.{number_at}
use Rattle.append_node.proofs.Blocks.{block_by_place}
use Rattle.append_node.proofs.nodes.block_of.Goals as goal

pub loop-local-preserved : goal.loop-local-preserved
loop-local-preserved c =
    let value : ℕ → ℤ = λ k. number_at c.args.numbers.now (element_of Block c.args.layout.extent c.args.layout.nodes c.args.node k - 1) in
    let fits : FitsSigned w64 c.at.result = search rules in
    map-below-one value c.loop-local.local c.loop-local.own c.push.new.self (to_z w64 (of_z w64 c.at.result)) c.loop-local.invariant
    (to_z-of_z w64 c.at.result fits
    ∙ c.at.ensures
    ∙ ap (λ l. number_at l (c.global_of-element.result - 1)) c.as_slice.ensures
    ∙ ap (λ g. number_at c.args.numbers.now (g - 1))
    (c.global_of-element.ensures.element ∙ ap (λ s. element_of s c.args.layout.extent c.args.layout.nodes c.args.node c.loop-local.local)
    c.requires.block))
    c.in_ok-push.ensures.ok

pub returns : goal.returns
returns c =
    let value : ℕ → ℤ = λ k. number_at c.args.numbers.now (element_of Block c.args.layout.extent c.args.layout.nodes c.args.node k - 1) in
    let all : c.loop-local.local ≡ c.length_on-local-end.result = omega (arith, c.loop-local-test.false, c.loop-local.auto.local-end) in
    c.loop-local.invariant
    ∙ ap (λ n. map value (below n)) (all ∙ c.length_on-local-end.ensures.length)
    ∙ ap (λ s. map value (below (length_of s c.args.layout.extent c.args.layout.nodes c.args.node))) c.requires.block
    ∙ block_by_place c.args.numbers.now c.args.layout.extent c.args.layout.nodes c.args.node
