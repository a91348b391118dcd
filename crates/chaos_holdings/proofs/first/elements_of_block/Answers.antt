use Rattle.std.proofs.Common.{◌≡◌, pos, map, arith, ap, ◌∙◌, rules}
use Rattle.std.proofs.lemmas.Int.{ints, to_z-of_z}
use Rattle.chaos_dist.specs.Counting.{below, map-below-one}
use Rattle.chaos_dist.specs.Layout.{element_of}
use Rattle.chaos_dist.specs.declared.shape.Shape.TheVariants.{Block}
use Rattle.chaos_holdings.proofs.Blocked.{numbers_by_place}
use Rattle.chaos_holdings.proofs.first.elements_of_block.Goals as goal

pub loop-local-preserved : goal.loop-local-preserved
loop-local-preserved c =
    map-below-one (λ k. pos (element_of Block c.args.extent c.args.nodes c.args.node k)) c.loop-local.local c.loop-local.elements
    c.push.new.self (pos c.global_of.result) c.loop-local.invariant
    (ap (λ n. pos n) c.global_of.ensures.element)
    (grind (arith, ints, to_z-of_z, c.in_ok-push.ensures.ok, c.global_of.ensures.within, c.requires.most, rules))

pub returns : goal.returns
returns c =
    let all : c.loop-local.local ≡ c.length_on-local-end.result = omega (arith, c.loop-local-test.false, c.loop-local.auto.local-end) in
    c.loop-local.invariant ∙ ap (λ n. map (λ k. pos (element_of Block c.args.extent c.args.nodes c.args.node k)) (below n)) (all
    ∙ c.length_on-local-end.ensures.length)
    ∙ numbers_by_place c.args.extent c.args.nodes c.args.node
