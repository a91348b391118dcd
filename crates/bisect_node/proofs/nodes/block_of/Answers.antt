use Rattle.std.proofs.Common.{◌≡◌, ap, ◌∙◌, ℕ, of_z, rules, to_z}
use Rattle.std.specs.Prelude.{FitsSigned}
use Rattle.std.specs.Int.{w64}
use Rattle.std.proofs.lemmas.Int.{to_z-of_z}
use Rattle.chaos_dist.specs.Counting.{map-below-one}
use Rattle.chaos_dist.specs.Layout.{element_of}
use Rattle.chaos_dist.specs.declared.shape.Shape.{Shape}
use Rattle.chaos_dist.specs.declared.shape.Shape.TheVariants.{Block}
use Rattle.chaos_cut.specs.Bisection.{coordinate}
use Rattle.bisect_node.proofs.nodes.block_of.Goals as goal

pub loop-k-preserved : goal.loop-k-preserved
loop-k-preserved c =
    let k = c.loop-k.k in
    let layout = c.args.layout in
    let axis = c.args.axis.now in
    let of = λ (k : ℕ). coordinate axis (element_of Block layout.extent layout.nodes c.args.node k) in
    let fits : FitsSigned w64 c.number_at.result = search rules in
    let here : c.number_at.result ≡ of k =
    c.number_at.ensures
    ∙ ap (λ g. coordinate axis g)
    (c.global_of.ensures.element ∙ ap (λ (s : Shape). element_of s layout.extent layout.nodes c.args.node k) c.requires.shape) in
    map-below-one of k c.loop-k.own c.push.new.self (to_z w64 (of_z w64 c.number_at.result)) c.loop-k.invariant
    (to_z-of_z w64 c.number_at.result fits ∙ here) c.in_ok-push.ensures.ok
