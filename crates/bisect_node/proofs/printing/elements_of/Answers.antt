use Rattle.std.proofs.Common.{ap, ◌∙◌, ℕ, pos, arith}
use Rattle.std.specs.Int.{w64}
use Rattle.std.proofs.lemmas.Int.{to_z_pos}
use Rattle.chaos_dist.specs.Counting.{map-below-one}
use Rattle.chaos_dist.specs.Layout.{element_of}
use Rattle.chaos_dist.specs.declared.shape.Shape.{Shape}
use Rattle.chaos_dist.specs.declared.shape.Shape.TheVariants.{Block}
use Rattle.bisect_node.proofs.printing.elements_of.Goals as goal

pub loop-k-preserved : goal.loop-k-preserved
loop-k-preserved c =
    let k = c.loop-k.k in
    let layout = c.args.layout in
    let of = λ (k : ℕ). pos (element_of Block layout.extent layout.nodes c.args.me k) in
    map-below-one of k c.loop-k.elements c.push.new.self _ c.loop-k.invariant
    (to_z_pos w64 c.global_of.result (omega (arith, c.global_of.ensures.within, c.requires.few))
    ∙ ap pos (c.global_of.ensures.element ∙ ap (λ (s : Shape). element_of s layout.extent layout.nodes c.args.me k) c.requires.shape))
    c.in_ok-push.ensures.ok
