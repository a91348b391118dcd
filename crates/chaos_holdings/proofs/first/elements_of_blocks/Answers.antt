use Rattle.std.proofs.Common.{◌<◌, length, ap, sym, subst, ◌∙◌, get_or, List, map, pos}
use Rattle.chaos_dist.specs.Owners.{elements_on, regular_owners}
use Rattle.chaos_dist.specs.declared.shape.Shape.TheVariants.{Block}
use Rattle.fd_program.specs.declared.array.LayoutName.{LayoutName}
use Rattle.chaos_holdings.proofs.Blocked.{elements_more}
use Rattle.chaos_holdings.proofs.first.elements_of_blocks.Goals as goal

pub loop-k-preserved : goal.loop-k-preserved
loop-k-preserved c =
    let less : c.loop-k.k < length c.args.layouts.now = subst (λ (l : List LayoutName). c.loop-k.k < length l) c.as_slice-all.ensures
    c.loop-k-test.true in
    elements_more c.args.layouts.now c.args.nodes c.args.node c.loop-k.k c.loop-k.lists c.push.new.self c.in_ok-elements_of_block.field-0
    c.index-all-k.result less
    (c.index-all-k.is ∙ ap (λ l. get_or l c.loop-k.k c.index-all-k.result) c.as_slice-all.ensures) c.loop-k.invariant
    (c.in_ok-elements_of_block.ensures
    ∙ ap (λ (l : LayoutName). map pos (elements_on (regular_owners Block l.extent c.args.nodes) c.args.node)) (sym c.index-all-k.is))
    c.in_ok-push.ensures.ok
