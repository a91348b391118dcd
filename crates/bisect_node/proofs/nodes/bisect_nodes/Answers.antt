use Rattle.std.proofs.Common.{◌≡◌, ◌+◌, ℤ, List, length, ap, sym, ◌∙◌, subst, arith, slice_get, Some}
use Rattle.std.proofs.lemmas.List.{length-map, length_push, map-id}
use Rattle.bsp_core.specs.Views.{View}
use Rattle.bisect_node.specs.Beginning.{none-begins, one-more}
use Rattle.bisect_node.specs.Blocks.{own-is, own_in}
use Rattle.bisect_node.specs.Plans.{coordinates_of, own_elements}
use Rattle.bisect_node.specs.States.{BisectState}
use Rattle.bisect_node.proofs.nodes.bisect_nodes.Goals as goal

pub loop-node-init : goal.loop-node-init
loop-node-init c = (ap length c.new-nodes.ensures, none-begins c.args.job.now c.args.axes.now c.new-nodes.result c.new-nodes.ensures)

pub loop-node-preserved : goal.loop-node-preserved
loop-node-preserved c =
    let job = c.args.job.now in
    let axes = c.args.axes.now in
    let nodes = c.loop-node.nodes in
    let made = c.in_ok-made.made in
    let new = c.push.new.self in
    let long : length new ≡ length nodes + 1 = ap length c.in_ok-push.ensures.ok ∙ length_push nodes made in
    let own : c.in_ok-own.own ≡ own_in job.count job.nodes c.loop-node.node axes =
    c.in_ok-own.ensures
    ∙ ap (λ n. own_in n c.blocks-in-loop-node.result.nodes c.loop-node.node axes) c.blocks-in-loop-node.ensures.extent
    ∙ ap (λ n. own_in job.count n c.loop-node.node axes) c.blocks-in-loop-node.ensures.nodes in (
      omega (arith, long, c.loop-node.invariant.0),
      one-more job axes nodes new made c.loop-node.node c.loop-node.invariant.0 c.in_ok-push.ensures.ok c.loop-node.invariant.1
          (λ plan h of is.
          c.in_ok-made.ensures plan h of
          (own
          ∙ ap (λ n. own_in n job.nodes c.loop-node.node axes) of.count
          ∙ ap (λ n. own_in plan.count n c.loop-node.node axes) of.nodes
          ∙ own-is plan c.loop-node.node axes
          ∙ ap (λ (a : List (List ℤ)). coordinates_of a (own_elements plan c.loop-node.node)) (sym is))),
    )

pub returns : goal.returns
returns c plan h of is =
    let nodes = c.loop-node.nodes in (
      length-map nodes (λ (s : View BisectState). s)
          ∙ omega (arith, c.loop-node-test.false, c.loop-node.auto.node-end, c.loop-node.invariant.0, of.nodes),
      λ p v e. c.loop-node.invariant.1 plan h of is p v (subst (λ (l : List (View BisectState)). slice_get l p ≡ Some v) (map-id nodes) e),
    )
