use Rattle.std.proofs.Common.{◌≤◌, ◌<◌, ◌≤ℤ◌, ℕ, ℤ, List, get_or, length, pos, refl, sym, subst, arith}
use Rattle.std.specs.List.{AllByRecursion}
use Rattle.chaos_dist.specs.Layout.{elements_of}
use Rattle.chaos_dist.specs.declared.shape.Shape.TheVariants.{Block}
use Rattle.append_node.proofs.Blocks.{all_of_block, elements_within}
use Rattle.append_node.specs.Jobs.{is_plan}
use Rattle.bsp_desk.specs.Nodes.{nodes_begin}
use Rattle.chaos_bins.specs.Plan.{append_rows}
use Rattle.append_node.proofs.Listing.{one_more}
use Rattle.append_node.specs.Node.{append_holds, plan_of}
use Rattle.append_node.proofs.nodes.append_nodes.Goals as goal

pub start-requires-clause-in_bins : goal.start-requires-clause-in_bins
start-requires-clause-in_bins c =
    let job = c.args.job.now in
    let bins = c.args.bins.now in
    let P : ℤ → Type 0 = λ z. (pos 1 ≤ℤ z) × (z ≤ℤ pos job.bins) in
    let gs = elements_of Block job.count job.nodes c.loop-id.id in
    let within : AllByRecursion (λ g. (1 ≤ g) × (g ≤ length bins)) gs =
    subst (λ n. AllByRecursion (λ g. (1 ≤ g) × (g ≤ n)) gs) (sym c.requires.count) (elements_within job.count job.nodes c.loop-id.id) in
    subst (λ (l : List ℤ). (k : ℕ) (d : ℤ) → k < length l → P (get_or l k d)) (sym c.in_ok-first.ensures)
    (all_of_block P bins c.requires.in_bins gs within)

pub loop-id-preserved : goal.loop-id-preserved
loop-id-preserved c =
    let job = c.args.job.now in
    let bins = c.args.bins.now in
    let values = c.args.values.now in
    let plan = plan_of job bins values in
    one_more plan c.loop-id.nodes c.push.new.self c.in_ok-start.field-0 c.loop-id.id c.loop-id.invariant.0 c.loop-id.invariant.1
    (c.in_ok-start.ensures plan (is_plan job bins values c.requires.count c.requires.in_bins)
    (record { bins = refl; steps = refl; count = refl; nodes = refl })
    (record { bins = c.in_ok-first.ensures; values = c.in_ok-own.ensures }))
    c.in_ok-push.ensures.ok

pub returns : goal.returns
returns c =
    let plan = plan_of c.args.job.now c.args.bins.now c.args.values.now in
    nodes_begin (append_rows plan) (append_holds plan) plan.nodes c.loop-id.nodes
    (omega (arith, c.loop-id.invariant.0, c.loop-id-test.false, c.loop-id.auto.id-end)) c.loop-id.invariant.1
