use Rattle.std.proofs.Common.{◌≡◌, List, inr, map, slice_get, Some}
use Rattle.std.proofs.lemmas.Result.{IfOk-weaker}
use Rattle.fd_edge.specs.EndLaws.{always, ok_holds}
use Rattle.bsp_core.specs.Views.{View}
use Rattle.chaos_bins.specs.Bins.{lines_of}
use Rattle.append_node.specs.Jobs.{is_plan}
use Rattle.append_node.specs.Node.{AppendState, plan_of}
use Rattle.chaos_append.proofs.Ending.{due_in, in_part, text_at_end, whole}
use Rattle.chaos_append.proofs.running.run_append.Goals as goal

pub drive_all-requires-clause-together : goal.drive_all-requires-clause-together
drive_all-requires-clause-together g c κs within =
    let plan = plan_of c.args.job.now c.args.bins.now c.args.values.now in
    (plan, is_plan c.args.job.now c.args.bins.now c.args.values.now c.requires.count c.requires.in_bins, c.in_ok-nodes.ensures)

pub returns-in_err-drive_all-clause-cut : goal.returns-in_err-drive_all-clause-cut
returns-in_err-drive_all-clause-cut g c =
    always c.from_residual-in_err-drive_all.result
    (inr (in_part (plan_of c.args.job.now c.args.bins.now c.args.values.now)
    (is_plan c.args.job.now c.args.bins.now c.args.values.now c.requires.count c.requires.in_bins) c.appended.ensures c.in_ok-nodes.nodes
    c.drive_all.new.mail.seats.items c.in_ok-nodes.ensures c.drive_all.ensures.empty c.drive_all.ensures.within c.drive_all.ensures.prefixes
    c.due_law.ensures.cut))

pub returns-clause-text : goal.returns-clause-text
returns-clause-text g c =
    let plan = plan_of c.args.job.now c.args.bins.now c.args.values.now in
    let is = is_plan c.args.job.now c.args.bins.now c.args.values.now c.requires.count c.requires.in_bins in
    let nodes = c.drive_all.new.nodes in
    IfOk-weaker c.first_text.result (λ text. (v : View AppendState) → slice_get nodes 0 ≡ Some v → text ≡ v.state.text)
    (λ text. text ≡ lines_of plan.bins plan.steps plan.particles)
    (λ text told.
    text_at_end plan nodes c.drive_all.new.mail.seats.items is.some_nodes c.nodes_end_with_the_lines.ensures
    (c.in_ok-drive_all.ensures.ended plan is c.in_ok-nodes.ensures) text told) c.first_text.ensures

pub returns-clause-letters : goal.returns-clause-letters
returns-clause-letters g c =
    let plan = plan_of c.args.job.now c.args.bins.now c.args.values.now in
    let is = is_plan c.args.job.now c.args.bins.now c.args.values.now c.requires.count c.requires.in_bins in
    let mails = c.drive_all.new.mail.seats.items in
    let views : List (View AppendState) = map (λ (s : View AppendState). s) c.drive_all.new.nodes in
    ok_holds c.first_text.result
    (whole plan is c.appended.ensures c.in_ok-nodes.nodes mails c.in_ok-nodes.ensures c.drive_all.ensures.empty
    (λ has others. c.due_law.ensures.due plan is (due_in plan) has views mails
    (c.in_ok-drive_all.ensures.ended plan is c.in_ok-nodes.ensures) others))

pub returns-clause-cut : goal.returns-clause-cut
returns-clause-cut g c =
    always c.first_text.result
    (inr (in_part (plan_of c.args.job.now c.args.bins.now c.args.values.now)
    (is_plan c.args.job.now c.args.bins.now c.args.values.now c.requires.count c.requires.in_bins) c.appended.ensures c.in_ok-nodes.nodes
    c.drive_all.new.mail.seats.items c.in_ok-nodes.ensures c.drive_all.ensures.empty c.drive_all.ensures.within c.drive_all.ensures.prefixes
    c.due_law.ensures.cut))
