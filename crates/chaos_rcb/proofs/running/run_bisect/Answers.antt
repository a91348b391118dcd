use Rattle.std.proofs.Common.{◌≡◌, List, inr, map, refl, slice_get, Some}
use Rattle.std.proofs.lemmas.Result.{IfOk-weaker}
use Rattle.fd_edge.specs.EndLaws.{always, ok_holds}
use Rattle.bsp_core.specs.Views.{View}
use Rattle.bsp_threads.specs.Due.{AreDue}
use Rattle.bisect_node.specs.Plans.{text_of}
use Rattle.bisect_node.specs.States.{BisectState}
use Rattle.chaos_rcb.specs.Jobs.{is_of_job, is_plan, plan_of}
use Rattle.chaos_rcb.specs.Outcomes.{due_by_plan}
use Rattle.chaos_rcb.proofs.Ending.{empty_behind, has_letters, job_cut, text_at_end}
use Rattle.chaos_rcb.proofs.running.run_bisect.Goals as goal

pub drive_all-requires-clause-together : goal.drive_all-requires-clause-together
drive_all-requires-clause-together g c κs within = (
  plan_of c.args.job.now c.args.columns.now,
  is_plan c.args.job.now c.args.columns.now c.requires.axes c.requires.count c.requires.signed,
  c.in_ok-nodes.ensures (plan_of c.args.job.now c.args.columns.now)
      (is_plan c.args.job.now c.args.columns.now c.requires.axes c.requires.count c.requires.signed)
      (is_of_job c.args.job.now c.args.columns.now c.requires.axes) refl,
)

pub returns-in_err-drive_all-clause-cut : goal.returns-in_err-drive_all-clause-cut
returns-in_err-drive_all-clause-cut g c =
    always c.from_residual-in_err-drive_all.result
    (inr (job_cut c.args.job.now c.args.columns.now c.in_ok-nodes.nodes c.drive_all.new.mail.seats.items c.requires.axes c.requires.count
    c.requires.signed c.in_ok-nodes.ensures c.drive_all.ensures.within c.drive_all.ensures.prefixes c.drive_all.ensures.empty
    c.due_law.ensures.cut))

pub returns-clause-text : goal.returns-clause-text
returns-clause-text g c =
    let plan = plan_of c.args.job.now c.args.columns.now in
    let is = is_plan c.args.job.now c.args.columns.now c.requires.axes c.requires.count c.requires.signed in
    let nodes = c.drive_all.new.nodes in
    IfOk-weaker c.first_text.result (λ text. (v : View BisectState) → slice_get nodes 0 ≡ Some v → text ≡ v.state.work.text)
    (λ text. text ≡ text_of plan)
    (λ text told.
    text_at_end plan nodes c.drive_all.new.mail.seats.items is.some_nodes (c.in_ok-drive_all.ensures.ended plan is
    (c.in_ok-nodes.ensures plan is (is_of_job c.args.job.now c.args.columns.now c.requires.axes) refl))
    text told) c.first_text.ensures

pub returns-clause-letters : goal.returns-clause-letters
returns-clause-letters g c =
    let plan = plan_of c.args.job.now c.args.columns.now in
    let is = is_plan c.args.job.now c.args.columns.now c.requires.axes c.requires.count c.requires.signed in
    let begin = c.in_ok-nodes.ensures plan is (is_of_job c.args.job.now c.args.columns.now c.requires.axes) refl in
    let mails = c.drive_all.new.mail.seats.items in
    let views : List (View BisectState) = map (λ (s : View BisectState). s) c.drive_all.new.nodes in
    let whole : AreDue plan.nodes (due_by_plan plan) mails =
    c.due_law.ensures.due plan is (due_by_plan plan) (has_letters plan) views mails (c.in_ok-drive_all.ensures.ended plan is begin)
    (empty_behind plan c.in_ok-nodes.nodes mails begin c.drive_all.ensures.empty) in
    ok_holds c.first_text.result whole

pub returns-clause-cut : goal.returns-clause-cut
returns-clause-cut g c =
    always c.first_text.result
    (inr (job_cut c.args.job.now c.args.columns.now c.in_ok-nodes.nodes c.drive_all.new.mail.seats.items c.requires.axes c.requires.count
    c.requires.signed c.in_ok-nodes.ensures c.drive_all.ensures.within c.drive_all.ensures.prefixes c.drive_all.ensures.empty
    c.due_law.ensures.cut))
