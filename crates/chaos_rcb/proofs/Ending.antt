-- The letters and the text of nodes that were driven.
use Rattle.std.proofs.Common.{◌≡◌, ℕ, ◌≤◌, List, length, map, slice_get, Some, ◌∙◌, subst, arith, refl}
use Rattle.std.specs.Prelude.{ℤ}
use Rattle.std.specs.List.{All}
use Rattle.chaos_letter.specs.declared.letter.Letter.{Letter}
use Rattle.bsp_core.specs.Turns.{Begins}
use Rattle.bsp_core.specs.Views.{View}
use Rattle.bsp_desk.specs.Nodes.{first_node, nodes_count, uniform_due}
use Rattle.bsp_desk.specs.Uniform.{uniform_end}
use Rattle.bsp_mail.specs.Mails.{ArePrefixes}
use Rattle.bsp_mail.specs.declared.seat.MailSeat.{MailSeat}
use Rattle.bsp_threads.specs.Alls.{AreAtEnd, AreEmptyFrom, AreOfPlan}
use Rattle.bsp_threads.specs.Due.{AreCut, HasLetters}
use Rattle.chaos_cut.specs.Regions.{AreSigned}
use Rattle.bisect_node.specs.Plans.{BisectPlan, IsBisectPlan, IsOfJob, bisect_rows, round_at, text_of}
use Rattle.bisect_node.specs.Stages.{phases_of}
use Rattle.bisect_node.specs.States.{BisectState, bisect_holds}
use Rattle.bisect_node.specs.declared.job.Job.{Job}
use Rattle.chaos_rcb.specs.Jobs.{is_of_job, is_plan, plan_of}
use Rattle.chaos_rcb.specs.Outcomes.{due_by_plan}

pub has_letters : (plan : BisectPlan) → HasLetters (bisect_rows plan) plan.nodes (due_by_plan plan)
has_letters plan = uniform_due plan.nodes (phases_of plan.parts) (round_at plan)

abbrev pub Begin : BisectPlan → List (View BisectState) → Type 0
Begin plan nodes = Begins (bisect_rows plan) (bisect_holds plan) plan.nodes (map (λ (s : View BisectState). s) nodes)

-- the pairs of the seats that have no node
pub empty_behind : (plan : BisectPlan) (nodes : List (View BisectState)) (mails : List MailSeat) → Begin plan nodes
    → AreEmptyFrom (length nodes) mails → AreEmptyFrom plan.nodes mails
empty_behind plan nodes mails begin empty =
    subst (λ n. AreEmptyFrom n mails) (nodes_count (bisect_rows plan) (bisect_holds plan) plan.nodes nodes begin) empty

-- node 0 has the map
pub text_at_end : (plan : BisectPlan) (nodes : List (View BisectState)) (mails : List MailSeat) → 1 ≤ plan.nodes
    → AreAtEnd (bisect_rows plan) (bisect_holds plan) plan.nodes (map (λ (s : View BisectState). s) nodes) mails
    → (text : List ℕ) → ((v : View BisectState) → slice_get nodes 0 ≡ Some v → text ≡ v.state.work.text) → text ≡ text_of plan
text_at_end plan nodes mails some ended text told =
    let v = first_node nodes (omega (arith, some, ended.count)) in
    told v.0 v.1 ∙ (ended.nodes 0 v.0 v.2).1.text (uniform_end plan.nodes (phases_of plan.parts) (round_at plan) ended.phase ended.end)

-- where memory was wanting, nodes of a job have sent the first of the letters
pub job_cut : (job : Job) (columns : List (List ℤ)) (nodes : List (View BisectState)) (mails : List MailSeat)
    → job.axes ≡ length columns → All (λ column. length column ≡ job.count) columns → AreSigned columns
    → ((plan : BisectPlan) → IsBisectPlan plan → IsOfJob job plan → plan.axes ≡ columns → Begin plan nodes)
    → ((plan : BisectPlan) → IsBisectPlan plan → Begin plan nodes → AreOfPlan (bisect_rows plan) plan.nodes mails)
    → ArePrefixes mails → AreEmptyFrom (length nodes) mails
    → ((plan : BisectPlan) → IsBisectPlan plan → (due : ℕ → ℕ → List Letter) → HasLetters (bisect_rows plan) plan.nodes due
    → (mails : List MailSeat) → AreOfPlan (bisect_rows plan) plan.nodes mails → ArePrefixes mails → AreEmptyFrom plan.nodes mails
    → AreCut plan.nodes due mails)
    → AreCut job.nodes (due_by_plan (plan_of job columns)) mails
job_cut job columns nodes mails axes each signed begins within prefixes empty law =
    let plan = plan_of job columns in
    let is = is_plan job columns axes each signed in
    let begin = begins plan is (is_of_job job columns axes) refl in
    law plan is (due_by_plan plan) (has_letters plan) mails (within plan is begin) prefixes (empty_behind plan nodes mails begin empty)
