-- What an answer says.
use Rattle.std.proofs.Common.{◌≡◌, ℕ, ◌⊎◌, ◌≤◌, List, refl, ap, subst, inl, inr}
use Rattle.std.specs.Prelude.{ℤ, Option, Some, Result, Ok, Err, IfOk, OnErr, OnOk, MatchResult, ◌^◌}
use Rattle.fd_words.specs.declared.wanting.Memory as wanting
use Rattle.fd_edge.specs.Comes.{comes_complete, comes_right, run_answers}
use Rattle.fd_edge.specs.Endings.{IsWritten, Left, left}
use Rattle.fd_edge.specs.Readings.{Reading}
use Rattle.fd_edge.specs.Unusable.{unusable_failed, unusable_status}
use Rattle.bsp_mail.specs.declared.mail.Mail.{Mail}
use Rattle.bsp_threads.specs.Due.{AreCut, AreDue}
use Rattle.chaos_cut.specs.Regions.{AreSigned}
use Rattle.chaos_cut.specs.Shares.{parts_have_shares}
use Rattle.bisect_node.specs.Plans.{BisectPlan, text_of}
use Rattle.chaos_rcb.specs.Asked.{AskedToBisect}
use Rattle.chaos_rcb.specs.Columns.{AreRead}
use Rattle.chaos_rcb.specs.Outcomes.{Accepted, HasPartSizes, IsAnswered, IsCompleted, IsCut, IsRun, IsStop, RanRight, Runs, due_by_plan}
use Rattle.chaos_rcb.specs.Outcomes.{plan_by}
use Rattle.chaos_rcb.specs.Outcomes.{plan_for, usage_line}

pub shares_of : (w : AskedToBisect) (columns : List (List ℤ)) → AreSigned columns → 1 ≤ w.parts → w.parts ≤ 64 → w.parts ≤ w.count
    → w.count ≤ 2 ^ 20 → HasPartSizes (plan_for w columns)
shares_of w columns signed some most enough few i within = parts_have_shares columns w.parts w.count i signed few some most enough within

-- a run of the plan of a job
pub job_answers : (w : AskedToBisect) (r : Reading) (plan : BisectPlan) (columns : List (List ℤ)) (run : Result (List ℕ) wanting.Memory)
    (result before now : ℕ) (was is : Option (List ℕ)) (old new : Mail) → plan ≡ plan_for w columns
    → AreRead r.contents w.count w.files columns → HasPartSizes (plan_for w columns)
    → IfOk run (λ text. text ≡ text_of plan) → OnOk run (AreDue plan.nodes (due_by_plan plan) new.seats.items)
    → OnErr run ((new ≡ old) ⊎ AreCut plan.nodes (due_by_plan plan) new.seats.items)
    → MatchResult run (λ text. IsWritten 0 text result before now was is) (λ memory. (result ≡ 70) × (is ≡ was))
    → IsAnswered (Some w) r result (left before was old) (left now is new)
job_answers w r plan columns run result before now was is old new same read shares map whole cut ends =
    let accepted : Accepted (Some w) r = record { asked = w; taken = refl; columns = columns; read = read } in
    run_answers usage_line (IsStop r) (Accepted (Some w) r) (IsRun (Some w) r) (Some w) (IsCut (Some w) r) accepted run result before now
    was is old new
    (runs run (subst (λ (p : BisectPlan). IfOk run (λ text. text ≡ text_of p)) same map)
    (subst (λ (p : BisectPlan). OnOk run (AreDue p.nodes (due_by_plan p) new.seats.items)) same whole))
    (part run (subst (λ (p : BisectPlan). OnErr run ((new ≡ old) ⊎ AreCut p.nodes (due_by_plan p) new.seats.items)) same cut)) ends
  where
    runs : (run : Result (List ℕ) wanting.Memory) → IfOk run (λ text. text ≡ text_of (plan_for w columns))
        → OnOk run (AreDue w.nodes (due_by_plan (plan_for w columns)) new.seats.items)
        → IfOk run (λ text. Runs (plan_for w columns) (record { status = 0; bytes = text; letters = Some new }))
    runs (Ok text) map whole = record { status = refl; bytes = map; shares = shares; letters = whole }
    runs (Err m) map whole = tt

    part : (run : Result (List ℕ) wanting.Memory)
        → OnErr run ((new ≡ old) ⊎ AreCut w.nodes (due_by_plan (plan_for w columns)) new.seats.items) → OnErr run (IsCut (Some w) r old new)
    part (Ok text) cut = tt
    part (Err m) (inl stays) = inl stays
    part (Err m) (inr some) = inr (record { asked = w; taken = refl; columns = columns; read = read }, some)

pub same_plan : (w : AskedToBisect) (count : ℕ) (columns : List (List ℤ)) → count ≡ w.count
    → plan_by w.parts count w.nodes columns ≡ plan_for w columns
same_plan w count columns e = ap (λ k. plan_by w.parts k w.nodes columns) e

-- ---- whatever was asked for

module _ (request : Option AskedToBisect) (r : Reading) (result : ℕ) (old new : Left Mail) where
  pub completes : IsAnswered request r result old new → IsCompleted request r result old new
  completes ends sink none =
      comes_complete usage_line (IsStop r) (Accepted request r) (IsRun request r) request (IsCut request r) (λ a o runs. runs.status) result
      old new
      (λ w status line is n e.
      none n.name
      (record { asked = w; taken = is; before = n.before; after = n.after; split = n.split; columns = n.columns; read = n.read })
      (unusable_failed n.unusable e)) ends sink

  pub ran_right : IsAnswered request r result old new → result ≡ 0 → RanRight request r result old new
  ran_right =
      comes_right usage_line (IsStop r) (Accepted request r) (IsRun request r) request (IsCut request r) result old new
      (λ w status line n e. unusable_status n.unusable e)
