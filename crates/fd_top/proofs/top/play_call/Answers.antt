use Rattle.std.proofs.Common.{refl}
use Rattle.std.specs.Prelude.{Some, None}
use Rattle.fd_edge.specs.Endings.{Stays}
use Rattle.fd_edge.specs.EndLaws.{ends_more}
use Rattle.fd_top.specs.Outcomes.{PlaysRun, RunsPlainly, RunsInTurns}
use Rattle.fd_top.proofs.Running.{always, ends_run, in_turns, plainly}
use Rattle.fd_top.proofs.top.play_call.Goals as goal

pub returns-then-manner-clause-ends : goal.returns-then-manner-clause-ends
returns-then-manner-clause-ends g c =
    let m = c.args.call.manner in
    let s = c.args.call.ready.source in
    let store = c.args.call.ready.store in
    ends_more (RunsPlainly s store) (PlaysRun m s store) Stays Stays _ _ _ (λ o runs. plainly m s store o c.if-manner.true runs)
    (λ x y same. same)
    (ends_run (RunsPlainly s store) Stays c.run_plainly.result None _ _ _ _ _ _ _ c.run_plainly.ensures (always c.run_plainly.result refl)
    refl
    c.end_run.ensures.ends)

pub returns-else-manner-clause-ends : goal.returns-else-manner-clause-ends
returns-else-manner-clause-ends g c =
    let m = c.args.call.manner in
    let s = c.args.call.ready.source in
    let store = c.args.call.ready.store in
    let run = c.run_in_turns in
    ends_more (RunsInTurns m s store) (PlaysRun m s store) Stays Stays _ _ _ (λ o runs. in_turns m s store o c.if-manner.false runs)
    (λ x y same. same)
    (ends_run (RunsInTurns m s store) Stays run.result (Some run.new.played) _ _ _ _ _ _ _ run.ensures.runs run.ensures.stays refl
    c.end_run-else-manner.ensures.ends)
