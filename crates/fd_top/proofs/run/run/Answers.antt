use Rattle.std.proofs.Common.{inl, inr, refl}
use Rattle.std.specs.Prelude.{Some}
use Rattle.bsp_mail.specs.declared.mail.Mail.{Mail}
use Rattle.fd_top.specs.Threads.{HasSome, WasCut, RunsOnThreads, run_usage_line}
use Rattle.fd_top.proofs.Answered.{accepted, run_answers, stop_answers}
use Rattle.fd_top.proofs.Running.{always, ends_run}
use Rattle.fd_top.proofs.run.run.Goals as goal

pub returns-in-Ok-clause-answer : goal.returns-in-Ok-clause-answer
returns-in-Ok-clause-answer g c = λ asked says.
    let m = c.in-Ok.call.manner in
    let s = c.in-Ok.call.ready.source in
    let store = c.in-Ok.call.ready.store in
    let run = c.run_on_threads-run in
    let called = c.in-Ok.ensures.call asked says in
    run_answers run_usage_line RunsOnThreads WasCut asked _ c.in-Ok.call (λ (x y : Mail). HasSome m s store y) _ _ _ called
    (λ x y some. inr (accepted asked _ c.in-Ok.call called, some))
    (ends_run (RunsOnThreads m s store) (λ (x y : Mail). HasSome m s store y) run.result (Some run.new.mail) _ _ _ _ _ _ _
    run.ensures.runs (always {P = HasSome m s store run.new.mail} run.result run.ensures.some) refl c.end_run.ensures.ends)

pub returns-in-Err-clause-answer : goal.returns-in-Err-clause-answer
unfolding run_usage_line
returns-in-Err-clause-answer g c = λ asked says.
    stop_answers run_usage_line RunsOnThreads WasCut asked _ c.in-Err.stop _ _ _ _ _ _ (c.in-Err.ensures.stop asked says) (inl refl)
    c.end_stop.ensures.ends
