use Rattle.fd_top.specs.Answers.{texts}
use Rattle.fd_top.specs.Threads.{WasCut, RunsOnThreads, asked_to_run, run_usage_line}
use Rattle.fd_top.proofs.Answered.{complete, ran_right, sound, tells, threads_status}
use Rattle.fd_top.proofs.Heading.{headline}
use Rattle.fd_top.proofs.run.run_program.Goals as goal

pub run-requires-clause-request : goal.run-requires-clause-request
run-requires-clause-request g c = λ lifetimes lived.
    let asking = c.requested_to_run-request.ensures in
    sound c.requested_to_run-request.result asking.some_nodes asking.few_nodes asking.range

pub returns : goal.returns
returns g c =
    let asking = c.requested_to_run-request.ensures in
    let request = asked_to_run (texts c.args.words.now) in
    let answer = c.run.ensures.answer request (tells request c.requested_to_run-request.result asking.taken asking.refused) in
    let ran = ran_right run_usage_line RunsOnThreads threads_status WasCut _ _ _ _ _ answer in
    record {
      answer = answer;
      complete = complete run_usage_line RunsOnThreads threads_status WasCut _ _ _ _ _ answer;
      ran = ran;
      headline = λ is_run. headline _ _ _ _ _ (ran is_run);
      queues = c.run.ensures.queues;
      contents = c.run.ensures.files.0;
      faults = c.run.ensures.files.1;
      failures = c.run.ensures.failures;
    }
