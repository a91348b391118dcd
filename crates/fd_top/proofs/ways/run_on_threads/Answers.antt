use Rattle.fd_top.proofs.Running.{admitted, some_told}
use Rattle.fd_top.proofs.ways.run_on_threads.Goals as goal

pub run_threads-requires-clause-admitted : goal.run_threads-requires-clause-admitted
run_threads-requires-clause-admitted g c = λ lifetimes lived.
    let a = c.args.ready in
    admitted a.source c.args.manner a.store c.session-session.result c.session-session.ensures c.requires.ready c.requires.nodes

pub returns-in_err-end-clause-some : goal.returns-in_err-end-clause-some
returns-in_err-end-clause-some g c =
    let a = c.args.ready in
    let sent = c.run_threads.ensures in
    some_told c.args.manner a.source a.store c.session-session.result c.run_threads.new.mail c.session-session.ensures sent.within
    sent.prefixes sent.empty

pub returns-clause-some : goal.returns-clause-some
returns-clause-some g c =
    let a = c.args.ready in
    let sent = c.run_threads.ensures in
    some_told c.args.manner a.source a.store c.session-session.result c.run_threads.new.mail c.session-session.ensures sent.within
    sent.prefixes sent.empty
