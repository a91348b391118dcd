use Rattle.std.specs.Prelude.{Some}
use Rattle.fd_top.proofs.Running.{admitted, played_told, told}
use Rattle.fd_top.proofs.ways.run_in_turns.Goals as goal

pub run_turns-requires : goal.run_turns-requires
run_turns-requires c =
    let a = c.args.ready in
    admitted a.source c.args.manner a.store c.session-session.result c.session-session.ensures c.requires.ready c.requires.nodes

pub returns-clause-runs : goal.returns-clause-runs
returns-clause-runs c =
    let a = c.args.ready in
    let m = c.args.manner in
    let session = c.session-session.result in
    let end = c.in_ok-end in
    let turns = end.turns in
    record {
      run = told m a.source a.store session end.end c.in_ok-end-2.end (Some turns) c.session-session.ensures end.ensures.text
          end.ensures.refused end.ensures.report
          c.in_ok-end-2.ensures.status c.in_ok-end-2.ensures.text;
      turns = played_told m a.source a.store session c.order.result turns c.session-session.ensures c.order.ensures end.ensures.sent
          end.ensures.order;
    }
