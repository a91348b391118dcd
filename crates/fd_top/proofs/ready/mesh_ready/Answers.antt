use Rattle.std.proofs.Common.{◌≤◌, arith}
use Rattle.fd_command.specs.Asked.{mesh}
use Rattle.fd_top.specs.Outcomes.{ReadingStops, too_long, too_long_line}
use Rattle.fd_top.specs.declared.ready.Ready.{Ready}
use Rattle.fd_top.proofs.Readying.{ok_more, err_more, says_line, long_mesh, mesh_gives, mesh_stops}
use Rattle.fd_top.proofs.ready.mesh_ready.Goals as goal

pub returns-then-len-gt-SOURCE_LIMIT-clause-stop : goal.returns-then-len-gt-SOURCE_LIMIT-clause-stop
unfolding too_long_line
returns-then-len-gt-SOURCE_LIMIT-clause-stop c = λ r.
    let long = long_mesh c.args.size c.from-2.result c.len.result c.in-Ok.made.source c.in-Ok.ensures.source c.from-2.ensures c.len.ensures
    c.if-len-gt-SOURCE_LIMIT.true in
    says_line (ReadingStops (mesh c.args.seed c.args.size) r) 65 too_long_line c.stop_with.result (too_long long) c.stop_with.ensures

pub returns-clause-ready : goal.returns-clause-ready
returns-clause-ready c = λ r.
    let few : c.len.result ≤ 1048576 = omega (arith, c.if-len-gt-SOURCE_LIMIT.false) in
    let made = c.in-Ok.ensures in
    ok_more _ _ _
    (λ (a : Ready) given. mesh_gives c.args.seed c.args.size c.from.result c.from-2.result c.len.result r c.in-Ok.made.source
    c.as_slice.result.now
    c.in-Ok.made.files made.source made.files c.from.ensures c.from-2.ensures c.as_slice.ensures c.len.ensures few a.source a.store given)
    c.text_ready.ensures.ready

pub returns-clause-stop : goal.returns-clause-stop
returns-clause-stop c = λ r.
    let few : c.len.result ≤ 1048576 = omega (arith, c.if-len-gt-SOURCE_LIMIT.false) in
    let made = c.in-Ok.ensures in
    err_more _ _ _
    (mesh_stops c.args.seed c.args.size c.from.result c.from-2.result c.len.result r c.in-Ok.made.source c.as_slice.result.now
    c.in-Ok.made.files made.source made.files c.from.ensures c.from-2.ensures c.as_slice.ensures c.len.ensures few)
    c.text_ready.ensures.stop
