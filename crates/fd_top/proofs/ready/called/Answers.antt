use Rattle.std.proofs.Common.{subst}
use Rattle.fd_command.specs.Shown.{shown}
use Rattle.fd_edge.specs.Readings.{files_read}
use Rattle.fd_top.specs.Ready.{IsSoundRequest, Tells}
use Rattle.fd_top.proofs.Readying.{stopped_call, untaken_call}
use Rattle.fd_top.proofs.Running.{runnable}
use Rattle.fd_top.proofs.ready.called.Goals as goal

pub returns-in-Err-clause-stop : goal.returns-in-Err-clause-stop
returns-in-Err-clause-stop g c = λ asked says.
    let r = files_read g.F.Files.contents g.F.Files.faults c.args.files.now c.args.files.now in
    untaken_call c.args.usage.now asked r c.in-Err.refused c.untaken.result (subst (Tells asked) c.in-Err.is says) c.untaken.ensures

pub returns-in-Ok-origin_ready-clause-call : goal.returns-in-Ok-origin_ready-clause-call
returns-in-Ok-origin_ready-clause-call g c = λ asked says.
    record {
      origin = (shown c.in-Ok.request).origin;
      taken = subst (Tells asked) c.in-Ok.is says;
      are = c.in-Ok-origin_ready.ensures.ready;
    }

pub returns-in-Ok-origin_ready-clause-runs : goal.returns-in-Ok-origin_ready-clause-runs
returns-in-Ok-origin_ready-clause-runs g c =
    let w = shown c.in-Ok.request in
    let r = files_read g.F.Files.contents g.F.Files.faults c.args.files.now c.origin_ready.new.files in
    let ready = c.in-Ok-origin_ready.ready in
    record {
      nodes = (subst IsSoundRequest c.in-Ok.is c.requires).0;
      ready = runnable w.origin r ready.source ready.store
          c.in-Ok-origin_ready.ensures.ready;
    }

pub returns-in-Err-origin_ready-clause-stop : goal.returns-in-Err-origin_ready-clause-stop
returns-in-Err-origin_ready-clause-stop g c = λ asked says.
    let w = shown c.in-Ok.request in
    let r = files_read g.F.Files.contents g.F.Files.faults c.args.files.now c.origin_ready.new.files in
    stopped_call c.args.usage.now asked r w c.in-Err-origin_ready.stop (subst (Tells asked) c.in-Ok.is says)
    c.in-Err-origin_ready.ensures.stop
