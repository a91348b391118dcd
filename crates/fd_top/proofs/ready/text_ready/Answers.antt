use Rattle.fd_edge.specs.Readings.{reading}
use Rattle.fd_top.proofs.Readying.{refused_text, unloaded_text}
use Rattle.fd_top.proofs.ready.text_ready.Goals as goal

pub returns-in-Err-clause-stop : goal.returns-in-Err-clause-stop
returns-in-Err-clause-stop g c =
    let files = c.args.files.now in
    let r = reading (g.F.Files.contents files) (g.F.Files.faults files) (g.F.Files.faults files) in
    refused_text r c.args.text.now c.in-Err.stop c.refused.result c.in-Err.ensures c.refused.ensures

pub returns-in-Err-load-clause-stop : goal.returns-in-Err-load-clause-stop
returns-in-Err-load-clause-stop g c =
    let files = c.args.files.now in
    let r = reading (g.F.Files.contents files) (g.F.Files.faults files) (g.F.Files.faults c.load.new.files) in
    unloaded_text r c.args.text.now c.in-Ok.source c.in-Err-load.stop c.unloaded.result c.in-Ok.ensures c.in-Err-load.ensures.loaded
    c.unloaded.ensures
