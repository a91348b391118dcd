use Rattle.std.proofs.Common.{sym, subst}
use Rattle.std.specs.Prelude.{IfOk, IfErr}
use Rattle.fd_command.specs.Shown.{shown_origin}
use Rattle.fd_command.specs.declared.request.Origin.{Origin}
use Rattle.fd_edge.specs.Endings.{StopsAs}
use Rattle.fd_edge.specs.Readings.{reading}
use Rattle.fd_top.specs.Outcomes.{AreAccepted, ReadingStops}
use Rattle.fd_top.proofs.ready.origin_ready.Goals as goal

pub returns-in-File-clause-ready : goal.returns-in-File-clause-ready
returns-in-File-clause-ready g c =
    let r = reading (g.F.Files.contents c.args.files.now) (g.F.Files.faults c.args.files.now) (g.F.Files.faults c.file_ready.new.files) in
    subst (λ (o : Origin). IfOk c.file_ready.result (λ a. AreAccepted (shown_origin o) r a.source a.store)) (sym c.in-File.is)
    c.file_ready.ensures.ready

pub returns-in-File-clause-stop : goal.returns-in-File-clause-stop
returns-in-File-clause-stop g c =
    let r = reading (g.F.Files.contents c.args.files.now) (g.F.Files.faults c.args.files.now) (g.F.Files.faults c.file_ready.new.files) in
    subst (λ (o : Origin). IfErr c.file_ready.result (StopsAs (ReadingStops (shown_origin o) r)))
    (sym c.in-File.is) c.file_ready.ensures.stop

pub returns-in-Mesh-clause-ready : goal.returns-in-Mesh-clause-ready
returns-in-Mesh-clause-ready g c =
    let r = reading (g.F.Files.contents c.args.files.now) (g.F.Files.faults c.args.files.now) (g.F.Files.faults c.args.files.now) in
    subst (λ (o : Origin). IfOk c.mesh_ready.result (λ a. AreAccepted (shown_origin o) r a.source a.store)) (sym c.in-Mesh.is)
    (c.mesh_ready.ensures.ready r)

pub returns-in-Mesh-clause-stop : goal.returns-in-Mesh-clause-stop
returns-in-Mesh-clause-stop g c =
    let r = reading (g.F.Files.contents c.args.files.now) (g.F.Files.faults c.args.files.now) (g.F.Files.faults c.args.files.now) in
    subst (λ (o : Origin). IfErr c.mesh_ready.result (StopsAs (ReadingStops (shown_origin o) r)))
    (sym c.in-Mesh.is) (c.mesh_ready.ensures.stop r)
