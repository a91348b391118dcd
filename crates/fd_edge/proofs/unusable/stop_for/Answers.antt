use Rattle.std.proofs.Common.{◌≡◌, sym, subst, Err}
use Rattle.std.specs.Prelude.{IfOk}
use Rattle.fd_outside.specs.Causes.{Rose}
use Rattle.fd_edge.specs.Endings.{StopsAs}
use Rattle.fd_edge.specs.Files.{IsFileEnd, HasDataFault}
use Rattle.fd_edge.specs.Lines.{data_line, unread_line}
use Rattle.fd_edge.specs.Unusable.{IsUnusable, stops_with}
use Rattle.fd_edge.proofs.unusable.stop_for.Goals as goal

pub returns-in-Unread : goal.returns-in-Unread
returns-in-Unread c r count h =
    let name = c.args.name.now in
    let rose : Rose (r.before name) (r.now name) = subst (λ s. IsFileEnd r name count (Err s)) c.in-Unread.is h in
    subst (StopsAs (IsUnusable r count name)) (sym c.of.ensures)
    (stops_with r count name 69 c.unread_line.result (unread_line name) c.unread_line.ensures (IsUnusable.unread rose))

pub returns-in-Fault : goal.returns-in-Fault
returns-in-Fault c r count h =
    let name = c.args.name.now in
    let fault = c.in-Fault.fault in
    let has : HasDataFault r.contents name count fault = subst (λ s. IsFileEnd r name count (Err s)) c.in-Fault.is h in
    subst (StopsAs (IsUnusable r count name)) (sym c.of-in-Fault.ensures)
    (stops_with r count name 66 c.fault_line.result (data_line name fault)
    (subst (λ b. IfOk c.fault_line.result (λ l. l ≡ data_line b fault)) c.as_bytes.ensures.value c.fault_line.ensures)
    (IsUnusable.faulty fault has))
