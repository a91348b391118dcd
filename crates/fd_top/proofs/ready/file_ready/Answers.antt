use Rattle.std.proofs.Common.{refl, ap, Err}
use Rattle.fd_command.specs.Asked.{file}
use Rattle.fd_edge.specs.Lines.{unread_line}
use Rattle.fd_edge.specs.Readings.{files_read}
use Rattle.fd_top.specs.Outcomes.{ReadingStops, too_long, too_long_line, unread}
use Rattle.fd_top.specs.declared.ready.Ready.{Ready}
use Rattle.fd_top.proofs.Readying.{ok_more, err_more, says_line, stop_line, file_gives, file_stops}
use Rattle.fd_top.proofs.ready.file_ready.Goals as goal

pub returns-in-Ok-clause-ready : goal.returns-in-Ok-clause-ready
returns-in-Ok-clause-ready g c =
    ok_more _ _ _
    (λ (a : Ready) given. file_gives c.args.name.now _ _ _ _ _ _ _ c.as_slice.ensures c.in-Ok.ensures.whole c.in-Ok.ensures.short
    c.read_whole.ensures.same c.read_whole.ensures.later a.source a.store given)
    c.text_ready.ensures.ready

pub returns-in-Ok-clause-stop : goal.returns-in-Ok-clause-stop
returns-in-Ok-clause-stop g c =
    err_more _ _ _
    (file_stops c.args.name.now _ _ _ _ _ _ _ c.as_slice.ensures c.in-Ok.ensures.whole c.in-Ok.ensures.short
    c.read_whole.ensures.same c.read_whole.ensures.later)
    c.text_ready.ensures.stop

pub returns-in-Err-TooLong-clause-stop : goal.returns-in-Err-TooLong-clause-stop
unfolding too_long_line
returns-in-Err-TooLong-clause-stop g c =
    let r = files_read g.F.Files.contents g.F.Files.faults c.args.files.now c.read_whole.new.files in
    says_line (ReadingStops (file c.args.name.now) r) 65 too_long_line c.stop_with.result
    (too_long (c.in-Err-TooLong.ensures.long (ap Err c.in-Err-TooLong.field-0-is))) c.stop_with.ensures

pub returns-in-Err-Failed-clause-stop : goal.returns-in-Err-Failed-clause-stop
returns-in-Err-Failed-clause-stop g c =
    let r = files_read g.F.Files.contents g.F.Files.faults c.args.files.now c.read_whole.new.files in
    stop_line (ReadingStops (file c.args.name.now) r) 69 (unread_line c.args.name.now) c.unread_line.result c.of.result c.of.ensures
    (unread c.args.name.now (refl, c.in-Err-Failed.ensures.failed (ap Err c.in-Err-Failed.field-0-is))) c.unread_line.ensures
