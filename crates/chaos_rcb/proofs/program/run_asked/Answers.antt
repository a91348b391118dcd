use Rattle.std.proofs.Common.{◌∙◌, inl, map, refl, string_bytes, subst, sym}
use Rattle.std.specs.Prelude.{Some}
use Rattle.std.proofs.lemmas.List.{length-map}
use Rattle.fd_edge.specs.Comes.{stop_answers}
use Rattle.fd_edge.specs.Endings.{StopsAs}
use Rattle.fd_edge.specs.Readings.{files_read}
use Rattle.chaos_rcb.specs.Asked.{shown_asked}
use Rattle.chaos_rcb.specs.Columns.{AreRead, NoColumns}
use Rattle.chaos_rcb.specs.Outcomes.{Accepted, IsCut, IsRun, IsStop, plan_by, usage_line}
use Rattle.chaos_rcb.proofs.Answered.{job_answers, same_plan, shares_of}
use Rattle.chaos_rcb.proofs.Signed.{column_count, columns_counted, columns_signed}
use Rattle.chaos_rcb.proofs.program.run_asked.Goals as goal

pub returns-in-Err-clause-answer : goal.returns-in-Err-clause-answer
returns-in-Err-clause-answer g c =
    let w = shown_asked c.args.asked.now in
    let r = files_read g.F.Files.contents g.F.Files.faults c.args.files.now c.columns.new.files in
    let faults = g.S.Sink.faults in
    let written = g.S.Sink.written in
    let out = c.args.out.now in
    let after = c.end_stop.new.out in
    stop_answers usage_line (IsStop r) (Accepted (Some w) r) (IsRun (Some w) r) (Some w) (IsCut (Some w) r) w c.in-Err.stop
    c.end_stop.result (faults out) (faults after) (written out) (written after) c.args.mail.now refl (inl refl)
    (subst (λ n. StopsAs (NoColumns r n w.files) c.in-Err.stop) c.from.ensures c.in-Err.ensures.read) c.end_stop.ensures.ends

pub run_bisect-requires-clause-axes : goal.run_bisect-requires-clause-axes
run_bisect-requires-clause-axes g c κs within =
    let files = c.args.asked.now.files.now in
    sym (length-map files string_bytes)
    ∙ column_count (g.F.Files.contents c.args.files.now) c.from.result (map string_bytes files) c.in-Ok.columns c.in-Ok.ensures.read

pub run_bisect-requires-clause-count : goal.run_bisect-requires-clause-count
run_bisect-requires-clause-count g c κs within k d low =
    columns_counted (g.F.Files.contents c.args.files.now) c.from.result (map string_bytes c.args.asked.now.files.now) c.in-Ok.columns
    c.in-Ok.ensures.read k d low
    ∙ c.from.ensures ∙ sym c.from-in-Ok.ensures

pub run_bisect-requires-clause-signed : goal.run_bisect-requires-clause-signed
run_bisect-requires-clause-signed g c κs within =
    columns_signed (g.F.Files.contents c.args.files.now) c.from.result (map string_bytes c.args.asked.now.files.now) c.in-Ok.columns
    c.in-Ok.ensures.read

pub returns-in-Ok-clause-answer : goal.returns-in-Ok-clause-answer
returns-in-Ok-clause-answer g c =
    let asked = c.args.asked.now in
    let w = shown_asked asked in
    let told = g.F.Files.contents c.args.files.now in
    let r = files_read g.F.Files.contents g.F.Files.faults c.args.files.now c.columns.new.files in
    let columns = c.in-Ok.columns in
    let faults = g.S.Sink.faults in
    let written = g.S.Sink.written in
    let out = c.args.out.now in
    let after = c.end_run.new.out in
    let signed = columns_signed told c.from.result w.files columns c.in-Ok.ensures.read in
    job_answers w r (plan_by w.parts c.from-in-Ok.result w.nodes columns) columns c.run_bisect.result c.end_run.result
    (faults out) (faults after) (written out) (written after) c.args.mail.now c.run_bisect.new.mail
    (same_plan w c.from-in-Ok.result columns c.from-in-Ok.ensures)
    (subst (λ n. AreRead told n w.files columns) c.from.ensures c.in-Ok.ensures.read)
    (shares_of w columns signed c.requires.parts.0 c.requires.parts.1 c.requires.parts.2 c.requires.count)
    c.run_bisect.ensures.text c.run_bisect.ensures.letters c.run_bisect.ensures.cut c.end_run.ensures.ends
