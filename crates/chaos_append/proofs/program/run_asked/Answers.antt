use Rattle.std.proofs.Common.{ℕ, ◌≤ℤ◌, ◌<◌, get_or, inl, length, pos, refl, subst, sym}
use Rattle.std.specs.Prelude.{ℤ, Some}
use Rattle.fd_edge.specs.Comes.{stop_answers}
use Rattle.fd_edge.specs.Readings.{files_read}
use Rattle.chaos_append.specs.Asked.{shown_asked}
use Rattle.chaos_append.specs.Outcomes.{Accepted, IsCut, IsRun, plan_by, usage_line}
use Rattle.chaos_append.specs.Reading.{ReadingStops}
use Rattle.chaos_append.proofs.Answered.{all_inside, job_answers, same_plan}
use Rattle.chaos_append.proofs.program.run_asked.Goals as goal

pub run_append-run-requires-clause-in_bins : goal.run_append-run-requires-clause-in_bins
run_append-run-requires-clause-in_bins g c κs within =
    let bins = c.in-Ok.particles.bins in
    subst (λ n. (k : ℕ) (d : ℤ) → k < length bins → (pos 1 ≤ℤ get_or bins k d) × (get_or bins k d ≤ℤ pos n)) (sym c.from.ensures)
    (all_inside c.args.asked.now.bins bins c.in-Ok.ensures.read.bins.within)

pub returns-in-Ok-clause-answer : goal.returns-in-Ok-clause-answer
returns-in-Ok-clause-answer g c =
    let asked = c.args.asked.now in
    let r = files_read g.F.Files.contents g.F.Files.faults c.args.files.now c.read_particles.new.files in
    let bins = c.in-Ok.particles.bins in
    let values = c.in-Ok.particles.values in
    let steps = c.from-in-Ok.result in
    let count = c.from-in-Ok-2.result in
    let faults = g.S.Sink.faults in
    let written = g.S.Sink.written in
    let out = c.args.out.now in
    let after = c.end_run.new.out in
    job_answers (shown_asked asked) r (plan_by c.from.result steps asked.nodes count bins values) bins values c.run_append-run.result
    c.end_run.result
    (faults out) (faults after) (written out) (written after) c.args.mail.now c.run_append-run.new.mail
    (same_plan (shown_asked asked) c.from.result steps count bins values c.from.ensures c.from-in-Ok.ensures c.from-in-Ok-2.ensures)
    c.in-Ok.ensures.read
    c.run_append-run.ensures.text c.run_append-run.ensures.letters c.run_append-run.ensures.cut c.end_run.ensures.ends

pub returns-in-Err-clause-answer : goal.returns-in-Err-clause-answer
returns-in-Err-clause-answer g c =
    let w = shown_asked c.args.asked.now in
    let r = files_read g.F.Files.contents g.F.Files.faults c.args.files.now c.read_particles.new.files in
    let faults = g.S.Sink.faults in
    let written = g.S.Sink.written in
    let out = c.args.out.now in
    let after = c.end_stop.new.out in
    stop_answers usage_line (λ v. ReadingStops v r) (Accepted (Some w) r) (IsRun (Some w) r) (Some w) (IsCut (Some w) r) w c.in-Err.stop
    c.end_stop.result (faults out) (faults after) (written out) (written after) c.args.mail.now refl (inl refl) c.in-Err.ensures.read
    c.end_stop.ensures.ends
