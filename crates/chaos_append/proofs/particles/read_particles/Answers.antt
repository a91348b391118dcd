use Rattle.std.proofs.Common.{subst}
use Rattle.fd_edge.specs.Endings.{StopsAs}
use Rattle.fd_edge.specs.Readings.{files_read}
use Rattle.fd_edge.specs.Unusable.{IsUnusable}
use Rattle.chaos_append.specs.Asked.{shown_asked}
use Rattle.chaos_append.proofs.Reading.{no_values}
use Rattle.chaos_append.proofs.particles.read_particles.Goals as goal

pub returns-in-Err-read_numbers-clause-read : goal.returns-in-Err-read_numbers-clause-read
returns-in-Err-read_numbers-clause-read g c =
    let asked = c.args.asked.now in
    let told = g.F.Files.contents in
    let counts = g.F.Files.faults in
    let old = c.args.files.now in
    let mid = c.read_bins.new.files in
    let new = c.read_numbers.new.files in
    let r = files_read told counts mid new in
    no_values (shown_asked asked) (told old) (told mid) (counts old) (counts mid) (counts new) c.in-Ok.bins c.stop_for.result
    c.read_bins.ensures.contents
    c.read_bins.ensures.faults (record { read = c.in-Ok.ensures.read.read; within = c.in-Ok.ensures.read.within })
    (subst (λ n. StopsAs (IsUnusable r n asked.value_file.now) c.stop_for.result) c.from.ensures
    (c.stop_for.ensures r c.from.result c.in-Err-read_numbers.ensures.read))
