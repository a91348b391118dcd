use Rattle.std.proofs.Common.{Ok, subst}
use Rattle.fd_edge.specs.Endings.{StopsAs}
use Rattle.fd_edge.specs.Files.{Reads}
use Rattle.fd_edge.specs.Readings.{files_read}
use Rattle.fd_edge.specs.Unusable.{IsUnusable}
use Rattle.chaos_append.specs.Asked.{shown_asked}
use Rattle.chaos_append.proofs.Reading.{bins_end, no_bins}
use Rattle.chaos_append.proofs.particles.read_bins.Goals as goal

pub returns-in-Ok-clause-read : goal.returns-in-Ok-clause-read
returns-in-Ok-clause-read g c =
    let asked = c.args.asked.now in
    let told = g.F.Files.contents c.args.files.now in
    let r = files_read g.F.Files.contents g.F.Files.faults c.args.files.now c.read_numbers.new.files in
    bins_end (shown_asked asked) r c.in-Ok.numbers c.bins_within.result
    (subst (λ n. Reads told asked.bin_file.now n (Ok c.in-Ok.numbers)) c.from.ensures c.in-Ok.ensures.read) c.bins_within.ensures

pub returns-in-Err-clause-read : goal.returns-in-Err-clause-read
returns-in-Err-clause-read g c =
    let asked = c.args.asked.now in
    let r = files_read g.F.Files.contents g.F.Files.faults c.args.files.now c.read_numbers.new.files in
    no_bins (shown_asked asked) r c.stop_for.result
    (subst (λ n. StopsAs (IsUnusable r n asked.bin_file.now) c.stop_for.result) c.from.ensures
    (c.stop_for.ensures r c.from.result c.in-Err.ensures.read))
