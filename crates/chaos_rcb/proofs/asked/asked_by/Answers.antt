use Rattle.std.proofs.Common.{string_bytes}
use Rattle.fd_spell.specs.SpelledLaws.{in_range}
use Rattle.chaos_rcb.proofs.WordLaws.{too_few, file_count}
use Rattle.chaos_rcb.proofs.asked.asked_by.Goals as goal

pub returns-in_default-clause-asked : goal.returns-in_default-clause-asked
returns-in_default-clause-asked c = too_few string_bytes c.args.words.now c.in_default.len_below

pub returns-then-are_files-clause-fits : goal.returns-then-are_files-clause-fits
returns-then-are_files-clause-fits c =
    let parts = in_range 1 64 c.as_str.result.now c.in_ok-parts.parts c.in_ok-parts.ensures in
    let count = in_range 1 1048576 c.as_str-2.result.now c.in_ok-count.count c.in_ok-count.ensures in
    let nodes = in_range 1 16 c.as_str-3.result.now c.in_ok-nodes.nodes c.in_ok-nodes.ensures in
    let files = file_count string_bytes _ c.if-are_files.ensures in
    (parts.0, parts.1, c.if-parts-count.true, count.1, nodes.0, nodes.1, files.0, files.1)
