use Rattle.std.proofs.Common.{string_bytes}
use Rattle.fd_spell.specs.SpelledLaws.{in_range}
use Rattle.chaos_append.proofs.WordLaws.{not_six}
use Rattle.chaos_append.proofs.asked.asked_by.Goals as goal

pub returns-then-words-ne6-clause-asked : goal.returns-then-words-ne6-clause-asked
returns-then-words-ne6-clause-asked c = not_six string_bytes c.args.words.now c.if-words-ne6.true

pub returns-then-are_names-clause-fits : goal.returns-then-are_names-clause-fits
returns-then-are_names-clause-fits c =
    let bins = in_range 1 65536 c.as_str.result.now c.in_ok-bins.bins c.in_ok-bins.ensures in
    let steps = in_range 0 1000 c.as_str-2.result.now c.in_ok-steps.steps c.in_ok-steps.ensures in
    let count = in_range 1 1048576 c.as_str-3.result.now c.in_ok-count.count c.in_ok-count.ensures in
    let nodes = in_range 1 16 c.as_str-4.result.now c.in_ok-nodes.nodes c.in_ok-nodes.ensures in
    (bins.0, bins.1, steps.1, count.0, count.1, nodes.0, nodes.1)
