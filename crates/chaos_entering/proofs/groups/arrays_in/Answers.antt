use Rattle.std.proofs.Common.{sym, ap, ◌∙◌, ◌==◌}
use Rattle.std.specs.Prelude.{count_by}
use Rattle.fd_program.specs.declared.array.ArrayFacts.{ArrayFacts}
use Rattle.chaos_entering.proofs.GroupLaws.{arrays_counted}
use Rattle.chaos_entering.proofs.groups.arrays_in.Goals as goal

pub returns-clause-number : goal.returns-clause-number
returns-clause-number c =
    c.those_of.ensures.number ∙ ap (count_by (λ (a : ArrayFacts). a.decomposition == c.args.decomposition)) c.as_slice.ensures
    ∙ sym (arrays_counted c.args.checked.now c.args.decomposition)
