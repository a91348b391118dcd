use Rattle.std.proofs.Common.{ap, ◌∙◌}
use Rattle.chaos_executing.specs.Ghosts.{ghosts_below}
use Rattle.chaos_executing.proofs.Tables.{ghosts_by_peaks}
use Rattle.chaos_executing.proofs.ghosts.empty_ghosts.Goals as goal

pub returns-clause-ghosts : goal.returns-clause-ghosts
returns-clause-ghosts c =
    c.in_ok-ghosts.ensures
    ∙ ap (λ arrays. ghosts_below arrays c.as_slice-2.result.now) c.as_slice.ensures
    ∙ ap (ghosts_below c.args.facts.now.arrays) (c.as_slice-2.ensures.value ∙ c.in_ok-peaks.ensures.peaks)
    ∙ ghosts_by_peaks c.args.facts.now c.args.tables.now
