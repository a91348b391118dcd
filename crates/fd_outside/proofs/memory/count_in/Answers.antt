use Rattle.std.proofs.Common.{◌∙◌, ap, rules, slice_set, ℕ}
use Rattle.fd_outside.specs.Named.{marked}
use Rattle.fd_outside.proofs.Named.{changed_held}
use Rattle.fd_outside.proofs.memory.count_in.Goals as goal

pub returns-then-eq : goal.returns-then-eq
returns-then-eq c =
    let file = c.index_mut-file.result.now in
    ap (λ (n : ℕ). slice_set c.loop-place.files.items c.loop-place.place (record file { faults = n })) c.one_more-file.ensures
    ∙ changed_held marked c.loop-place.files.items c.args.files.now.items c.loop-place.place file c.args.name.now (search rules)
    (search rules) (search rules) c.loop-place.invariant.left
