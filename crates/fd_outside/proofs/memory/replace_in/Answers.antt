use Rattle.std.proofs.Common.{rules}
use Rattle.fd_outside.specs.Named.{refilled}
use Rattle.fd_outside.proofs.Named.{changed_held}
use Rattle.fd_outside.proofs.memory.replace_in.Goals as goal

pub returns-then-eq : goal.returns-then-eq
returns-then-eq c = changed_held (refilled c.args.bytes) c.loop-place.files.items c.args.files.now.items c.loop-place.place
    c.index_mut-file.result.now c.args.name.now (search rules) (search rules) (search rules) c.loop-place.invariant.left
