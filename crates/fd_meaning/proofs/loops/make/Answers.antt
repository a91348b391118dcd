use Rattle.std.proofs.Common.{◌<ℤ◌, pos, length, arith}
use Rattle.std.proofs.lemmas.Int.{ints}
use Rattle.fd_words.specs.Lists.{list_at}
use Rattle.fd_program.specs.Loops.{changed}
use Rattle.fd_program.specs.Stores.{place_of, element}
use Rattle.fd_meaning.proofs.Steps.{not_written, place_from}
use Rattle.fd_meaning.proofs.loops.make.Goals as goal

pub returns-else-change-from : goal.returns-else-change-from
returns-else-change-from c =
    let w = c.args.change.now in
    let s = c.args.store.now in
    let beyond : pos (length (list_at s w.array)) <ℤ w.subscript = omega (arith, ints) in
    not_written s w.array (place_of w.subscript) (changed w.operator (element s w.array w.subscript) w.value)
    (place_from w.subscript _ beyond)
