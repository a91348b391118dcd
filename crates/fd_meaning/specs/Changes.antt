-- The changes of a loop: what its statements write, computed before any of it is written.
use Rattle.std.specs.Prelude.{List, map}
use Rattle.fd_program.specs.Loops.{Write}
use Rattle.fd_meaning.specs.declared.change.Change.{Change}

abbrev pub write_of_change : Change → Write
write_of_change c = record { array = c.array; subscript = c.subscript; operator = c.operator; value = c.value }

abbrev pub writes_of_changes : List Change → List Write
writes_of_changes changes = map write_of_change changes
