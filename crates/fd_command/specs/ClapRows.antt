-- What the rows of clap's matches say.
use Rattle.std.specs.Prelude.{Bool, List, Option, codes}
use Rattle.clap.specs.Walk.{Row, first_of}
use Rattle.fd_command.specs.Options.{source_name}
use Rattle.fd_command.specs.Asked.{AskedOrigin, manner_of, origin_of}
use Rattle.fd_command.specs.declared.request.Manner.{Manner}

abbrev pub origin_by : List Row → Option AskedOrigin
origin_by rows = origin_of (first_of source_name rows) (first_of (codes "mesh") rows) (first_of (codes "size") rows)

-- where it is known whether `--report` and `--plain` stand
abbrev pub manner_with : List Row → Bool → Bool → Option Manner
manner_with rows report plain = manner_of (first_of (codes "nodes") rows) (first_of (codes "turns") rows)
    (first_of (codes "iterations") rows) report plain
