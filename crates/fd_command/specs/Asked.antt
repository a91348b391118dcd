-- What the words of a command line ask for.
use Rattle.std.specs.Prelude.{ℕ, ◌-◌, ◌^◌, Bool, true, false, List, Option, Some, None, if◌then◌else◌, codes, option_and_then, option_map}
use Rattle.std.specs.Str.{bytes_eq}
use Rattle.fd_spell.specs.Spelled.{number_in, is_name}
use Rattle.fd_command.specs.Options.{Text, source_name}
use Rattle.fd_command.specs.Uses.{Use, uses_of, value_of, has, no_repeats}
use Rattle.fd_command.specs.declared.request.Iterations.{Iterations}
use Rattle.fd_command.specs.declared.request.Iterations.TheVariants.{Owner, Most}
use Rattle.fd_command.specs.declared.request.Manner.{Manner}
use Rattle.fd_command.specs.declared.request.Turns.{Turns}
use Rattle.fd_command.specs.declared.request.Turns.TheVariants.{RoundRobin, Seeded}

-- where the program comes from
pub data AskedOrigin : Type 0 where
  file : Text → AskedOrigin
  mesh : ℕ → ℕ → AskedOrigin

pub record Asked : Type 0 where
  pub origin : AskedOrigin
  pub manner : Manner

abbrev pub file_of : Text → Option AskedOrigin
file_of source = if is_name source then Some (file source) else None

abbrev pub mesh_of : Option ℕ → Option ℕ → Option AskedOrigin
mesh_of (Some seed) (Some size) = Some (mesh seed size)
mesh_of (Some seed) None = None
mesh_of None size = None

-- by the source, the mesh and the size: a source and neither of the two, or both and no source
abbrev pub origin_of : Option Text → Option Text → Option Text → Option AskedOrigin
origin_of (Some source) None None = file_of source
origin_of (Some source) (Some seed) size = None
origin_of (Some source) None (Some size) = None
origin_of None (Some seed) (Some size) = mesh_of (number_in 0 (2 ^ 32 - 1) seed) (number_in 8 100000 size)
origin_of None (Some seed) None = None
origin_of None None size = None

-- the number of nodes, 1 to 16, and 4 where none is given
abbrev pub nodes_of : Option Text → Option ℕ
nodes_of None = Some 4
nodes_of (Some text) = number_in 1 16 text

-- the order of the nodes' turns: in round robin where no seed is given, and none may be given with `--plain`
abbrev pub turns_of : Option Text → Bool → Option Turns
turns_of None plain = Some RoundRobin
turns_of (Some text) true = None
turns_of (Some text) false = option_map Seeded (number_in 0 (2 ^ 32 - 1) text)

abbrev pub iterations_named : Text → Option Iterations
iterations_named text = if bytes_eq text (codes "owner") then Some Owner else (if bytes_eq text (codes "most") then Some Most else None)

-- the rule for the homes of iterations: that of owners where none is given
abbrev pub iterations_of : Option Text → Option Iterations
iterations_of None = Some Owner
iterations_of (Some text) = iterations_named text

-- whether a report is asked for, by whether `--report` and `--plain` stand: not both may stand
abbrev pub report_of : Bool → Bool → Option Bool
report_of true true = None
report_of true false = Some true
report_of false plain = Some false

abbrev pub manner_by : Option ℕ → Option Turns → Option Iterations → Option Bool → Bool → Option Manner
manner_by (Some nodes) (Some turns) (Some iterations) (Some report) plain =
    Some (record { nodes = nodes; turns = turns; iterations = iterations; report = report; plain = plain })
manner_by (Some nodes) (Some turns) (Some iterations) None plain = None
manner_by (Some nodes) (Some turns) None report plain = None
manner_by (Some nodes) None iterations report plain = None
manner_by None turns iterations report plain = None

-- by the nodes, the turns and the iterations, and whether `--report` and `--plain` stand
abbrev pub manner_of : Option Text → Option Text → Option Text → Bool → Bool → Option Manner
manner_of nodes turns iterations report plain = manner_by (nodes_of nodes) (turns_of turns plain) (iterations_of iterations)
    (report_of report plain) plain

abbrev pub both : Option AskedOrigin → Option Manner → Option Asked
both (Some origin) (Some manner) = Some (record { origin = origin; manner = manner })
both (Some origin) None = None
both None manner = None

-- where uses say that the program comes from
abbrev pub origin_in : List Use → Option AskedOrigin
origin_in uses = origin_of (value_of source_name uses) (value_of (codes "mesh") uses) (value_of (codes "size") uses)

-- how uses say that it runs
abbrev pub manner_in : List Use → Option Manner
manner_in uses =
    manner_of (value_of (codes "nodes") uses) (value_of (codes "turns") uses) (value_of (codes "iterations") uses)
    (has (codes "report") uses) (has (codes "plain") uses)

-- what uses ask for, where no name is used twice
abbrev pub asked_once : List Use → Option Asked
asked_once uses = if no_repeats uses then both (origin_in uses) (manner_in uses) else None

-- what words ask for, and none exactly where they aren't taken
abbrev pub asked : List Text → Option Asked
asked words = option_and_then asked_once (uses_of None words)
