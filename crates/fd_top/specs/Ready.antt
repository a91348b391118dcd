-- A source that can be run, what its run tells, and what stops a call before one.
use Rattle.std.specs.Prelude.{ℕ, ℤ, ◌≡◌, ◌≤◌, List, Option, Some, None, Result, Ok, Err}
use Rattle.fd_words.specs.declared.source.SourceStop.{SourceStop}
use Rattle.fd_words.specs.declared.source.SourceStop.TheVariants as stop
use Rattle.fd_edge.specs.Endings.{Outcome}
use Rattle.fd_edge.specs.Readings.{Reading}
use Rattle.fd_edge.specs.Lines.{data_line, unread_line}
use Rattle.fd_program.specs.Checks.{IsChecked}
use Rattle.fd_program.specs.Stores.{array_at, FitsStore}
use Rattle.fd_program.specs.declared.checked.Checked.{Checked}
use Rattle.fd_checks.specs.Shapes.{AreShaped}
use Rattle.fd_trace.specs.Way.{IsUnrolled}
use Rattle.fd_front.specs.Lines.{fault_line}
use Rattle.fd_front.specs.declared.source.Source.{Source}
use Rattle.fd_command.specs.Asked.{Asked, AskedOrigin}
use Rattle.fd_command.specs.Shown.{shown, HasMeshInRange}
use Rattle.fd_command.specs.declared.request.Manner.{Manner}
use Rattle.fd_command.specs.declared.request.Refused.{Refused}
use Rattle.fd_command.specs.declared.request.Refused.TheVariants as request
use Rattle.fd_command.specs.declared.request.Request.{Request}
use Rattle.fd_load.specs.Files.{file_of}
use Rattle.fd_load.specs.declared.store.LoadStop.{LoadStop}
use Rattle.fd_load.specs.declared.store.LoadStop.TheVariants as load
use Rattle.chaos_holdings.specs.declared.session.Session.{Session}
use Rattle.fd_top.specs.Outcomes.{AreAccepted, rule_of}
use Rattle.fd_top.specs.declared.ready.Call.{Call}
use Rattle.fd_top.specs.declared.ways.RunEnd.{RunEnd}

-- what a request asks for
abbrev pub Tells : Option Asked → Result Request Refused → Type 0
Tells asked (Ok r) = asked ≡ Some (shown r)
Tells asked (Err request.NotTaken) = asked ≡ None
Tells asked (Err request.Memory) = Unit {0}

-- on one to sixteen nodes
pub record HasNodes (m : Manner) : Type 0 where
  pub some : 1 ≤ m.nodes
  pub few : m.nodes ≤ 16

-- a request, if there is one, keeps to the bounds
abbrev pub IsSoundRequest : Result Request Refused → Type 0
IsSoundRequest (Ok r) = HasNodes r.manner × HasMeshInRange r.origin
IsSoundRequest (Err refused) = Unit {0}

-- a checked program whose steps pass no limit, and a store that fits
pub record IsRunnable (s : Source) (store : List (List ℤ)) : Type 0 where
  pub shaped : AreShaped s.checked.sites
  pub sound : IsChecked s.checked
  pub trace : IsUnrolled s.checked (Ok s.trace)
  pub fits : FitsStore s.checked.arrays store

-- so for a call: one to sixteen nodes, and such a source and store
pub record CanRun (c : Call) : Type 0 where
  pub nodes : HasNodes c.manner
  pub ready : IsRunnable c.ready.source c.ready.store

-- what is asked for is this call: its source and data are accepted
pub record IsCalled (request : Option Asked) (r : Reading) (c : Call) : Type 0 where
  pub origin : AskedOrigin
  pub taken : request ≡ Some (record { origin = origin; manner = c.manner })
  pub are : AreAccepted origin r c.ready.source c.ready.store

abbrev pub session_for : Source → Manner → Session
session_for s m = record { checked = s.checked; trace = s.trace; nodes = m.nodes; rule = rule_of m.iterations }

-- what a run tells, with the letters of its nodes
abbrev pub outcome_with : {A : Type 0} → RunEnd → Option A → Outcome A
outcome_with e letters = record { status = e.status; bytes = e.text; letters = letters }

-- the line of words that aren't taken
abbrev pub IsUntaken : List ℕ → Refused → ℕ → List ℕ → Type 0
IsUntaken usage request.NotTaken status line = (status ≡ 2) × (line ≡ usage)
IsUntaken usage request.Memory status line = ⊥

-- the line of a text that isn't accepted
abbrev pub IsRefused : SourceStop → ℕ → List ℕ → Type 0
IsRefused (stop.Fault fault) status line = (status ≡ 65) × (line ≡ fault_line fault)
IsRefused stop.Memory status line = ⊥

-- the line of data files that gave no store
abbrev pub IsUnloaded : Checked → LoadStop → ℕ → List ℕ → Type 0
IsUnloaded c (load.Unread array) status line = (status ≡ 69) × (line ≡ unread_line (file_of (array_at c.arrays array)))
IsUnloaded c (load.Fault array fault) status line = (status ≡ 66) × (line ≡ data_line (array_at c.arrays array).name fault)
IsUnloaded c load.Memory status line = ⊥
