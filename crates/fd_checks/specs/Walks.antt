-- The statements of a program in order: DISTRIBUTE, PRINT, DO and FORALL, resolved, and their faults.
use Rattle.std.specs.Prelude.{◌≡◌, ℕ, ◌-◌, Bool, false, not, ◌||◌, ◌&&◌, ◌==◌, if◌then◌else◌, List, [], ◌∷◌, ◌++◌, length, map, fold}
use Rattle.std.specs.Prelude.{replicate, slice_get, unwrap_or, nat_le, nat_lt, Option, Some, None, is_some, Result, Ok, Err}
use Rattle.std.specs.List.{list_any}
use Rattle.chaos_dist.specs.declared.shape.Shape.TheVariants as shape
use Rattle.chaos_dist.specs.declared.step_form.StepForm.{StepForm}
use Rattle.chaos_dist.specs.declared.step_form.StepForm.TheVariants.{Regular, Map}
use Rattle.fd_words.specs.declared.source.SourcePlace.{SourcePlace}
use Rattle.fd_words.specs.declared.source.SourceCause.TheVariants as cause
use Rattle.fd_words.specs.declared.source.SourceFault.{SourceFault}
use Rattle.fd_words.specs.declared.source.SourceStop.{SourceStop}
use Rattle.fd_words.specs.declared.source.SourceStop.TheVariants.{Fault, Memory}
use Rattle.fd_syntax.specs.declared.program.Program.{Program}
use Rattle.fd_syntax.specs.declared.scalar.Scalar.{Scalar}
use Rattle.fd_syntax.specs.declared.statement.Form.{Form}
use Rattle.fd_syntax.specs.declared.statement.Form.TheVariants as form
use Rattle.fd_syntax.specs.declared.statement.Loop.{Loop}
use Rattle.fd_syntax.specs.declared.statement.Statement.{Statement}
use Rattle.fd_syntax.specs.declared.statement.Statement.TheVariants.{Distribute, Print, Do, Forall}
use Rattle.fd_program.specs.Places.{decomposition_of}
use Rattle.fd_program.specs.declared.checked.Checked.{Checked}
use Rattle.fd_program.specs.declared.checked.CheckedStatement.{CheckedStatement}
use Rattle.fd_program.specs.declared.checked.CheckedStatement.TheVariants as checked
use Rattle.fd_program.specs.declared.site.Site.{Site}
use Rattle.fd_scope.specs.declared.head.Head.{Head}
use Rattle.fd_scope.specs.declared.names.Known.{Known}
use Rattle.fd_scope.specs.declared.names.Meaning.{Meaning}
use Rattle.fd_scope.specs.declared.names.Meaning.TheVariants.{Constant, Array, Decomposition}
use Rattle.fd_scope.specs.declared.scope.ArrayEntry.{ArrayEntry}
use Rattle.fd_scope.specs.declared.scope.Scope.{Scope}
use Rattle.fd_scope.specs.declared.scope.Tables.{Tables}
use Rattle.fd_scope.specs.Faults.{fault_if, along, IsLeast}
use Rattle.fd_scope.specs.Heads.{head_of, head_faults}
use Rattle.fd_scope.specs.Names.{known, name_eq}
use Rattle.fd_scope.specs.Scalars.{scalar_within, scalar_faults}
use Rattle.fd_scope.specs.Scope.{is_declared, extent_within, bad_extent, entry_extent_of}
use Rattle.fd_loops.specs.declared.draft.Draft.{Draft}
use Rattle.fd_resolve.specs.declared.around.Around.{Around}
use Rattle.fd_checks.specs.declared.walk.Open.{Open}
use Rattle.fd_checks.specs.declared.walk.Walk.{Walk}
use Rattle.fd_loops.specs.Bodies.{after_body, body_faults}
use Rattle.fd_loops.specs.Drafts.{start_draft}
use Rattle.fd_resolve.specs.Resolve.{array_called, array_or_first, array_unknown, resolved_scalar, scalar_unknowns}

-- ---- the DOs around a statement

-- those whose body has this statement, with one statement fewer left behind it
abbrev pub passed : List Open → List Open
passed [] = []
passed (o ∷ os) = if nat_lt 0 o.left then record o { left = o.left - 1 } ∷ passed os else passed os

abbrev pub variables_of : List Open → List (List ℕ)
variables_of list = map (λ (o : Open). o.name) list

abbrev pub around : Walk → SourcePlace → Around
around w at = record { here = at; variables = variables_of w.outer }

-- Twice: a variable or an index is a declared name or an enclosing variable
abbrev pub taken_faults : Head → Around → List ℕ → SourcePlace → List SourceFault
taken_faults h a name at = fault_if (is_declared h.scope name || list_any (name_eq name) a.variables) at (cause.Twice name)

abbrev pub with_statement : Walk → CheckedStatement → Walk
with_statement w s = record w { statements = w.statements ++ s ∷ [] }

-- ---- DISTRIBUTE

-- an array that isn't aligned has its own decomposition
abbrev pub own_decomposition : Head → ℕ → Option ArrayEntry → Option ℕ
own_decomposition h number None = None
own_decomposition h number (Some e) = if is_some e.aligned then None else Some (decomposition_of h.tables.arrays number)

-- the decomposition of a name: a named one, or the own one of an array
abbrev pub meant_decomposition : Head → Option Known → Option ℕ
meant_decomposition h None = None
meant_decomposition h (Some k) = of_meaning k.meaning
  where
    of_meaning : Meaning → Option ℕ
    of_meaning (Constant value) = None
    of_meaning (Array number) = own_decomposition h number (slice_get h.scope.arrays number)
    of_meaning (Decomposition number) = Some number

abbrev pub array_extent : Option ArrayEntry → Option ℕ
array_extent None = None
array_extent (Some e) = e.extent

-- the extent of an array or a decomposition, where it has a value
abbrev pub meant_extent : Head → Option Known → Option ℕ
meant_extent h None = None
meant_extent h (Some k) = of_meaning k.meaning
  where
    of_meaning : Meaning → Option ℕ
    of_meaning (Constant value) = None
    of_meaning (Array number) = array_extent (slice_get h.scope.arrays number)
    of_meaning (Decomposition number) = entry_extent_of h.scope.layouts (Some number)

abbrev pub is_other_extent : Option ℕ → Option ℕ → Bool
is_other_extent None whole = false
is_other_extent (Some extent) None = false
is_other_extent (Some extent) (Some whole) = not (extent == whole)

-- BadExtent of CYCLIC(b); Unknown and MapLength of a map array
abbrev pub map_faults : Head → Around → List ℕ → List ℕ → SourcePlace → List SourceFault
map_faults h a name map_name map_at =
    array_unknown h a map_name map_at
    ++ fault_if (is_some (array_called h a map_name)
    && is_other_extent (meant_extent h (known h.scope.names a.here map_name)) (meant_extent h (known h.scope.names a.here name))) map_at
    cause.MapLength

abbrev pub size_of : Head → Around → Scalar → Option ℕ
size_of h a size = extent_within (scalar_within h.scope.names a.here size)

abbrev pub size_faults : Head → Around → Scalar → SourcePlace → List SourceFault
size_faults h a size at = scalar_faults h.scope.names a.here h.loops size ++ bad_extent at (scalar_within h.scope.names a.here size)

abbrev pub form_faults : Head → Around → List ℕ → Form → List SourceFault
form_faults h a name form.Block = []
form_faults h a name form.Cyclic = []
form_faults h a name (form.BlockCyclic size at) = size_faults h a size at
form_faults h a name (form.Map map_name map_at) = map_faults h a name map_name map_at

abbrev pub form_resolved : Head → Around → Form → StepForm
form_resolved h a form.Block = Regular shape.Block
form_resolved h a form.Cyclic = Regular shape.Cyclic
form_resolved h a (form.BlockCyclic size at) = Regular (shape.BlockCyclic (unwrap_or (size_of h a size) 1))
form_resolved h a (form.Map map_name map_at) = Map (array_or_first h a map_name)

-- Unknown: no named decomposition and no array of its own
abbrev pub distribute_faults : Head → Around → List ℕ → SourcePlace → Form → List SourceFault
distribute_faults h a name name_at form =
    fault_if (not (is_some (meant_decomposition h (known h.scope.names a.here name)))) name_at (cause.Unknown name)
    ++ form_faults h a name form

abbrev pub distribute_resolved : Head → Around → SourcePlace → List ℕ → Form → CheckedStatement
distribute_resolved h a at name form =
    checked.Distribute at (unwrap_or (meant_decomposition h (known h.scope.names a.here name)) 0) (form_resolved h a form)

-- ---- DO

abbrev pub do_faults : Head → Around → List ℕ → SourcePlace → Scalar → Scalar → List SourceFault
do_faults h a variable variable_at low high = taken_faults h a variable variable_at ++ (scalar_unknowns h a low ++ scalar_unknowns h a high)

abbrev pub after_do : Head → Around → Walk → SourcePlace → List ℕ → Scalar → Scalar → ℕ → Walk
after_do h a w at variable low high inside = record w {
  outer = w.outer ++ record { name = variable; left = inside } ∷ [];
  statements = w.statements ++ checked.Do at (resolved_scalar h a low) (resolved_scalar h a high) inside ∷ [];
}

-- ---- FORALL

abbrev pub draft_of : Head → Around → List ℕ → Loop → Draft
draft_of h a used loop = fold (after_body h a loop.index) (start_draft used) loop.body

abbrev pub site_of : Head → Around → Loop → Draft → Site
site_of h a loop d = record {
  at = loop.at;
  low = resolved_scalar h a loop.low;
  high = resolved_scalar h a loop.high;
  body = d.body;
  references = d.references;
  terms = d.terms;
}

abbrev pub with_site : Walk → Site → List ℕ → Walk
with_site w site used = record w {
  used = used;
  sites = w.sites ++ site ∷ [];
  statements = w.statements ++ checked.Forall (length w.sites) ∷ [];
}

abbrev pub walked_loop : Head → Around → Walk → Loop → Walk
walked_loop h a w loop = with_site w (site_of h a loop (draft_of h a w.used loop)) (draft_of h a w.used loop).used

-- TooManyLoops: there are 128 before this one
abbrev pub loop_head_faults : Head → Around → Walk → Loop → List SourceFault
loop_head_faults h a w loop =
    fault_if (nat_le 128 (length w.sites)) loop.at cause.TooManyLoops
    ++ (taken_faults h a loop.index loop.index_at
    ++ (scalar_unknowns h a loop.low ++ scalar_unknowns h a loop.high))

abbrev pub loop_faults : Head → Around → Walk → Loop → List SourceFault
loop_faults h a w loop =
    loop_head_faults h a w loop
    ++ along (after_body h a loop.index) (body_faults h a loop.index) (start_draft w.used) loop.body

-- ---- a statement

abbrev pub after_statement : Head → Walk → Statement → Walk
after_statement h w (Distribute at name name_at form) = with_statement w (distribute_resolved h (around w at) at name form)
after_statement h w (Print at name name_at) = with_statement w (checked.Print at (array_or_first h (around w at) name))
after_statement h w (Do at variable variable_at low high inside) = after_do h (around w at) w at variable low high inside
after_statement h w (Forall loop) = walked_loop h (around w loop.at) w loop

abbrev pub statement_faults : Head → Walk → Statement → List SourceFault
statement_faults h w (Distribute at name name_at form) = distribute_faults h (around w at) name name_at form
statement_faults h w (Print at name name_at) = array_unknown h (around w at) name name_at
statement_faults h w (Do at variable variable_at low high inside) = do_faults h (around w at) variable variable_at low high
statement_faults h w (Forall loop) = loop_faults h (around w loop.at) w loop

abbrev pub past_open : Walk → Walk
past_open w = record w { outer = passed w.outer }

abbrev pub step : Head → Walk → Statement → Walk
step h w s = after_statement h (past_open w) s

abbrev pub step_faults : Head → Walk → Statement → List SourceFault
step_faults h w s = statement_faults h (past_open w) s

-- ---- the program

abbrev pub start : Head → Walk
start h = record { outer = []; used = replicate (length h.tables.layouts) 0; sites = []; statements = [] }

abbrev pub walked : Head → Program → Walk
walked h p = fold (step h) (start h) p.statements

-- a program with a head, and no statement
abbrev pub headed : Tables → Scope → Checked
headed t s = record { arrays = t.arrays; layouts = t.layouts; reads = s.reads; outputs = s.outputs; sites = []; statements = [] }

abbrev pub resolved_in : Head → Walk → Checked
resolved_in h w = record (headed h.tables h.scope) { sites = w.sites; statements = w.statements }

-- the program with its names resolved; what has a fault has a default in its place
abbrev pub resolved_program : Program → Checked
resolved_program p = resolved_in (head_of p) (walked (head_of p) p)

-- all faults of a program, in no order
abbrev pub all_faults : Program → List SourceFault
all_faults p = head_faults p ++ along (step (head_of p)) (step_faults (head_of p)) (start (head_of p)) p.statements

-- the resolved program, where there is no fault, else the first by place and by row of the table
abbrev pub IsAnswer : Program → Result Checked SourceStop → Type 0
IsAnswer p (Ok c) = (c ≡ resolved_program p) × (all_faults p ≡ [])
IsAnswer p (Err (Fault f)) = IsLeast f (all_faults p)
IsAnswer p (Err Memory) = Unit {0}
