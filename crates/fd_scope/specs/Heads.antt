-- What the head of a program settles: its names, the facts of arrays and decompositions, and the names of loops.
use Rattle.std.specs.Prelude.{ℕ, ℤ, pos, List, [], ◌∷◌, ◌++◌, length, map, fold, unwrap_or, Option, Some, None}
use Rattle.fd_words.specs.declared.source.SourceFault.{SourceFault}
use Rattle.fd_syntax.specs.declared.program.Program.{Program}
use Rattle.fd_syntax.specs.declared.statement.Statement.{Statement}
use Rattle.fd_syntax.specs.declared.statement.Statement.TheVariants.{Distribute, Print, Do, Forall}
use Rattle.fd_program.specs.declared.array.ArrayFacts.{ArrayFacts}
use Rattle.fd_program.specs.declared.array.LayoutName.{LayoutName}
use Rattle.fd_scope.specs.declared.head.Head.{Head}
use Rattle.fd_scope.specs.declared.scope.Alignment.{Alignment}
use Rattle.fd_scope.specs.declared.scope.ArrayEntry.{ArrayEntry}
use Rattle.fd_scope.specs.declared.scope.LayoutEntry.{LayoutEntry}
use Rattle.fd_scope.specs.declared.scope.Scope.{Scope}
use Rattle.fd_scope.specs.declared.scope.Tables.{Tables}
use Rattle.fd_scope.specs.Names.{with_loop}
use Rattle.fd_scope.specs.Scope.{declared, declared_faults}

-- ---- the names of loops

-- with the variable of a DO or the index of a FORALL
abbrev pub with_loop_of : List (List ℕ) → Statement → List (List ℕ)
with_loop_of names (Distribute at name name_at form) = names
with_loop_of names (Print at name name_at) = names
with_loop_of names (Do at variable variable_at low high inside) = with_loop names variable
with_loop_of names (Forall loop) = with_loop names loop.index

abbrev pub loop_names : List Statement → List (List ℕ)
loop_names statements = fold with_loop_of [] statements

-- ---- arrays and decompositions; what has no value is 0

abbrev pub layout_of : LayoutEntry → LayoutName
layout_of e = record { name = e.name; extent = unwrap_or e.extent 0 }

abbrev pub own_layout : ArrayEntry → LayoutName
own_layout e = record { name = e.name; extent = unwrap_or e.extent 0 }

abbrev pub array_facts : ArrayEntry → ℕ → ℤ → ArrayFacts
array_facts e decomposition offset = record { name = e.name; extent = unwrap_or e.extent 0; decomposition = decomposition; offset = offset }

-- an array that isn't aligned has a decomposition of its own, behind those that there are
abbrev pub entered : Tables → ArrayEntry → Option Alignment → Tables
entered t e None = record { arrays = t.arrays ++ array_facts e (length t.layouts) (pos 0) ∷ []; layouts = t.layouts ++ own_layout e ∷ [] }
entered t e (Some to) = record {
  arrays = t.arrays ++ array_facts e (unwrap_or to.decomposition 0) (unwrap_or to.offset (pos 0)) ∷ [];
  layouts = t.layouts;
}

abbrev pub after_entry : Tables → ArrayEntry → Tables
after_entry t e = entered t e e.aligned

abbrev pub tables_of : Scope → Tables
tables_of scope = fold after_entry (record { arrays = []; layouts = map layout_of scope.layouts }) scope.arrays

-- ---- the head

abbrev pub head_in : Scope → List Statement → Head
head_in scope statements = record { scope = scope; tables = tables_of scope; loops = loop_names statements }

abbrev pub head_of : Program → Head
head_of p = head_in (declared p.declarations) p.statements

abbrev pub head_faults : Program → List SourceFault
head_faults p = declared_faults (loop_names p.statements) p.declarations
