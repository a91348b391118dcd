-- Elements of arrays in the body of a FORALL: their references, and the faults of these.
use Rattle.std.specs.Prelude.{ℕ, Bool, false, not, ◌&&◌, if◌then◌else◌, List, [], ◌++◌, Option, Some, None}
use Rattle.fd_words.specs.declared.source.SourcePlace.{SourcePlace}
use Rattle.fd_words.specs.declared.place.Role.{Role}
use Rattle.fd_words.specs.declared.place.Role.TheVariants.{Index}
use Rattle.fd_words.specs.declared.source.SourceCause.TheVariants as cause
use Rattle.fd_words.specs.declared.source.SourceFault.{SourceFault}
use Rattle.fd_syntax.specs.declared.expr.Element.{Element}
use Rattle.fd_syntax.specs.declared.expr.Subscript.{Subscript}
use Rattle.fd_syntax.specs.declared.expr.Subscript.TheVariants.{Plain, Through, Twice, Scalar}
use Rattle.fd_syntax.specs.declared.scalar.Term.{Term}
use Rattle.fd_program.specs.Stores.{array_at}
use Rattle.fd_program.specs.declared.reference.Reference.{Reference}
use Rattle.fd_program.specs.declared.reference.CheckedSubscript.TheVariants as resolved
use Rattle.fd_scope.specs.declared.head.Head.{Head}
use Rattle.fd_scope.specs.Faults.{fault_if}
use Rattle.fd_loops.specs.declared.draft.Draft.{Draft}
use Rattle.fd_resolve.specs.declared.around.Around.{Around}
use Rattle.fd_loops.specs.Drafts.{is_crowded, is_nearly_crowded, with_reference, next_number, crowd_faults, stamp_for, after_stamp}
use Rattle.fd_loops.specs.Drafts.{stamp_faults}
use Rattle.fd_resolve.specs.Resolve.{array_called, array_or_first, array_unknown, offset_resolved, subscript_resolved, subscript_unknowns}
use Rattle.fd_resolve.specs.Resolve.{subscript_marks}

-- ---- the index references, directly before the reference whose subscript they give

abbrev pub index_reference : Head → Around → List ℕ → List Term → Reference
index_reference h a index_array inner_add =
    record { role = Index; array = array_or_first h a index_array; subscript = resolved.Plain (offset_resolved h a inner_add); stamp = 0 }

-- that of the array that is read through another
abbrev pub outer_reference : Head → Around → List ℕ → List ℕ → SourcePlace → List Term → List Term → Reference
outer_reference h a outer inner inner_at first second = record {
  role = Index;
  array = array_or_first h a outer;
  subscript = resolved.Through (array_or_first h a inner) inner_at (offset_resolved h a first) (offset_resolved h a second);
  stamp = 0;
}

abbrev pub after_index : Head → Around → Draft → Subscript → Draft
after_index h a d (Plain add) = d
after_index h a d (Through index_array at inner_add add) = with_reference d (index_reference h a index_array inner_add)
after_index h a d (Twice outer at inner inner_at first second add) =
    with_reference (with_reference d (index_reference h a inner first)) (outer_reference h a outer inner inner_at first second)
after_index h a d (Scalar s) = d

abbrev pub index_faults : Draft → Subscript → List SourceFault
index_faults d (Plain add) = []
index_faults d (Through index_array at inner_add add) = crowd_faults d at
index_faults d (Twice outer at inner inner_at first second add) =
    crowd_faults d inner_at ++ fault_if (is_nearly_crowded d && not (is_crowded d)) at cause.TooManyReferences
index_faults d (Scalar s) = []

-- an index reference is one too many already
abbrev pub is_index_crowded : Draft → Subscript → Bool
is_index_crowded d (Plain add) = false
is_index_crowded d (Through index_array at inner_add add) = is_crowded d
is_index_crowded d (Twice outer at inner inner_at first second add) = is_nearly_crowded d
is_index_crowded d (Scalar s) = false

-- ---- the reference itself; an unknown name needs no stamp

abbrev pub after_own_stamp : Head → Around → Draft → Subscript → Option ℕ → Draft
after_own_stamp h a d s None = d
after_own_stamp h a d s (Some array) =
    let facts = array_at h.tables.arrays array in after_stamp d facts.decomposition facts.offset (subscript_marks h a s)

abbrev pub own_stamp : Head → Around → Draft → Subscript → Option ℕ → ℕ
own_stamp h a d s None = 0
own_stamp h a d s (Some array) =
    let facts = array_at h.tables.arrays array in stamp_for d facts.decomposition facts.offset (subscript_marks h a s)

abbrev pub own_stamp_faults : Head → Around → Draft → Element → Option ℕ → List SourceFault
own_stamp_faults h a d e None = []
own_stamp_faults h a d e (Some array) =
    let facts = array_at h.tables.arrays array in stamp_faults d facts.decomposition facts.offset (subscript_marks h a e.subscript) e.at

abbrev pub own_reference : Head → Around → Draft → Role → Element → Reference
own_reference h a d role e = record {
  role = role;
  array = array_or_first h a e.name;
  subscript = subscript_resolved h a e.subscript;
  stamp = own_stamp h a d e.subscript (array_called h a e.name);
}

abbrev pub after_own : Head → Around → Role → Draft → Element → Draft
after_own h a role d e =
    if is_crowded d then d
    else with_reference (after_own_stamp h a d e.subscript (array_called h a e.name)) (own_reference h a d role e)

-- TooManyReferences: this is the 65th, and none of its index references
abbrev pub own_faults : Head → Around → Bool → Draft → Element → List SourceFault
own_faults h a is_noted d e =
    fault_if (is_crowded d && not is_noted) e.at cause.TooManyReferences ++ own_stamp_faults h a d e (array_called h a e.name)

-- ---- an element

abbrev pub after_element : Head → Around → Role → Draft → Element → Draft
after_element h a role d e = after_own h a role (after_index h a d e.subscript) e

-- the number of its reference
abbrev pub element_number : Head → Around → Draft → Element → ℕ
element_number h a d e = next_number (after_index h a d e.subscript)

abbrev pub element_faults : Head → Around → Draft → Element → List SourceFault
element_faults h a d e =
    array_unknown h a e.name e.at
    ++ (subscript_unknowns h a e.subscript
    ++ (index_faults d e.subscript ++ own_faults h a (is_index_crowded d e.subscript) (after_index h a d e.subscript) e))
