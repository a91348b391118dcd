-- A FORALL as far as its body is through: its references, their stamps, and its targets.
use Rattle.std.specs.Prelude.{ℕ, ◌+◌, ℤ, Bool, true, false, ◌&&◌, ◌==◌, not, if◌then◌else◌, List, [], ◌∷◌, ◌++◌, length, slice_get}
use Rattle.std.specs.Prelude.{slice_set, unwrap_or, Option, Some, None, is_some, find, nat_le}
use Rattle.std.specs.Cmp.Lexicographic.{pointwise}
use Rattle.std.specs.List.{list_any}
use Rattle.std.specs.Option.{option_map}
use Rattle.std.specs.Ordering.{int_eq}
use Rattle.fd_words.specs.declared.combine.Combine.{Combine}
use Rattle.fd_words.specs.declared.combine.Combine.TheVariants.{Add, Min, Max}
use Rattle.fd_words.specs.declared.source.SourcePlace.{SourcePlace}
use Rattle.fd_words.specs.declared.source.SourceCause.TheVariants as cause
use Rattle.fd_words.specs.declared.source.SourceFault.{SourceFault}
use Rattle.fd_program.specs.declared.reference.Reference.{Reference}
use Rattle.fd_scope.specs.Faults.{fault_if}
use Rattle.fd_scope.specs.Names.{name_eq}
use Rattle.fd_loops.specs.declared.draft.Draft.{Draft}
use Rattle.fd_loops.specs.declared.draft.Stamped.{Stamped}
use Rattle.fd_loops.specs.declared.draft.Target.{Target}
use Rattle.fd_resolve.specs.declared.marks.Mark.{Mark}
use Rattle.fd_resolve.specs.contracts.marks.MarkPartialEq.TheImpl.{eq-value}

-- nothing is through; so many stamps of each decomposition are used
abbrev pub start_draft : List ℕ → Draft
start_draft used = record { references = []; terms = []; body = []; targets = []; stamped = []; used = used }

-- ---- references

-- 64 references are the most
abbrev pub is_crowded : Draft → Bool
is_crowded d = nat_le 64 (length d.references)

-- at most one more is taken
abbrev pub is_nearly_crowded : Draft → Bool
is_nearly_crowded d = nat_le 63 (length d.references)

abbrev pub with_reference : Draft → Reference → Draft
with_reference d r = if is_crowded d then d else record d { references = d.references ++ r ∷ [] }

-- the number of the next reference, from 1; 0 where it is one too many
abbrev pub next_number : Draft → ℕ
next_number d = if is_crowded d then 0 else length d.references + 1

-- TooManyReferences: there are 64 before this one
abbrev pub crowd_faults : Draft → SourcePlace → List SourceFault
crowd_faults d at = fault_if (is_crowded d) at cause.TooManyReferences

-- ---- stamps

-- two subscripts are the same but for places
abbrev pub same_marks : List Mark → List Mark → Bool
same_marks = pointwise eq-value.it

-- the stamp is of this decomposition, alignment offset and subscript
abbrev pub is_stamped : ℕ → ℤ → List Mark → Stamped → Bool
is_stamped decomposition offset marks s = s.decomposition == decomposition && int_eq s.offset offset && same_marks s.marks marks

abbrev pub stamp_in : List Stamped → ℕ → ℤ → List Mark → Option ℕ
stamp_in stamps decomposition offset marks = option_map (λ (s : Stamped). s.stamp) (find (is_stamped decomposition offset marks) stamps)

abbrev pub used_at : List ℕ → ℕ → ℕ
used_at used decomposition = unwrap_or (slice_get used decomposition) 0

-- 128 stamps are the most
abbrev pub is_worn : List ℕ → ℕ → Bool
is_worn used decomposition = nat_le 128 (used_at used decomposition)

-- the stamp of a reference: that of an earlier one, or the next of the decomposition
abbrev pub stamp_or_next : Option ℕ → List ℕ → ℕ → ℕ
stamp_or_next (Some stamp) used decomposition = stamp
stamp_or_next None used decomposition = if is_worn used decomposition then 0 else used_at used decomposition

abbrev pub stamp_for : Draft → ℕ → ℤ → List Mark → ℕ
stamp_for d decomposition offset marks = stamp_or_next (stamp_in d.stamped decomposition offset marks) d.used decomposition

-- a new stamp, where there is room
abbrev pub with_stamp : Draft → ℕ → ℤ → List Mark → Draft
with_stamp d decomposition offset marks =
    if is_worn d.used decomposition then d else record d {
      stamped = d.stamped ++ record {
        decomposition = decomposition;
        offset = offset;
        marks = marks;
        stamp = used_at d.used decomposition;
      } ∷ [];
      used = slice_set d.used decomposition (used_at d.used decomposition + 1);
    }

abbrev pub after_stamp : Draft → ℕ → ℤ → List Mark → Draft
after_stamp d decomposition offset marks = if is_some (stamp_in d.stamped decomposition offset marks) then d
    else with_stamp d decomposition offset marks

-- TooManyStamps: a new one is needed, and 128 are used
abbrev pub stamp_faults : Draft → ℕ → ℤ → List Mark → SourcePlace → List SourceFault
stamp_faults d decomposition offset marks at =
    fault_if (not (is_some (stamp_in d.stamped decomposition offset marks)) && is_worn d.used decomposition) at cause.TooManyStamps

-- ---- targets

abbrev pub same_operator : Combine → Combine → Bool
same_operator Add Add = true
same_operator Add Min = false
same_operator Add Max = false
same_operator Min Add = false
same_operator Min Min = true
same_operator Min Max = false
same_operator Max Add = false
same_operator Max Min = false
same_operator Max Max = true

abbrev pub is_assigned : List Target → List ℕ → Bool
is_assigned targets name = list_any (λ (t : Target). name_eq name t.name && not (is_some t.operator)) targets

abbrev pub is_reduced : List Target → List ℕ → Bool
is_reduced targets name = list_any (λ (t : Target). name_eq name t.name && is_some t.operator) targets

abbrev pub is_other : Option Combine → Combine → Bool
is_other None operator = false
is_other (Some other) operator = not (same_operator other operator)

abbrev pub is_reduced_otherwise : List Target → List ℕ → Combine → Bool
is_reduced_otherwise targets name operator = list_any (λ (t : Target). name_eq name t.name && is_other t.operator operator) targets

-- TwoAssigns, AssignAndReduce and TwoOperators, at a target behind these
abbrev pub clash_faults : List Target → List ℕ → Option Combine → SourcePlace → List SourceFault
clash_faults targets name None at =
    fault_if (is_assigned targets name) at (cause.TwoAssigns name) ++ fault_if (is_reduced targets name) at (cause.AssignAndReduce name)
clash_faults targets name (Some operator) at =
    fault_if (is_assigned targets name) at (cause.AssignAndReduce name) ++ fault_if (is_reduced_otherwise targets name operator) at
    (cause.TwoOperators name)

-- a target is kept as long as its references are
abbrev pub after_target : Draft → List ℕ → Option Combine → Draft
after_target d name operator = if is_crowded d then d else record d {
  targets = d.targets ++ record { name = name; operator = operator }
      ∷ [];
}
