-- Worked programs and their data.
use Rattle.std.specs.Prelude.{ℕ, ℤ, pos, negsuc, List, [], ◌∷◌, codes}
use Rattle.chaos_dist.specs.declared.shape.Shape.TheVariants.{Block, Cyclic}
use Rattle.chaos_dist.specs.declared.step_form.StepForm.TheVariants.{Regular, Map}
use Rattle.fd_words.specs.declared.combine.Combine.TheVariants.{Add, Min}
use Rattle.fd_words.specs.declared.place.Role.TheVariants.{Read, Target}
use Rattle.fd_words.specs.declared.arith.Arith.TheVariants.{Plus, Minus, Times}
use Rattle.fd_program.specs.declared.array.ArrayFacts.{ArrayFacts}
use Rattle.fd_program.specs.declared.array.LayoutName.{LayoutName}
use Rattle.fd_program.specs.declared.body.CheckedBody.TheVariants.{Assign, Reduce}
use Rattle.fd_program.specs.declared.body.CheckedExpr as expr
use Rattle.fd_program.specs.declared.checked.Checked.{Checked}
use Rattle.fd_program.specs.declared.checked.CheckedStatement.{CheckedStatement}
use Rattle.fd_program.specs.declared.checked.CheckedStatement.TheVariants.{Distribute, Print, Do, Forall}
use Rattle.fd_program.specs.declared.reference.Reference.{Reference}
use Rattle.fd_program.specs.declared.site.Site.{Site}
use Rattle.plan_examples.specs.Words.{line, constant, variable, scalars, no_add, add, both, at_index, at_scalar, index_of, through, array}
use Rattle.plan_examples.specs.Words.{layout, output, forall_from}

abbrev pub zeros : List ℤ
zeros = pos 0 ∷ pos 0 ∷ pos 0 ∷ pos 0 ∷ []

abbrev pub tens : List ℤ
tens = pos 10 ∷ pos 20 ∷ pos 30 ∷ pos 40 ∷ []

-- ---- X(I) = 10*I at 1 to 4, then X(I) = X(I+1) at 1 to 3

abbrev pub first : Checked
first = record {
  arrays = array (codes "X") 4 0 ∷ [];
  layouts = layout (codes "X") 4 ∷ [];
  reads = [];
  outputs = output 0 ∷ [];
  sites =
      forall_from 4 (constant (pos 1)) (constant (pos 4)) (Assign 1 (both Times (expr.Number (pos 10)) expr.Index) ∷ [])
      (at_index Target 0 no_add 0 ∷ [])
      ∷ forall_from 7 (constant (pos 1)) (constant (pos 3)) (Assign 1 (expr.Read 2) ∷ []) (at_index Target 0 no_add 1 ∷ at_index Read 0
      (add (pos 1)) 2 ∷ [])
      ∷ [];
  statements = Forall 0 ∷ Forall 1 ∷ [];
}

-- ---- REDUCE(ADD, Y(IA(I)), X(I)) at 1 to 4

abbrev pub xyi_arrays : List ArrayFacts
xyi_arrays = array (codes "X") 4 0 ∷ array (codes "Y") 4 1 ∷ array (codes "IA") 4 2 ∷ []

abbrev pub xyi_layouts : List LayoutName
xyi_layouts = layout (codes "X") 4 ∷ layout (codes "Y") 4 ∷ layout (codes "IA") 4 ∷ []

abbrev pub xyi : List Site → List CheckedStatement → Checked
xyi sites statements =
    record {
      arrays = xyi_arrays;
      layouts = xyi_layouts;
      reads = pos 0 ∷ pos 2 ∷ [];
      outputs = output 1 ∷ [];
      sites = sites;
      statements = statements;
    }

abbrev pub scattering_loop : ℕ → Reference → Reference → Site
scattering_loop at_line index target =
    forall_from at_line (constant (pos 1)) (constant (pos 4)) (Reduce Add 2 (expr.Read 3) ∷ []) (index ∷ target ∷ at_index Read 0 no_add 0
    ∷ [])

abbrev pub scattering_at : ℕ → Site
scattering_at at_line = scattering_loop at_line (index_of 2 no_add) (through Target 1 2 no_add no_add 0)

abbrev pub scattering : Checked
scattering = xyi (scattering_at 5 ∷ []) (Forall 0 ∷ [])

abbrev pub scattering_data : List (List ℤ)
scattering_data = tens ∷ zeros ∷ (pos 2 ∷ pos 2 ∷ pos 4 ∷ pos 1 ∷ []) ∷ []

-- the subscript 9 is outside
abbrev pub outside_data : List (List ℤ)
outside_data = tens ∷ zeros ∷ (pos 2 ∷ pos 9 ∷ pos 0 ∷ pos 1 ∷ []) ∷ []

-- X is written before
abbrev pub printing : Checked
printing = xyi (scattering_at 6 ∷ []) (Print (line 5) 0 ∷ Forall 0 ∷ [])

-- the target Y(IA(I+1))
abbrev pub scattering_next : Checked
scattering_next = xyi (scattering_loop 5 (index_of 2 (add (pos 1))) (through Target 1 2 (add (pos 1)) no_add 0) ∷ []) (Forall 0 ∷ [])

-- the target Y(IA(I)+1)
abbrev pub scattering_behind : Checked
scattering_behind = xyi (scattering_loop 5 (index_of 2 no_add) (through Target 1 2 no_add (add (pos 1)) 0) ∷ []) (Forall 0 ∷ [])

abbrev pub greatest_data : List (List ℤ)
greatest_data = tens ∷ zeros ∷ (pos 1 ∷ pos 2 ∷ pos 3 ∷ pos 9223372036854775807 ∷ []) ∷ []

-- four times
abbrev pub reusing : Checked
reusing = xyi (scattering_at 6 ∷ []) (Do (line 5) (constant (pos 1)) (constant (pos 4)) 1 ∷ Forall 0 ∷ [])

-- four times, each followed by IA(I) = 1 at 1 to K-2
abbrev pub rewriting_loop : Site
rewriting_loop =
    forall_from 9 (constant (pos 1)) (scalars Minus (variable 0) (constant (pos 2))) (Assign 1 (expr.Number (pos 1)) ∷ [])
    (at_index Target 2 no_add 0 ∷ [])

abbrev pub rewriting : Checked
rewriting = xyi (scattering_at 6 ∷ rewriting_loop ∷ []) (Do (line 5) (constant (pos 1)) (constant (pos 4)) 2 ∷ Forall 0 ∷ Forall 1 ∷ [])

-- ---- X(I) = X(I+1) at 1 to 3, X(I+1) = X(I) there, and over an empty range

abbrev pub shift_of : ℤ → ℤ → Reference → Reference → Checked
shift_of low high target read = record {
  arrays = array (codes "X") 4 0 ∷ [];
  layouts = layout (codes "X") 4 ∷ [];
  reads = pos 0 ∷ [];
  outputs = output 0 ∷ [];
  sites = forall_from 5 (constant low) (constant high) (Assign 1 (expr.Read 2) ∷ []) (target ∷ read ∷ []) ∷ [];
  statements = Forall 0 ∷ [];
}

abbrev pub shifting : Checked
shifting = shift_of (pos 1) (pos 3) (at_index Target 0 no_add 0) (at_index Read 0 (add (pos 1)) 1)

abbrev pub shifting_on : Checked
shifting_on = shift_of (pos 1) (pos 3) (at_index Target 0 (add (pos 1)) 0) (at_index Read 0 no_add 1)

abbrev pub idle : Checked
idle = shift_of (pos 3) (pos 2) (at_index Target 0 no_add 0) (at_index Read 0 (add (pos 1)) 1)

abbrev pub ones_to_fours : List (List ℤ)
ones_to_fours = (pos 1 ∷ pos 2 ∷ pos 3 ∷ pos 4 ∷ []) ∷ []

-- ---- a sum that wraps: REDUCE(ADD, Y(1), Z(I)) at 1 to 2

abbrev pub wrapping : Checked
wrapping = record {
  arrays = array (codes "Y") 1 0 ∷ array (codes "Z") 2 1 ∷ [];
  layouts = layout (codes "Y") 1 ∷ layout (codes "Z") 2 ∷ [];
  reads = pos 1 ∷ [];
  outputs = output 0 ∷ [];
  sites = forall_from 5 (constant (pos 1)) (constant (pos 2)) (Reduce Add 1 (expr.Read 2) ∷ []) (at_scalar Target 0 (pos 1) 0
      ∷ at_index Read 1 no_add 0 ∷ []) ∷ [];
  statements = Forall 0 ∷ [];
}

abbrev pub wrapping_data : List (List ℤ)
wrapping_data = (pos 0 ∷ []) ∷ (pos 9223372036854775807 ∷ pos 1 ∷ []) ∷ []

-- ---- the old element takes part: REDUCE(MIN, Y(I), Z(I)) and REDUCE(MIN, Y(I+1), Z(I)) at 1

abbrev pub takes_lesser : Checked
takes_lesser = record {
  arrays = array (codes "Y") 2 0 ∷ array (codes "Z") 1 1 ∷ [];
  layouts = layout (codes "Y") 2 ∷ layout (codes "Z") 1 ∷ [];
  reads = pos 0 ∷ pos 1 ∷ [];
  outputs = output 0 ∷ [];
  sites =
      forall_from 5 (constant (pos 1)) (constant (pos 1)) (Reduce Min 1 (expr.Read 2) ∷ Reduce Min 3 (expr.Read 4) ∷ [])
      (at_index Target 0 no_add 0 ∷ at_index Read 1 no_add 0 ∷ at_index Target 0 (add (pos 1)) 1 ∷ at_index Read 1 no_add 0 ∷ []) ∷ [];
  statements = Forall 0 ∷ [];
}

abbrev pub lesser_data : List (List ℤ)
lesser_data = (pos 5 ∷ pos 5 ∷ []) ∷ (pos 9 ∷ []) ∷ []

-- ---- Y(I) = X(IB(I)) at 1 to 8

abbrev pub repeating : Checked
repeating = record {
  arrays = array (codes "X") 8 0 ∷ array (codes "Y") 8 1 ∷ array (codes "IB") 8 2 ∷ [];
  layouts = layout (codes "X") 8 ∷ layout (codes "Y") 8 ∷ layout (codes "IB") 8 ∷ [];
  reads = pos 0 ∷ pos 2 ∷ [];
  outputs = output 1 ∷ [];
  sites =
      forall_from 5 (constant (pos 1)) (constant (pos 8)) (Assign 1 (expr.Read 3) ∷ [])
      (at_index Target 1 no_add 0 ∷ index_of 2 no_add ∷ through Read 0 2 no_add no_add 0 ∷ []) ∷ [];
  statements = Forall 0 ∷ [];
}

abbrev pub repeating_data : List (List ℤ)
repeating_data =
    (pos 1 ∷ pos 2 ∷ pos 3 ∷ pos 4 ∷ pos 5 ∷ pos 6 ∷ pos 7 ∷ pos 8 ∷ [])
    ∷ (pos 0 ∷ pos 0 ∷ pos 0 ∷ pos 0 ∷ pos 0 ∷ pos 0 ∷ pos 0 ∷ pos 0 ∷ [])
    ∷ (pos 5 ∷ pos 5 ∷ pos 5 ∷ pos 5 ∷ pos 5 ∷ pos 5 ∷ pos 5 ∷ pos 5 ∷ []) ∷ []

-- ---- Y(I) = X(I+1) at 1 to 3, with and without DISTRIBUTE D(M)

abbrev pub next_loop : ℕ → Site
next_loop at_line =
    forall_from at_line (constant (pos 1)) (constant (pos 3)) (Assign 1 (expr.Read 2) ∷ []) (at_index Target 1 no_add 0 ∷ at_index Read 0
    (add (pos 1)) 1 ∷ [])

abbrev pub mapped : ℕ → List CheckedStatement → Checked
mapped at_line statements = record {
  arrays = array (codes "X") 4 0 ∷ array (codes "Y") 4 0 ∷ array (codes "M") 4 1 ∷ [];
  layouts = layout (codes "D") 4 ∷ layout (codes "M") 4 ∷ [];
  reads = pos 0 ∷ pos 2 ∷ [];
  outputs = output 1 ∷ [];
  sites = next_loop at_line ∷ [];
  statements = statements;
}

abbrev pub mapping : Checked
mapping = mapped 8 (Distribute (line 7) 0 (Map 2) ∷ Forall 0 ∷ [])

abbrev pub never_mapped : Checked
never_mapped = mapped 7 (Forall 0 ∷ [])

abbrev pub mapping_data : List (List ℤ)
mapping_data = tens ∷ zeros ∷ (negsuc 0 ∷ pos 7 ∷ pos 0 ∷ pos 2 ∷ []) ∷ []

-- ---- the same twice, each followed by DISTRIBUTE D(CYCLIC) and D(BLOCK), or by D(BLOCK) alone

abbrev pub moved_inside : List CheckedStatement → ℕ → Checked
moved_inside statements inside = record {
  arrays = array (codes "X") 4 0 ∷ array (codes "Y") 4 0 ∷ [];
  layouts = layout (codes "D") 4 ∷ [];
  reads = pos 0 ∷ [];
  outputs = output 1 ∷ [];
  sites = next_loop 8 ∷ [];
  statements = Do (line 7) (constant (pos 1)) (constant (pos 2)) inside ∷ Forall 0 ∷ statements;
}

abbrev pub moving : Checked
moving = moved_inside (Distribute (line 11) 0 (Regular Cyclic) ∷ Distribute (line 12) 0 (Regular Block) ∷ []) 3

abbrev pub staying : Checked
staying = moved_inside (Distribute (line 11) 0 (Regular Block) ∷ []) 2

abbrev pub moving_data : List (List ℤ)
moving_data = tens ∷ zeros ∷ []

-- ---- ten sweeps over the edges of a cube, its points distributed by a map

abbrev pub edge_references : List Reference
edge_references =
    index_of 3 no_add ∷ through Target 1 3 no_add no_add 0 ∷ index_of 4 no_add ∷ through Read 0 4 no_add no_add 1
    ∷ index_of 3 no_add ∷ through Read 0 3 no_add no_add 0 ∷ index_of 4 no_add ∷ through Target 1 4 no_add no_add 1
    ∷ index_of 3 no_add ∷ through Read 0 3 no_add no_add 0 ∷ index_of 4 no_add ∷ through Read 0 4 no_add no_add 1 ∷ []

abbrev pub edge_loop : Site
edge_loop =
    forall_from 11 (constant (pos 1)) (constant (pos 12))
    (Reduce Add 2 (both Minus (expr.Read 4) (expr.Read 6)) ∷ Reduce Add 8 (both Minus (expr.Read 10) (expr.Read 12)) ∷ []) edge_references

abbrev pub point_loop : Site
point_loop =
    forall_from 15 (constant (pos 1)) (constant (pos 8))
    (Assign 1 (both Plus (expr.Read 2) (expr.Read 3)) ∷ Assign 4 (expr.Number (pos 0)) ∷ [])
    (at_index Target 0 no_add 2 ∷ at_index Read 0 no_add 2 ∷ at_index Read 1 no_add 2 ∷ at_index Target 1 no_add 2 ∷ [])

abbrev pub sweeping : Checked
sweeping = record {
  arrays = array (codes "X") 8 0 ∷ array (codes "F") 8 0 ∷ array (codes "M") 8 2 ∷ array (codes "E1") 12 1 ∷ array (codes "E2") 12 1 ∷ [];
  layouts = layout (codes "P") 8 ∷ layout (codes "E") 12 ∷ layout (codes "M") 8 ∷ [];
  reads = pos 0 ∷ pos 2 ∷ pos 3 ∷ pos 4 ∷ [];
  outputs = output 0 ∷ [];
  sites = edge_loop ∷ point_loop ∷ [];
  statements = Distribute (line 9) 0 (Map 2) ∷ Do (line 10) (constant (pos 1)) (constant (pos 10)) 2 ∷ Forall 0 ∷ Forall 1 ∷ [];
}

abbrev pub sweeping_data : List (List ℤ)
sweeping_data =
    (pos 8 ∷ pos 0 ∷ pos 0 ∷ pos 0 ∷ pos 0 ∷ pos 0 ∷ pos 0 ∷ pos 0 ∷ [])
    ∷ (pos 0 ∷ pos 0 ∷ pos 0 ∷ pos 0 ∷ pos 0 ∷ pos 0 ∷ pos 0 ∷ pos 0 ∷ [])
    ∷ (pos 0 ∷ pos 1 ∷ pos 2 ∷ pos 3 ∷ pos 3 ∷ pos 2 ∷ pos 1 ∷ pos 0 ∷ [])
    ∷ (pos 1 ∷ pos 3 ∷ pos 5 ∷ pos 7 ∷ pos 1 ∷ pos 2 ∷ pos 5 ∷ pos 6 ∷ pos 1 ∷ pos 2 ∷ pos 3 ∷ pos 4 ∷ [])
    ∷ (pos 2 ∷ pos 4 ∷ pos 6 ∷ pos 8 ∷ pos 3 ∷ pos 4 ∷ pos 7 ∷ pos 8 ∷ pos 5 ∷ pos 6 ∷ pos 7 ∷ pos 8 ∷ []) ∷ []
