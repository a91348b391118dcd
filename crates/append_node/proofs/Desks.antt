-- A phase that was made as a desk takes it.
use Rattle.std.specs.Prelude.{◌≡◌, ℕ, ◌≤◌, List, [], length, vec_capacity}
use Rattle.std.proofs.Common.{subst, sym}
use Rattle.chaos_letter.specs.declared.letter.Letter.{Letter}
use Rattle.chaos_letter.specs.declared.wanted.Wanted.{Wanted}
use Rattle.bsp_core.specs.Views.{Ascends, nodes_in}
use Rattle.append_node.specs.Begins.{CanBegin}
use Rattle.append_node.specs.declared.begin.Begun.{Begun}
use Rattle.append_node.specs.declared.begin.Seat.{Seat}

pub can_begin : (seat : Seat) (left : ℕ) (b : Begun) (out : List (ℕ × Letter)) (due : List (ℕ × Wanted)) → b.phase.left ≡ left
    → b.phase.got.items ≡ [] → length b.phase.due.items ≤ vec_capacity b.phase.got
    → b.phase.out.items ≡ out → Ascends seat.me seat.count 0 (nodes_in out)
    → b.phase.due.items ≡ due → Ascends seat.me seat.count 0 (nodes_in due)
    → Ascends seat.me seat.count 0 (nodes_in b.next.items) → CanBegin seat left b
can_begin seat left b out due lefts got room out_is out_up due_is due_up next_up = record {
  left = lefts;
  got = got;
  room = room;
  out_up = subst (λ (z : List (ℕ × Letter)). Ascends seat.me seat.count 0 (nodes_in z)) (sym out_is) out_up;
  due_up = subst (λ (z : List (ℕ × Wanted)). Ascends seat.me seat.count 0 (nodes_in z)) (sym due_is) due_up;
  next_up = next_up;
}
