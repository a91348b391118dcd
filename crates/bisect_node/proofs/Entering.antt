-- A node enters a phase.
use Rattle.std.proofs.Common.{◌≡◌, ℕ, ◌-◌, List, [], ap, ◌∙◌}
use Rattle.chaos_letter.specs.declared.letter.Letter.{Letter}
use Rattle.chaos_letter.specs.declared.wanted.Wanted.{Wanted}
use Rattle.bsp_core.specs.Views.{Face, View}
use Rattle.bsp_desk.specs.declared.desk.Phase.{Phase}
use Rattle.bisect_node.specs.Ends.{IsPhaseFor, entered, next_face, out_in, phase_after}
use Rattle.bisect_node.specs.States.{BisectState}
use Rattle.bisect_node.specs.declared.work.Work.{Work}

pub enters : (v : View BisectState) (face : Face) (phase : Phase) (work : Work)
    → IsPhaseFor v.state.job (phase_after v.state.job v.face) (v.face.left - 1) v.face.me work.told phase
    → face ≡ record { me = v.face.me; count = v.face.count; left = phase.left; out = phase.out.items; due = phase.due.items; got = [] }
    → record { face = face; state = record { job = v.state.job; work = work } } ≡ entered v work
enters v face phase work begun put =
    let with = λ (left : ℕ) (out : List (ℕ × Letter)) (due : List (ℕ × Wanted)).
    let f : Face = record { me = v.face.me; count = v.face.count; left = left; out = out; due = due; got = [] } in f in
    let is : face ≡ next_face v.state.job v.face work.told =
    put
    ∙ ap (λ n. with n phase.out.items phase.due.items) begun.left
    ∙ ap (λ out. with (v.face.left - 1) out phase.due.items) begun.out
    ∙ ap (λ due. with (v.face.left - 1) (out_in v.state.job (phase_after v.state.job v.face) v.face.me work.told) due) begun.due in
    ap (λ (f : Face). let w : View BisectState = record { face = f; state = record { job = v.state.job; work = work } } in w) is
