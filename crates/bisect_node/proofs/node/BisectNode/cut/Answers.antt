use Rattle.std.proofs.Common.{◌≡◌, ℕ, ℤ, ◌-◌, List, [], ap, ◌∙◌, rules}
use Rattle.bsp_core.specs.Views.{View}
use Rattle.bisect_node.specs.States.{BisectState}
use Rattle.bisect_node.specs.declared.work.Work.{Work}
use Rattle.bisect_node.proofs.Entering.{enters}
use Rattle.bisect_node.specs.Ends.{IsPhaseFor, cut_at, entered, phase_after, told_begun}
use Rattle.bisect_node.specs.Steps.{cut_pieces}
use Rattle.bisect_node.specs.declared.cuts.Cut.{Cut}
use Rattle.bisect_node.specs.declared.pieces.Piece.{Piece}
use Rattle.bisect_node.proofs.node.BisectNode.cut.Goals as goal

pub returns-clause-ok : goal.returns-clause-ok
returns-clause-ok c =
    let s = c.self.inside in
    let v : View BisectState = record { face = s.desk; state = record { job = s.job; work = s.work } } in
    let of = λ (pieces : List Piece) (cuts : List Cut) (found : List ℕ) (told : List ℤ).
    let w : Work = record { pieces = pieces; cuts = cuts; found = found; told = told; text = s.work.text } in w in
    let halves : c.in_ok-halves.halves ≡ cut_pieces s.work.cuts c.args.found 0 s.work.pieces = search rules in
    let told : c.in_ok-told.told ≡ told_begun s.job (phase_after s.job s.desk) s.desk.me c.in_ok-halves.halves = search rules in
    let begun : IsPhaseFor v.state.job (phase_after v.state.job v.face) (v.face.left - 1) v.face.me c.in_ok-told.told
    c.in_ok-phase.phase = search rules in
    let begin = λ (pieces : List Piece). told_begun s.job (phase_after s.job s.desk) s.desk.me pieces in
    enters v c.put.new.self c.in_ok-phase.phase (of c.in_ok-halves.halves c.new.result c.new-2.result c.in_ok-told.told) begun c.put.ensures
    ∙ ap (λ (x : List Cut). entered v (of c.in_ok-halves.halves x c.new-2.result c.in_ok-told.told)) c.new.ensures
    ∙ ap (λ (x : List ℕ). entered v (of c.in_ok-halves.halves [] x c.in_ok-told.told)) c.new-2.ensures
    ∙ ap (λ (l : List ℤ). entered v (of c.in_ok-halves.halves [] [] l)) told
    ∙ ap (λ (l : List Piece). entered v (of l [] [] (begin l))) halves
    ∙ ap (cut_at c.args.found) c.self.view_is
