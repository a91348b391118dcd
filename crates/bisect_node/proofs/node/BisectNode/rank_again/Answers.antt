use Rattle.std.proofs.Common.{◌≡◌, ℤ, ◌+◌, ◌-◌, ◌^◌, List, ap, ◌∙◌, rules}
use Rattle.bsp_core.specs.Views.{View}
use Rattle.bisect_node.specs.States.{BisectState}
use Rattle.bisect_node.specs.declared.work.Work.{Work}
use Rattle.bisect_node.proofs.Entering.{enters}
use Rattle.bisect_node.specs.Ends.{IsPhaseFor, entered, phase_after, ranked_again}
use Rattle.bisect_node.specs.Steps.{counted}
use Rattle.bisect_node.proofs.node.BisectNode.rank_again.Goals as goal

pub returns-clause-ok : goal.returns-clause-ok
returns-clause-ok c =
    let s = c.self.inside in
    let v : View BisectState = record { face = s.desk; state = record { job = s.job; work = s.work } } in
    let of = λ (told : List ℤ). let w : Work = record {
      pieces = s.work.pieces;
      cuts = s.work.cuts;
      found = c.args.found;
      told = told;
      text = s.work.text;
    } in w in
    let told : c.in_ok-told.told ≡ counted (2 ^ (83 - (c.args.bits + 1))) s.work.cuts c.args.found = search rules in
    let begun : IsPhaseFor v.state.job (phase_after v.state.job v.face) (v.face.left - 1) v.face.me c.in_ok-told.told
    c.in_ok-phase.phase = search rules in
    enters v c.put.new.self c.in_ok-phase.phase (of c.in_ok-told.told) begun c.put.ensures
    ∙ ap (λ (l : List ℤ). entered v (of l)) told
    ∙ ap (ranked_again c.args.bits c.args.found) c.self.view_is
