use Rattle.std.proofs.Common.{◌≡◌, ℕ, ℤ, ◌-◌, ◌^◌, List, map, ap, ◌∙◌, rules}
use Rattle.bsp_core.specs.Views.{View}
use Rattle.bisect_node.specs.States.{BisectState}
use Rattle.bisect_node.specs.declared.work.Work.{Work}
use Rattle.bisect_node.proofs.Entering.{enters}
use Rattle.bisect_node.specs.Ends.{IsPhaseFor, after_spread, entered, phase_after}
use Rattle.bisect_node.specs.Steps.{counted, cuts_from}
use Rattle.bisect_node.specs.declared.cuts.Cut.{Cut}
use Rattle.bisect_node.proofs.node.BisectNode.end_spread.Goals as goal

pub returns-clause-ok : goal.returns-clause-ok
returns-clause-ok c =
    let s = c.self.inside in
    let v : View BisectState = record { face = s.desk; state = record { job = s.job; work = s.work } } in
    let of = λ (cuts : List Cut) (found : List ℕ) (told : List ℤ). let w : Work = record {
      pieces = s.work.pieces;
      cuts = cuts;
      found = found;
      told = told;
      text = s.work.text;
    } in w in
    let cuts : c.in_ok-cuts.cuts ≡ cuts_from s.job.axes s.work.told s.desk.got 0 s.work.pieces = search rules in
    let found : c.in_ok-found.found ≡ map (λ _. 0) c.in_ok-cuts.cuts = search rules in
    let told : c.in_ok-told.told ≡ counted (2 ^ 83) c.in_ok-cuts.cuts c.in_ok-found.found = search rules in
    let begun : IsPhaseFor v.state.job (phase_after v.state.job v.face) (v.face.left - 1) v.face.me c.in_ok-told.told
    c.in_ok-phase.phase = search rules in
    enters v c.put.new.self c.in_ok-phase.phase (of c.in_ok-cuts.cuts c.in_ok-found.found c.in_ok-told.told) begun c.put.ensures
    ∙ ap (λ (l : List ℤ). entered v (of c.in_ok-cuts.cuts c.in_ok-found.found l)) told
    ∙ ap (λ (l : List ℕ). entered v (of c.in_ok-cuts.cuts l (counted (2 ^ 83) c.in_ok-cuts.cuts l))) found
    ∙ ap (λ (l : List Cut). entered v (of l (map (λ _. 0) l) (counted (2 ^ 83) l (map (λ _. 0) l)))) cuts
    ∙ ap after_spread c.self.view_is
