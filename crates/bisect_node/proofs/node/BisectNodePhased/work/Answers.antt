use Rattle.std.proofs.Common.{◌≡◌, ℕ, List, ap, ◌∙◌}
use Rattle.bsp_core.specs.Views.{View}
use Rattle.bisect_node.specs.Ends.{after_print, own_lines, printed}
use Rattle.bisect_node.specs.States.{BisectState}
use Rattle.bisect_node.specs.declared.stage.Stage.TheVariants.{Spread, Rank, Print}
use Rattle.bisect_node.proofs.Works.{on_ok_then, printed-is, works-in}
use Rattle.bisect_node.proofs.node.BisectNodePhased.work.Goals as goal

pub returns-in-Spread-clause-ok : goal.returns-in-Spread-clause-ok
returns-in-Spread-clause-ok c =
    works-in _ c.args.self.now c.end_spread.new.self Spread c.stage_at.result c.phase.result c.end_spread.result c.self.view_is c.requires
    c.in-Spread.is c.stage_at.ensures c.phase.ensures.is c.end_spread.ensures.ok

pub returns-in-Rank-clause-ok : goal.returns-in-Rank-clause-ok
returns-in-Rank-clause-ok c =
    works-in _ c.args.self.now c.end_rank.new.self (Rank c.in-Rank.bits) c.stage_at.result c.phase.result c.end_rank.result c.self.view_is
    c.requires c.in-Rank.is c.stage_at.ensures c.phase.ensures.is c.end_rank.ensures.ok

pub returns-in_ok-told-in-Print-clause-ok : goal.returns-in_ok-told-in-Print-clause-ok
returns-in_ok-told-in-Print-clause-ok c =
    let v : View BisectState = c.args.self.now in
    let told = c.in_ok-told-in-Print.told in
    let all : printed c.in_ok-own-in-Print.own told v ≡ after_print v =
    ap (λ (l : List ℕ). printed l told v) c.in_ok-own-in-Print.ensures
    ∙ ap (λ (l : List ℕ). printed (own_lines v) l v) c.in_ok-told-in-Print.ensures
    ∙ printed-is v in
    works-in _ v c.end_print.new.self Print c.stage_at.result c.phase.result c.end_print.result c.self.view_is c.requires c.in-Print.is
    c.stage_at.ensures c.phase.ensures.is
    (on_ok_then (c.end_print.new.self ≡ printed c.in_ok-own-in-Print.own told v) (c.end_print.new.self ≡ after_print v) c.end_print.result
    (λ e. e ∙ all) c.end_print.ensures.ok)
