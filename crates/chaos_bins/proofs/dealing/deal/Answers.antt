use Rattle.std.proofs.Common.{◌∙◌, rules, of_z, to_z, map}
use Rattle.std.specs.Prelude.{FitsSigned}
use Rattle.std.specs.Int.{w64}
use Rattle.std.proofs.lemmas.Int.{to_z-of_z}
use Rattle.chaos_bins.specs.Plan.{pairs_in}
use Rattle.chaos_bins.specs.Dealing.{dealt_rows, stepped}
use Rattle.chaos_bins.proofs.Dealt.{deal_ended, deal_kept}
use Rattle.chaos_bins.proofs.dealing.deal.Goals as goal

pub loop-k-preserved : goal.loop-k-preserved
loop-k-preserved c =
    let first : FitsSigned w64 c.at-bin.result = search rules in
    let second : FitsSigned w64 c.at-value.result = search rules in
    let bins = c.args.layout.extent in
    let nodes = c.args.layout.nodes in
    deal_kept bins nodes c.loop-k.lists c.give_moved.new.lists
    (dealt_rows bins nodes c.args.lists.now (map (stepped bins) (pairs_in c.args.rows.now)))
    c.args.rows.now c.loop-k.k
    (to_z w64 (of_z w64 c.at-bin.result)) (to_z w64 (of_z w64 c.at-value.result)) c.loop-k-test.true
    (to_z-of_z w64 c.at-bin.result first ∙ c.at-bin.ensures) (to_z-of_z w64 c.at-value.result second ∙ c.at-value.ensures)
    c.loop-k.invariant c.in_ok-give_moved.ensures

pub returns : goal.returns
returns c =
    let bins = c.args.layout.extent in
    let nodes = c.args.layout.nodes in
    deal_ended bins nodes c.loop-k.lists (dealt_rows bins nodes c.args.lists.now (map (stepped bins) (pairs_in c.args.rows.now)))
    c.args.rows.now
    c.loop-k.k c.loop-k-test.false c.loop-k.invariant
