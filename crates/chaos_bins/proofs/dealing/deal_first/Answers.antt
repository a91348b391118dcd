use Rattle.std.proofs.Common.{◌∙◌, ◌<◌, [], ap, arith, get_or, length, of_z, pos, replicate, rules, sym, to_z}
use Rattle.std.specs.Prelude.{FitsSigned}
use Rattle.std.specs.Int.{w64}
use Rattle.std.specs.List.{zip}
use Rattle.std.proofs.lemmas.Int.{to_z-of_z}
use Rattle.chaos_bins.specs.Dealing.{dealt_rows}
use Rattle.chaos_bins.specs.Rows.{number_is}
use Rattle.chaos_bins.proofs.Dealt.{first_kept, no_particle_more}
use Rattle.chaos_bins.proofs.dealing.deal_first.Goals as goal

pub loop-k-preserved : goal.loop-k-preserved
loop-k-preserved c =
    let bin = get_or c.args.bins.now c.loop-k.k (pos 0) in
    let value = get_or c.args.values.now c.loop-k.k (pos 0) in
    let first : FitsSigned w64 bin = search rules in
    let second : FitsSigned w64 value = search rules in
    let in_bins : c.loop-k.k < length c.args.bins.now = omega (arith, c.loop-k-test.true, c.min-count.ensures) in
    let in_values : c.loop-k.k < length c.args.values.now = omega (arith, c.loop-k-test.true, c.min-count.ensures) in
    first_kept c.args.layout.extent c.args.layout.nodes c.loop-k.lists c.give.new.lists
    (dealt_rows c.args.layout.extent c.args.layout.nodes (replicate c.args.layout.nodes []) (zip c.args.bins.now c.args.values.now))
    c.args.bins.now
    c.args.values.now c.loop-k.k (to_z w64 (of_z w64 bin)) (to_z w64 (of_z w64 value)) in_bins in_values
    (to_z-of_z w64 bin first ∙ number_is c.args.bins.now c.loop-k.k) (to_z-of_z w64 value second ∙ number_is c.args.values.now c.loop-k.k)
    c.loop-k.invariant c.in_ok-give.ensures

pub returns : goal.returns
returns c =
    let bins = c.args.layout.extent in
    let nodes = c.args.layout.nodes in
    ap (dealt_rows bins nodes c.loop-k.lists)
    (sym (no_particle_more c.args.bins.now c.args.values.now c.loop-k.k (omega (arith, c.loop-k-test.false, c.min-count.ensures))))
    ∙ c.loop-k.invariant
