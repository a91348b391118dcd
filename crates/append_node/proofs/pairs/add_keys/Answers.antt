use Rattle.std.proofs.Common.{◌∙◌, ◌++◌, ◌∷◌, [], ap, rules, of_z, to_z, map}
use Rattle.std.specs.Prelude.{FitsSigned}
use Rattle.std.specs.Int.{w64}
use Rattle.std.proofs.lemmas.Int.{to_z-of_z}
use Rattle.std.proofs.lemmas.List.{map-append}
use Rattle.chaos_bins.specs.Plan.{pairs_in}
use Rattle.append_node.specs.Keys.{pair_of}
use Rattle.append_node.proofs.Walks.{add_ended, add_kept}
use Rattle.append_node.proofs.pairs.add_keys.Goals as goal

pub loop-k-preserved : goal.loop-k-preserved
loop-k-preserved c =
    let first : FitsSigned w64 c.at-bin.result = search rules in
    let second : FitsSigned w64 c.at-value.result = search rules in
    let before = map pair_of c.loop-k.keys.items in
    add_kept before (map pair_of c.push.new.self.items) (map pair_of c.args.keys.now.items ++ pairs_in c.args.rows.now) c.args.rows.now
    c.loop-k.k
    (to_z w64 (of_z w64 c.at-bin.result)) (to_z w64 (of_z w64 c.at-value.result)) (pair_of c.key.result) c.loop-k-test.true
    (to_z-of_z w64 c.at-bin.result first ∙ c.at-bin.ensures) (to_z-of_z w64 c.at-value.result second ∙ c.at-value.ensures) c.key.ensures
    c.loop-k.invariant
    (ap (map pair_of) c.in_ok-push.ensures.items ∙ map-append pair_of c.loop-k.keys.items (c.key.result ∷ []))

pub returns : goal.returns
returns c =
    add_ended (map pair_of c.loop-k.keys.items) (map pair_of c.args.keys.now.items ++ pairs_in c.args.rows.now) c.args.rows.now c.loop-k.k
    c.loop-k-test.false c.loop-k.invariant
