use Rattle.std.proofs.Common.{◌≡◌, ◌++◌, ◌∷◌, [], pos, get_or, rules}
use Rattle.bisect_node.specs.Indexed.{map_from-at}
use Rattle.bisect_node.specs.Steps.{key_at, number_at}
use Rattle.bisect_node.proofs.cuts.keys_of.Goals as goal

pub loop-k-preserved : goal.loop-k-preserved
loop-k-preserved c =
    let all = c.as_slice-all.result.now in
    let axis = c.args.axis.now in
    let k = c.loop-k.k in
    let more : c.push.new.self ≡ c.loop-k.keys ++ key_at (number_at axis k) (get_or all k (pos 0)) ∷ [] = search rules in
    map_from-at (λ k element. key_at (number_at axis k) element) all k (pos 0) c.loop-k.keys c.push.new.self c.loop-k-test.true
    c.loop-k.invariant more
