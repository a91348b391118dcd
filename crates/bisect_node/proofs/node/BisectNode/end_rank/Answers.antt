use Rattle.std.proofs.Common.{◌≡◌, true, false, rules}
use Rattle.std.proofs.lemmas.Bool.{le-ltb, lt-ltb}
use Rattle.bisect_node.specs.Ends.{found_behind}
use Rattle.bisect_node.proofs.Works.{ranks}
use Rattle.bisect_node.proofs.node.BisectNode.end_rank.Goals as goal

pub returns-then-bits-lt83-clause-ok : goal.returns-then-bits-lt83-clause-ok
returns-then-bits-lt83-clause-ok c =
    let found : c.in_ok-found.found ≡ found_behind c.args.bits c.self.inside.work c.self.inside.desk.got = search rules in
    ranks _ c.args.self.now c.rank_again.new.self c.args.bits c.in_ok-found.found true c.rank_again.result c.self.view_is found
    (lt-ltb c.args.bits 83 c.if-bits-lt83.true) c.rank_again.ensures.ok

pub returns-else-bits-lt83-clause-ok : goal.returns-else-bits-lt83-clause-ok
returns-else-bits-lt83-clause-ok c =
    let found : c.in_ok-found.found ≡ found_behind c.args.bits c.self.inside.work c.self.inside.desk.got = search rules in
    ranks _ c.args.self.now c.cut.new.self c.args.bits c.in_ok-found.found false c.cut.result c.self.view_is found
    (le-ltb c.args.bits 83 c.if-bits-lt83.false) c.cut.ensures.ok
