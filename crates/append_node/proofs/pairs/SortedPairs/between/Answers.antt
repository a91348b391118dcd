use Rattle.std.proofs.Common.{◌-◌, ◌∙◌, ap, drop, map, sym, take}
use Rattle.std.proofs.lemmas.List.{drop-map, take-map}
use Rattle.append_node.specs.Keys.{pair_of}
use Rattle.append_node.proofs.pairs.SortedPairs.between.Goals as goal

pub returns : goal.returns
returns c =
    let count = c.args.to - c.args.from in
    sym (take-map pair_of count (drop c.args.from c.as_slice.result.now))
    ∙ ap (take count) (sym (drop-map pair_of c.args.from c.as_slice.result.now)
    ∙ ap (λ l. drop c.args.from (map pair_of l)) c.as_slice.ensures.value)
    ∙ ap (λ l. take count (drop c.args.from l)) c.self.view_is
