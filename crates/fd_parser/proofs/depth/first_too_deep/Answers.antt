use Rattle.std.proofs.Common.{arith, ap, sym, ◌∙◌}
use Rattle.fd_parser.specs.Depth.{too_deep, next_depth}
use Rattle.fd_parser.proofs.Depths.{nothing_deep, no_tokens, deep_here, still_here, next_here}
use Rattle.fd_parser.proofs.depth.first_too_deep.Goals as goal

pub loop-place-init : goal.loop-place-init
loop-place-init c = record { shallow = nothing_deep; depth = c.none-depth.ensures ∙ no_tokens }

pub returns-then-exceeded_by : goal.returns-then-exceeded_by
returns-then-exceeded_by c =
    let token = c.index-tokens-place in
    deep_here c.args.tokens.now c.loop-place.place token.result c.loop-place.depth (omega arith) token.is c.loop-place.invariant.shallow
    c.loop-place.invariant.depth
    (ap (too_deep c.loop-place.depth) (sym c.sort_of-sort.ensures) ∙ sym c.exceeded_by.ensures ∙ c.if-exceeded_by.true)

pub loop-place-preserved : goal.loop-place-preserved
loop-place-preserved c =
    let token = c.index-tokens-place in
    record {
      shallow = still_here c.args.tokens.now c.loop-place.place token.result c.loop-place.depth (omega arith) token.is
          c.loop-place.invariant.shallow c.loop-place.invariant.depth
          (ap (too_deep c.loop-place.depth) (sym c.sort_of-sort.ensures) ∙ sym c.exceeded_by.ensures ∙ c.if-exceeded_by.false);
      depth = c.next-depth.ensures ∙ ap (next_depth c.loop-place.depth) c.sort_of-sort.ensures
          ∙ next_here c.args.tokens.now c.loop-place.place token.result c.loop-place.depth (omega arith) token.is
          c.loop-place.invariant.depth;
    }
