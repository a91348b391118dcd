use Rattle.std.proofs.Common.{◌≡◌, ◌+◌, ◌++◌, ◌∷◌, [], rules, arith}
use Rattle.std.proofs.lemmas.Bool.{le-ltb, lt-ltb}
use Rattle.bisect_node.specs.Steps.{cut_pieces, halves_by}
use Rattle.bisect_node.proofs.Cutting.{halves_else, halves_then}
use Rattle.bisect_node.proofs.pieces.cut_all.Goals as goal
use Rattle.bisect_node.proofs.pieces.cut_all.Goals.{then-piece-gt1+in_ok-push_cut, else-piece-gt1+in_ok-copy+in_ok-push}

pub loop-piece-preserved : goal.loop-piece-preserved
loop-piece-preserved c =
    let cuts = c.args.cuts.now in
    let found = c.args.found.now in
    let pieces = c.args.pieces.now in
    let piece = c.piece-item.result in
    let at = c.loop-piece.at in
    let halves = c.loop-piece.halves in
    let all = cut_pieces cuts found 0 pieces in
    elim c.if-piece-gt1.branch [
      | then-piece-gt1+in_ok-push_cut w ↦
          let more : c.if-piece-gt1.halves ≡ halves ++ halves_by cuts found at piece = search rules in
          let next : c.if-piece-gt1.at ≡ at + 1 = search rules in (
            omega (arith, next, c.loop-piece.invariant.0),
            halves_then cuts found pieces c.loop-piece.piece-index piece c.loop-piece-test.true c.piece-item.is halves all at
                c.loop-piece.invariant.1 c.if-piece-gt1.halves c.if-piece-gt1.at (lt-ltb 1 piece.parts w.if-piece-gt1.true) more next,
          )
      | else-piece-gt1+in_ok-copy+in_ok-push w ↦
          let more : c.if-piece-gt1.halves ≡ halves ++ piece ∷ [] = search rules in
          let same : c.if-piece-gt1.at ≡ at = search rules in (
            omega (arith, same, c.loop-piece.invariant.0),
            halves_else cuts found pieces c.loop-piece.piece-index piece c.loop-piece-test.true c.piece-item.is halves all at
                c.loop-piece.invariant.1 c.if-piece-gt1.halves c.if-piece-gt1.at (le-ltb 1 piece.parts w.if-piece-gt1.false) more same,
          )
    ]
