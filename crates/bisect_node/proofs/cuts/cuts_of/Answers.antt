use Rattle.std.proofs.Common.{◌≡◌, ◌*◌, ◌++◌, ◌∷◌, [], rules}
use Rattle.std.proofs.lemmas.Bool.{le-ltb, lt-ltb}
use Rattle.bisect_node.specs.Steps.{cut_by, cuts_from, place_past}
use Rattle.bisect_node.proofs.Cutting.{cuts_else, cuts_then}
use Rattle.bisect_node.proofs.cuts.cuts_of.Goals as goal
use Rattle.bisect_node.proofs.cuts.cuts_of.Goals.{then-piece-gt1+in_ok-cut+in_ok-push, else-piece-gt1}

pub loop-piece-preserved : goal.loop-piece-preserved
loop-piece-preserved c =
    let axes = c.args.axes in
    let told = c.args.told.now in
    let got = c.args.got.now in
    let pieces = c.args.pieces.now in
    let piece = c.piece-item.result in
    let all = cuts_from axes told got 0 pieces in
    elim c.if-piece-gt1.branch [
      | then-piece-gt1+in_ok-cut+in_ok-push w ↦
          let more : c.if-piece-gt1.cuts ≡ c.loop-piece.cuts ++ cut_by axes told got c.loop-piece.base piece ∷ [] = search rules in
          let place : c.if-piece-gt1.base ≡ place_past c.loop-piece.base (2 * axes) = search rules in
          cuts_then axes told got pieces c.loop-piece.piece-index piece c.loop-piece-test.true c.piece-item.is c.loop-piece.cuts all
          c.loop-piece.base
          c.loop-piece.invariant c.if-piece-gt1.cuts c.if-piece-gt1.base (lt-ltb 1 piece.parts w.if-piece-gt1.true) more place
      | else-piece-gt1 w ↦
          let same : c.if-piece-gt1.cuts ≡ c.loop-piece.cuts = search rules in
          let place : c.if-piece-gt1.base ≡ c.loop-piece.base = search rules in
          cuts_else axes told got pieces c.loop-piece.piece-index piece c.loop-piece-test.true c.piece-item.is c.loop-piece.cuts all
          c.loop-piece.base
          c.loop-piece.invariant c.if-piece-gt1.cuts c.if-piece-gt1.base (le-ltb 1 piece.parts w.if-piece-gt1.false) same place
    ]
