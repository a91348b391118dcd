use Rattle.std.proofs.Common.{◌≡◌, ◌≢◌, ◌+◌, suc, arith, ap, ◌∙◌, ◌++◌, drop}
use Rattle.chaos_holdings.specs.Parts.{parts_with}
use Rattle.chaos_holdings.proofs.PartLists.{parts_taken, parts_kept, parts_all}
use Rattle.chaos_holdings.proofs.moved.parts_after.Goals as goal
use Rattle.chaos_holdings.proofs.moved.parts_after.Goals.{then-arrays-array+in_ok-list_in+in_ok-push}
use Rattle.chaos_holdings.proofs.moved.parts_after.Goals.{else-arrays-array+in_ok-list_in-2+in_ok-push-2}

pub loop-array-preserved : goal.loop-array-preserved
loop-array-preserved c = elim c.if-arrays-array.branch [
  | then-arrays-array+in_ok-list_in+in_ok-push w ↦
      let next : c.if-arrays-array.taken ≡ suc c.loop-array.taken = omega (
        arith,
        w.taken-is,
        w.saturating_add-taken.ensures,
        c.loop-array.invariant.0,
      ) in
      let of : c.index-arrays-array.result.decomposition ≡ c.args.decomposition = cc w.if-arrays-array.true in (
        omega (arith, next, c.loop-array.invariant.0),
        parts_taken c.args.arrays.now c.args.decomposition c.args.parts.now c.args.pieces.now c.loop-array.array c.loop-array.taken
            c.if-arrays-array.taken
            c.index-arrays-array.result c.loop-array.lists c.if-arrays-array.lists w.in_ok-list_in.field-0 _ c.loop-array-test.true
            c.index-arrays-array.is of
            w.in_ok-list_in.ensures (w.lists-is ∙ w.in_ok-push.ensures.ok) next c.loop-array.invariant.1,
      )
  | else-arrays-array+in_ok-list_in-2+in_ok-push-2 w ↦
      let other : c.index-arrays-array.result.decomposition ≢ c.args.decomposition = λ e. w.if-arrays-array.false (cc e) in (
        omega (arith, w.taken-is, c.loop-array.invariant.0),
        ap (λ n. c.if-arrays-array.lists
            ++ parts_with (drop (c.loop-array.array + 1) c.args.arrays.now) c.args.decomposition
            (drop (c.loop-array.array + 1) c.args.parts.now) (drop n c.args.pieces.now)) w.taken-is
            ∙ parts_kept c.args.arrays.now c.args.decomposition c.args.parts.now c.args.pieces.now c.loop-array.array c.loop-array.taken
            c.index-arrays-array.result c.loop-array.lists c.if-arrays-array.lists w.in_ok-list_in-2.field-0 _ c.loop-array-test.true
            c.index-arrays-array.is other
            w.in_ok-list_in-2.ensures (w.lists-is ∙ w.in_ok-push-2.ensures.ok) c.loop-array.invariant.1,
      )
]

pub returns : goal.returns
returns c = parts_all c.args.arrays.now c.args.decomposition c.args.parts.now c.args.pieces.now c.loop-array.array c.loop-array.taken
    c.loop-array.lists _ (omega arith) c.loop-array.invariant.1
