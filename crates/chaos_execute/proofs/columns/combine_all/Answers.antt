use Rattle.std.proofs.Common.{rules, ◌≡◌, length, ◌<◌, FitsSigned, w64, pos, to_z, of_z, ap, ◌∙◌, arith, refl, get_or}
use Rattle.std.proofs.lemmas.Int.{to_z-of_z}
use Rattle.fd_words.specs.Value.{wrapped}
use Rattle.fd_words.specs.Operators.{exactly}
use Rattle.chaos_execute.proofs.Blocks.{paired_more}
use Rattle.chaos_execute.proofs.columns.combine_all.Goals as goal

pub loop-at-preserved : goal.loop-at-preserved
loop-at-preserved c =
    let a = get_or c.loop-at.left c.loop-at.at (pos 0) in
    let b = get_or c.args.right.now c.loop-at.at (pos 0) in
    let small : c.loop-at.at < length c.loop-at.left = omega arith in
    let there : c.loop-at.at < length c.args.right.now = omega arith in
    let fits : FitsSigned w64 c.apply.result = search rules in
    let fits_a : FitsSigned w64 a = search rules in
    let fits_b : FitsSigned w64 b = search rules in
    let is : to_z w64 (of_z w64 c.apply.result) ≡ wrapped (exactly c.args.op a b) =
    to_z-of_z w64 c.apply.result fits ∙ c.apply.ensures
    ∙ ap (λ v. wrapped (exactly c.args.op v (to_z w64 (of_z w64 b)))) (to_z-of_z w64 a fits_a)
    ∙ ap (λ v. wrapped (exactly c.args.op a v)) (to_z-of_z w64 b fits_b) in
    paired_more c.args.op c.loop-at.left c.args.right.now _ _ c.loop-at.at (pos 0) (to_z w64 (of_z w64 c.apply.result)) small there
    c.loop-at.invariant is refl
