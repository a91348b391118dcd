use Rattle.std.proofs.Common.{rules, ◌≡◌, ◌++◌, List, [], ◌∷◌, FitsSigned, w64, ℤ, pos, ap, ◌∙◌, get_or}
use Rattle.std.specs.Prelude.{slice_get}
use Rattle.std.proofs.lemmas.Int.{to_z-of_z}
use Rattle.chaos_execute.specs.Columns.{seated_column, value_in}
use Rattle.chaos_sched.specs.declared.local_ref.LocalRef.{LocalRef}
use Rattle.chaos_execute.proofs.Blocks.{over_more}
use Rattle.chaos_execute.proofs.columns.read_seated.Goals as goal

pub loop-i-preserved : goal.loop-i-preserved
loop-i-preserved c =
    let a = c.args in
    let fits : FitsSigned w64 c.read_at.result = search rules in
    let f = λ (i : ℤ) (r : List LocalRef). value_in a.part.now a.ghosts.now (slice_get r a.at) in
    let pushed : c.push.new.self.items ≡ c.loop-i.column.items ++ f (get_or a.block.now.iterations.now c.loop-i._i-index (pos 0))
    c.loop-i.left.now
    ∷ [] =
    c.in_ok-push.ensures.items ∙ ap (λ v. c.loop-i.column.items ++ v ∷ []) (to_z-of_z w64 c.read_at.result fits ∙ c.read_at.ensures) in
    over_more f a.block.now.width a.block.now.iterations.now c.loop-i._i-index (pos 0) c.loop-i.left.now c.behind-left.result.now
    c.loop-i.column.items
    c.push.new.self.items (seated_column a.part.now a.ghosts.now a.at a.block.now.width a.block.now.iterations.now a.block.now.row.now)
    c.loop-i-test.true
    c.loop-i.invariant pushed c.behind-left.ensures
