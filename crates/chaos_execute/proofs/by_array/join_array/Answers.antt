use Rattle.std.proofs.Common.{◌≡◌, [], ap, sym, ◌∙◌}
use Rattle.chaos_execute.specs.ByArray.{array_block}
use Rattle.chaos_execute.proofs.Arrays.{block_more, no_targets, none_there}
use Rattle.chaos_execute.proofs.by_array.join_array.Goals as goal

pub loop-at-preserved : goal.loop-at-preserved
loop-at-preserved c =
    let a = c.args in
    block_more a.array.now.operator a.array.now.own a.array.now.slots a.array.now.columns.now a.block.now.width a.targets.now c.loop-at.at
    a.block.now.iterations.now
    c.loop-at.left.now c.behind-left.result.now (c.loop-at.here, c.loop-at.ghosts) (c.join_targets.new.here, c.join_targets.new.ghosts)
    (array_block a.array.now.operator a.array.now.own a.array.now.slots a.array.now.columns.now a.block.now.width a.targets.now 0
    a.block.now.iterations.now a.block.now.row.now
    (a.here.now, a.ghosts.now)) c.loop-at-test.true c.in_ok-join_targets.ensures c.behind-left.ensures c.loop-at.invariant

pub returns-else-not-is_empty : goal.returns-else-not-is_empty
returns-else-not-is_empty c =
    let a = c.args in
    let none : a.targets.now ≡ [] = none_there a.targets.now (sym c.is_empty.ensures ∙ c.if-not-is_empty.false) in
    sym (ap (λ ts. array_block a.array.now.operator a.array.now.own a.array.now.slots a.array.now.columns.now a.block.now.width ts 0
    a.block.now.iterations.now a.block.now.row.now
    (a.here.now, a.ghosts.now)) none
    ∙ no_targets a.array.now.operator a.array.now.own a.array.now.slots a.array.now.columns.now a.block.now.width 0
    a.block.now.iterations.now a.block.now.row.now (a.here.now, a.ghosts.now))
