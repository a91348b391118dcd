use Rattle.std.proofs.Common.{arith, ◌+◌, take, ap, ◌∙◌}
use Rattle.std.specs.FinMap as fin
use Rattle.chaos_localise.specs.Local.{bare, after_items}
use Rattle.chaos_localise.proofs.Steps as step
use Rattle.chaos_localise.proofs.references.localise.Goals as goal

pub loop-item-preserved : goal.loop-item-preserved
loop-item-preserved c =
    let few = c.loop-item.invariant.few in
    let one = c.in_ok-local.ensures.few in
    record {
      seen = λ q. step.seen-more c.args.me q c.as_slice-items.result.now c.loop-item.item-index _ _ _ _ c.loop-item-test.true
          (c.loop-item.invariant.seen q) (c.in_ok-local.ensures.seen q);
      local = step.local-more c.args.me c.loop-item.table.held c.one.new.table.held c.as_slice-items.result.now c.loop-item.item-index _
          c.loop-item.refs c.keep.new.refs c.in_ok-local.local
          c.loop-item-test.true c.in_ok-local.ensures.keeps c.loop-item.invariant.local c.in_ok-local.ensures.local c.in_ok-keep.ensures;
      keeps = step.keeps-more c.args.table.now.held c.loop-item.table.held c.one.new.table.held c.loop-item.invariant.keeps
          c.in_ok-local.ensures.keeps;
      few = omega (arith, few, one);
    }

pub returns-in_err-keep-clause-memory : goal.returns-in_err-keep-clause-memory
returns-in_err-keep-clause-memory c = step.any_err c.from_residual-in_err-keep.result (
  c.loop-item.item-index + 1,
  λ q. step.seen-more c.args.me q c.as_slice-items.result.now c.loop-item.item-index _ _ _ _ c.loop-item-test.true
      (c.loop-item.invariant.seen q) (c.in_ok-local.ensures.seen q)
      ∙ ap (λ l. after_items c.args.me q (take (c.loop-item.item-index + 1) l) (bare (fin.get c.args.table.now.held q)))
      c.as_slice-items.ensures,
)
