use Rattle.std.proofs.Common.{ap, sym, ◌∙◌}
use Rattle.std.specs.Prelude.{ℤ}
use Rattle.list_laws.specs.Dealt.{dealt-none}
use Rattle.chaos_deref.specs.Asking.{page_for, asks_for}
use Rattle.chaos_deref.proofs.Steps.{ask_step, all_asked}
use Rattle.chaos_deref.proofs.asks.split_asks.Goals as goal

pub loop-i-init : goal.loop-i-init
loop-i-init c = c.in_ok-lists.ensures ∙ sym (dealt-none (page_for c.args.extent c.args.nodes) (λ (v : ℤ). v) 0 c.args.nodes)

pub loop-i-preserved : goal.loop-i-preserved
loop-i-preserved c =
    ask_step c.args.extent c.args.nodes c.as_slice-all.result.now c.loop-i.i (c.page_at-page.result) c.loop-i.lists c.ask.new.lists
    c.loop-i-test.true c.loop-i.invariant c.page_at-page.ensures.page c.in_ok-ask.ensures

pub returns : goal.returns
returns c =
    all_asked c.args.extent c.args.nodes c.as_slice-all.result.now c.loop-i.i c.loop-i.lists c.loop-i-test.false c.loop-i.invariant
    ∙ ap (asks_for c.args.extent c.args.nodes) c.as_slice-all.ensures
