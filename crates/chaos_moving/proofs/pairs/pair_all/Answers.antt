use Rattle.std.proofs.Common.{ℕ, sym, refl, ◌∙◌}
use Rattle.std.specs.Prelude.{ℤ}
use Rattle.list_laws.specs.Dealt.{dealt-none}
use Rattle.chaos_moving.proofs.PairSteps.{pair_step}
use Rattle.chaos_moving.proofs.pairs.pair_all.Goals as goal

pub loop-at-init : goal.loop-at-init
loop-at-init c = c.in_ok-lists.ensures ∙ sym (dealt-none (λ (pair : ℕ × ℤ). pair.0) (λ (pair : ℕ × ℤ). pair.1) 0 c.args.nodes)

pub loop-at-preserved : goal.loop-at-preserved
loop-at-preserved c =
    pair_step c.args.extent c.args.nodes c.args.offset c.args.elements.now c.args.values.now c.loop-at.at c.named-element.result _
    c.loop-at.lists c.add_pair.new.lists
    c.loop-at.invariant c.in_ok-add_pair.ensures c.named-element.ensures.element refl
