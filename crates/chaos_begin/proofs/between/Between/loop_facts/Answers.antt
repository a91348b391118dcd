use Rattle.std.proofs.Common.{ap, sym, subst, ◌∙◌, arith, length}
use Rattle.std.proofs.lemmas.Result.{IfOk-weaker}
use Rattle.chaos_facts.proofs.Exact.{layout_count}
use Rattle.inspect_uses.specs.Accepted.{IsAccepted}
use Rattle.fd_program.specs.declared.loop_facts.LoopFacts.{LoopFacts}
use Rattle.chaos_begin.proofs.between.Between.loop_facts.Goals as goal

pub returns-clause-fit : goal.returns-clause-fit
returns-clause-fit c =
    let b = c.args.self.now in
    let sound = c.requires.sound in
    IfOk-weaker c.facts_of.result _ _ (λ f e. record {
      accepted = subst IsAccepted (sym e)
          (c.facts_are_known.ensures.accepted b.checked.now b.nodes b.rule b.records.now c.args.site c.args.turn.now sound.checked
          sound.some_nodes sound.few_nodes c.requires.site c.requires.range);
      node = omega (arith, sound.node, ap (λ (f : LoopFacts). f.nodes) e);
      arrays = ap (λ (f : LoopFacts). f.arrays) e;
      few_arrays = omega (arith, sound.checked.few_arrays, ap (λ (f : LoopFacts). length f.arrays) e);
      layouts = ap (λ (f : LoopFacts). length f.layouts) e ∙ layout_count b.records.now 0 b.checked.now.layouts;
      nodes = ap (λ (f : LoopFacts). f.nodes) e;
    }) c.facts_of.ensures
