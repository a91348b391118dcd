use Rattle.chaos_begin.proofs.Kept.{inspection_begins}
use Rattle.chaos_begin.proofs.between.Between.loop_begun.Goals as goal

pub returns-in_ok-facts-clause-begun : goal.returns-in_ok-facts-clause-begun
returns-in_ok-facts-clause-begun c = λ s past v between at.
    inspection_begins s past v c.args.self.now c.args.site c.args.turn.now c.args.does c.in_ok-facts.facts between
    c.in_ok-facts.ensures.facts c.if-does.true at
