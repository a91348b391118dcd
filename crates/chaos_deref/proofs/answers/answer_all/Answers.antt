use Rattle.chaos_deref.proofs.Steps.{answer_step}
use Rattle.chaos_deref.proofs.answers.answer_all.Goals as goal

pub loop-i-preserved : goal.loop-i-preserved
loop-i-preserved c =
    answer_step c.args.pages.now c.args.asked.now c.loop-i.i c.place.result c.loop-i.answers c.append_place.new.numbers c.loop-i-test.true
    c.loop-i.invariant c.place.ensures c.in_ok-append_place.ensures
